-- The ticks and interrupts of two runs: where they stand, and those that come in both one after another.
use Rattle.std.proofs.Common.{◌≡◌, ℕ, zero, suc, ◌+◌, ◌≤◌, ◌<◌, Bool, true, false, cond, ◌&&◌, List, [], ◌∷◌, length, drop, get_or, zip, Option, Some, None}
use Rattle.std.proofs.Common.{refl, ap, ap₂, sym, subst, ◌∙◌, arith}
use Rattle.std.specs.Prelude.{All, Contains, option_map, slice_get}
use Rattle.std.specs.List.{cons_option, filter_map}
use Rattle.std.proofs.lemmas.Bool.{and_from, and_parts}
use Rattle.std.proofs.lemmas.List.Elements.{All-cons, All-head, All-nil, All-tail}
use Rattle.std.proofs.lemmas.Option.{get_or_from_slice_get, slice_get-map, slice_get_within}
use Rattle.bench_types.specs.declared.step.Step.{Step}
use Rattle.run_comparisons.specs.declared.place_pair.PlacePair.{PlacePair}
use Rattle.run_comparisons.specs.Alike.{are_alike}
use Rattle.run_comparisons.specs.PairLaws.{AreAlikeAt, HaveSameMoments}
use Rattle.run_comparisons.specs.Shared.{event_places, is_moment, is_same_event, moments, paired_at, paired_events}
use Rattle.run_comparisons.proofs.AlikeSteps.{may_share}
use Rattle.run_comparisons.proofs.BothRuns.{given_there}
use Rattle.run_comparisons.proofs.SharedMet.{AreMet}
use Rattle.run_comparisons.proofs.SharedPlaces.{alike_itself, from_outside, Ascend}

-- ---- places that ascend

-- from one on and below another
abbrev pub Up : ℕ → ℕ → List ℕ → Type 0
Up count from [] = Unit {0}
Up count from (place ∷ places) = (from ≤ place) × (place < count) × Up count (suc place) places

sooner : (count from later : ℕ) (places : List ℕ) → from ≤ later → Up count later places → Up count from places
sooner count from later [] early up = tt
sooner count from later (place ∷ places) early up = (omega (arith, early, up.0), up.1, up.2)

places_up : (test : Step → Bool) (count place : ℕ) (steps : List Step) → place + length steps ≤ count → Up count place (event_places test place steps)
places_up test count place [] few = tt
places_up test count place (step ∷ steps) few = at (test step) (places_up test count (suc place) steps (omega (arith, few)))
  where
    at : (b : Bool) → Up count (suc place) (event_places test (suc place) steps) → Up count place
        (cond b (place ∷ event_places test (suc place) steps) (event_places test (suc place) steps))
    at true rest = (omega arith, omega (arith, few), rest)
    at false rest = sooner count place (suc place) (event_places test (suc place) steps) (omega arith) rest

pub moments_up : (run : List Step) → Up (length run) 0 (moments run)
moments_up run = places_up is_moment (length run) 0 run (omega arith)

-- ---- behind so many of them

-- where those behind so many begin; at the end where there are none
abbrev pub edge : ℕ → ℕ → List ℕ → ℕ
edge count many places = get_or places many count

from_edge : (count from many : ℕ) (places : List ℕ) → Up count from places → from ≤ count → from ≤ edge count many places
from_edge count from many [] up low = low
from_edge count from zero (place ∷ places) up low = up.0
from_edge count from (suc many) (place ∷ places) up low =
    let rest = from_edge count (suc place) many places up.2 (omega (arith, up.1)) in
    omega (arith, rest, up.0)

pub edge_within : (count from many : ℕ) (places : List ℕ) → Up count from places → edge count many places ≤ count
edge_within count from many [] up = omega arith
edge_within count from zero (place ∷ places) up = omega (arith, up.1)
edge_within count from (suc many) (place ∷ places) up = edge_within count (suc place) many places up.2

pub below_edge : (count from many number : ℕ) (places : List ℕ) → Up count from places → number < many → number < length places → get_or places number 0 < edge
    count many places
below_edge count from many number [] up fewer within = absurd (omega (arith, within))
below_edge count from zero number (place ∷ places) up fewer within = absurd (omega (arith, fewer))
below_edge count from (suc many) zero (place ∷ places) up fewer within = from_edge count (suc place) many places up.2 (omega (arith, up.1))
below_edge count from (suc many) (suc number) (place ∷ places) up fewer within = below_edge count (suc place) many number places up.2 (omega (arith, fewer))
    (omega (arith, within))

pub beyond_up : (count from many : ℕ) (places : List ℕ) → Up count from places → Up count (edge count many places) (drop many places)
beyond_up count from zero [] up = tt
beyond_up count from (suc many) [] up = tt
beyond_up count from zero (place ∷ places) up = (omega arith, up.1, up.2)
beyond_up count from (suc many) (place ∷ places) up = beyond_up count (suc place) many places up.2

-- ---- pairs of them

-- the pair is one of the places, and alike steps stand there
record IsPaired (before after : List Step) (place later : ℕ) (pair : PlacePair) : Type 0 where
  pub first : pair.before ≡ place
  pub second : pair.after ≡ later
  pub alike : AreAlikeAt before after pair.before pair.after

is_paired : (before after : List Step) (place later : ℕ) (pair : PlacePair) → paired_at before after (place, later) ≡ Some pair → IsPaired before after place later
    pair
is_paired before after place later pair is = at (slice_get before place) refl (slice_get after later) refl is
  where
    of_both : (step other : Step) → slice_get before place ≡ Some step → slice_get after later ≡ Some other → (same : Bool) →
        (is_moment step && are_alike step other) ≡ same → cond same (Some (record { before = place; after = later })) None ≡ Some pair
        → IsPaired before after place later pair
    of_both step other found met false tells one = absurd (cc one)
    of_both step other found met true tells one =
        let pair_is : record { before = place; after = later } ≡ pair = cc one in
        let first = sym (ap (λ (one : PlacePair). one.before) pair_is) in
        let second = sym (ap (λ (one : PlacePair). one.after) pair_is) in
        record {
          first = first;
          second = second;
          alike = record {
            step = step;
            other = other;
            stands = ap (slice_get before) first ∙ found;
            beside = ap (slice_get after) second ∙ met;
            alike = may_share step other (and_parts (is_moment step) (are_alike step other) tells).1;
          };
        }

    at : (step : Option Step) → slice_get before place ≡ step → (other : Option Step) → slice_get after later ≡ other
        → cond (is_same_event is_moment step other) (Some (record { before = place; after = later })) None ≡ Some pair → IsPaired before after place later pair
    at (Some step) found (Some other) met one = of_both step other found met (is_moment step && are_alike step other) refl one
    at (Some step) found None met one = absurd (cc one)
    at None found other met one = absurd (cc one)

module _ (before after : List Step) where
  abbrev paired : ℕ × ℕ → Option PlacePair
  paired both = paired_at before after both

  pub earlier : (pick : PlacePair → ℕ) (count from later : ℕ) (pairs : List PlacePair) → from ≤ later → Ascend pick count later pairs → Ascend pick count from pairs
  earlier pick count from later [] early up = tt
  earlier pick count from later (pair ∷ pairs) early up = (omega (arith, early, up.0), up.1, up.2)

  pub before_up : (places later : List ℕ) (from : ℕ) → Up (length before) from places → Ascend (λ pair. pair.before) (length before) from
      (filter_map paired (zip places later))
  before_up [] later from up = tt
  before_up (place ∷ places) [] from up = tt
  before_up (place ∷ places) (other ∷ later) from up = at (before_up places later (suc place) up.2) (paired (place, other)) refl
    where
      at : Ascend (λ pair. pair.before) (length before) (suc place) (filter_map paired (zip places later)) → (found : Option PlacePair) →
          paired (place, other) ≡ found → Ascend (λ pair. pair.before) (length before) from (cons_option found (filter_map paired (zip places later)))
      at rest None is = earlier (λ pair. pair.before) (length before) from (suc place) (filter_map paired (zip places later)) (omega (arith, up.0)) rest
      at rest (Some pair) is =
          let one = is_paired before after place other pair is in (
            omega (arith, up.0, one.first),
            omega (arith, up.1, one.first),
            subst (λ n. Ascend (λ (pair : PlacePair). pair.before) (length before) (suc n) (filter_map paired (zip places later))) (sym one.first) rest,
          )

  pub after_up : (places later : List ℕ) (from : ℕ) → Up (length after) from later → Ascend (λ pair. pair.after) (length after) from
      (filter_map paired (zip places later))
  after_up [] later from up = tt
  after_up (place ∷ places) [] from up = tt
  after_up (place ∷ places) (other ∷ later) from up = at (after_up places later (suc other) up.2) (paired (place, other)) refl
    where
      at : Ascend (λ pair. pair.after) (length after) (suc other) (filter_map paired (zip places later)) → (found : Option PlacePair) →
          paired (place, other) ≡ found → Ascend (λ pair. pair.after) (length after) from (cons_option found (filter_map paired (zip places later)))
      at rest None is = earlier (λ pair. pair.after) (length after) from (suc other) (filter_map paired (zip places later)) (omega (arith, up.0)) rest
      at rest (Some pair) is =
          let one = is_paired before after place other pair is in (
            omega (arith, up.0, one.second),
            omega (arith, up.1, one.second),
            subst (λ n. Ascend (λ (pair : PlacePair). pair.after) (length after) (suc n) (filter_map paired (zip places later))) (sym one.second) rest,
          )

  pub pairs_alike : (places later : List ℕ) → All (λ pair. AreAlikeAt before after pair.before pair.after) (filter_map paired (zip places later))
  pairs_alike [] later = λ k d short. absurd (omega (arith, short))
  pairs_alike (place ∷ places) [] = λ k d short. absurd (omega (arith, short))
  pairs_alike (place ∷ places) (other ∷ later) = at (pairs_alike places later) (paired (place, other)) refl
    where
      it : PlacePair → Type 0
      it pair = AreAlikeAt before after pair.before pair.after

      at : All it (filter_map paired (zip places later)) → (found : Option PlacePair) → paired (place, other) ≡ found → All it
          (cons_option found (filter_map paired (zip places later)))
      at rest None is = rest
      at rest (Some pair) is = All-cons it pair (filter_map paired (zip places later)) (is_paired before after place other pair is).alike rest

  pub paired_met : AreMet before after (paired_events before after)
  paired_met = record {
    up_before = before_up (moments before) (moments after) 0 (moments_up before);
    up_after = after_up (moments before) (moments after) 0 (moments_up after);
    alike = pairs_alike (moments before) (moments after);
  }

-- ---- where they stand

-- an event stands at a place, where the first step has another
record IsEventFrom (test : Step → Bool) (first : ℕ) (steps : List Step) (place : ℕ) : Type 0 where
  pub index : ℕ
  pub event : Step
  pub at : place ≡ first + index
  pub stands : slice_get steps index ≡ Some event
  pub is : test event ≡ true

one_behind : (test : Step → Bool) (first : ℕ) (step : Step) (steps : List Step) (place : ℕ) → IsEventFrom test (suc first) steps place → IsEventFrom test first
    (step ∷ steps) place
one_behind test first step steps place found =
    let further : suc first + found.index ≡ first + suc found.index = omega arith in
    record { index = suc found.index; event = found.event; at = found.at ∙ further; stands = found.stands; is = found.is }

moved : (test : Step → Bool) (first : ℕ) (step : Step) (steps : List Step) (places : List ℕ) → All (IsEventFrom test (suc first) steps) places → All
    (IsEventFrom test first (step ∷ steps)) places
moved test first step steps [] all = All-nil (IsEventFrom test first (step ∷ steps))
moved test first step steps (place ∷ places) all =
    All-cons (IsEventFrom test first (step ∷ steps)) place places
    (one_behind test first step steps place (All-head (IsEventFrom test (suc first) steps) place places all))
    (moved test first step steps places (All-tail (IsEventFrom test (suc first) steps) place places all))

events_listed : (test : Step → Bool) (first : ℕ) (steps : List Step) → All (IsEventFrom test first steps) (event_places test first steps)
events_listed test first [] = All-nil (IsEventFrom test first [])
events_listed test first (step ∷ steps) =
    at (test step) refl (moved test first step steps (event_places test (suc first) steps) (events_listed test (suc first) steps))
  where
    at : (b : Bool) → test step ≡ b → All (IsEventFrom test first (step ∷ steps)) (event_places test (suc first) steps) → All
        (IsEventFrom test first (step ∷ steps)) (cond b (first ∷ event_places test (suc first) steps) (event_places test (suc first) steps))
    at false is rest = rest
    at true is rest =
        let here : first ≡ first + 0 = omega arith in
        All-cons (IsEventFrom test first (step ∷ steps)) first (event_places test (suc first) steps)
        (record { index = 0; event = step; at = here; stands = refl; is = is }) rest

-- a tick or an interrupt stands at the place
pub record IsMomentAt (run : List Step) (place : ℕ) : Type 0 where
  pub event : Step
  pub stands : slice_get run place ≡ Some event
  pub is : is_moment event ≡ true

pub moment_stands : (run : List Step) (number place : ℕ) → slice_get (moments run) number ≡ Some place → IsMomentAt run place
moment_stands run number place found =
    let low = slice_get_within (moments run) number place found in
    let it = subst (IsEventFrom is_moment 0 run) (get_or_from_slice_get (moments run) number place place found)
    (events_listed is_moment 0 run number place low) in
    let from_start : place ≡ it.index = omega (arith, it.at) in
    record { event = it.event; stands = ap (slice_get run) from_start ∙ it.stands; is = it.is }

-- two items of one number stand beside each other
zip_there : {X Y : Type 0} (xs : List X) (ys : List Y) (k : ℕ) (x : X) (y : Y) → slice_get xs k ≡ Some x → slice_get ys k ≡ Some y → slice_get (zip xs ys) k ≡ Some
    (x, y)
zip_there [] ys k x y first second = absurd (cc first)
zip_there (one ∷ xs) [] k x y first second = absurd (cc second)
zip_there {X} {Y} (one ∷ xs) (two ∷ ys) zero x y first second =
    let same : one ≡ x = cc first in
    let too : two ≡ y = cc second in
    ap₂ (λ (a : X) (b : Y). Some (a, b)) same too
zip_there (one ∷ xs) (two ∷ ys) (suc k) x y first second = zip_there xs ys k x y first second

-- one event at places of one number is a shared event
pub paired_there : (before after : List Step) (places later : List ℕ) (number place beside : ℕ) (event : Step) → slice_get places number ≡ Some place → slice_get
    later number ≡ Some beside → slice_get before place ≡ Some event → slice_get after beside ≡ Some event → is_moment event ≡ true
    → Contains (filter_map (paired_at before after) (zip places later)) (record { before = place; after = beside })
paired_there before after places later number place beside event listed met stands too is =
    let pair : PlacePair = record { before = place; after = beside } in
    let alike : is_same_event is_moment (slice_get before place) (slice_get after beside) ≡ true =
    ap₂ (is_same_event is_moment) stands too ∙ and_from (is_moment event) (are_alike event event) is (alike_itself event (from_outside event is)) in
    let gives : paired_at before after (place, beside) ≡ Some pair = ap (λ (b : Bool). cond b (Some pair) None) alike in
    let there = zip_there places later number place beside listed met in
    let all = zip places later in
    given_there (paired_at before after) all number (place, beside) pair (slice_get_within all number (place, beside) there)
    (get_or_from_slice_get all number (place, beside) (place, beside) there) gives

-- where both runs have the same ticks and interrupts, those of one number are a shared event
pub moment_shared : (before after : List Step) (number place : ℕ) → HaveSameMoments before after → slice_get (moments before) number ≡ Some place →
    (later : ℕ) × (slice_get (moments after) number ≡ Some later) × Contains (paired_events before after) (record { before = place; after = later })
moment_shared before after number place same found = by (slice_get (moments after) number) refl steps
  where
    steps : option_map (slice_get after) (slice_get (moments after) number) ≡ Some (slice_get before place)
    steps = sym (slice_get-map (slice_get after) (moments after) number) ∙ ap (λ (list : List (Option Step)). slice_get list number) (sym same)
        ∙ slice_get-map (slice_get before) (moments before) number ∙ ap (option_map (slice_get before)) found

    by : (other : Option ℕ) → slice_get (moments after) number ≡ other → option_map (slice_get after) other ≡ Some (slice_get before place) →
        (later : ℕ) × (slice_get (moments after) number ≡ Some later) × Contains (paired_events before after) (record { before = place; after = later })
    by None met is = absurd (cc is)
    by (Some later) met is =
        let one = moment_stands before number place found in
        let beside : slice_get after later ≡ slice_get before place = cc is in (
          later,
          met,
          paired_there before after (moments before) (moments after) number place later one.event found met one.stands (beside ∙ one.stands) one.is,
        )
