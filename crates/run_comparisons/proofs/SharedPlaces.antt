-- What is known of the events that two sessions share: each stands in both runs, and they ascend.
use Rattle.std.proofs.Common.{◌≡◌, ℕ, zero, suc, ◌+◌, ◌≤◌, ◌<◌, Bool, true, false, cond, not, ◌&&◌, List, [], ◌∷◌, ◌++◌, get_or, flat_map, Option, Some}
use Rattle.std.proofs.Common.{None, refl, ap, sym, ◌∙◌, arith}
use Rattle.std.specs.Prelude.{All, slice_get}
use Rattle.std.specs.List.{cons_option, filter_map, range_with_len}
use Rattle.std.proofs.lemmas.Bool.{and_parts}
use Rattle.std.proofs.lemmas.Bool.Decides.{nat_tests}
use Rattle.std.proofs.lemmas.List.Elements.{All-cons}
use Rattle.std.proofs.lemmas.Option.{slice_get_within}
use Rattle.bench_types.specs.declared.note.NotifyAction.{NotifyAction}
use Rattle.bench_types.specs.declared.note.NotifyAction.TheVariants.{Nothing, SetBits, Increment, Set, SetNew}
use Rattle.bench_types.specs.declared.note.Note.{Note}
use Rattle.bench_types.specs.declared.step.Step.{Step}
use Rattle.bench_types.specs.declared.step.Step.TheVariants.{Tick, Interrupt, QueueInterrupt, ResumeInterrupt, Pass}
use Rattle.bench_model.specs.SameTest.{are_same_actions, are_same_notes}
use Rattle.kept_runs.specs.Works.{is_pass}
use Rattle.settled_runs.specs.SettleLaws.{comes_from_outside}
use Rattle.run_comparisons.specs.declared.place_pair.PlacePair.{PlacePair}
use Rattle.run_comparisons.specs.declared.rows.Row.{Row}
use Rattle.run_comparisons.specs.declared.rows.Row.TheVariants.{Both, Removed, Inserted}
use Rattle.run_comparisons.specs.Alike.{are_alike}
use Rattle.run_comparisons.specs.Rows.{place_after, place_before}
use Rattle.run_comparisons.specs.Shared.{is_moment, is_same_event, place_in, places_in, shared_among, shared_at, AreEventsOf}
use Rattle.run_comparisons.specs.PairLaws.{AreAlikeAt}
use Rattle.run_comparisons.proofs.AlikeSteps.{may_share}
use Rattle.run_comparisons.proofs.SameCalls.{direction_itself}
use Rattle.run_comparisons.proofs.EventPlaces.{place_listed, stands_behind, stands_there}

-- ---- events that are alike

-- what is alike an event is one
abbrev pub Spreads : (Step → Bool) → Type 0
Spreads test = (step other : Step) → test step ≡ true → are_alike step other ≡ true → test other ≡ true

pub alike_outside : Spreads comes_from_outside
alike_outside Tick Tick is alike = refl
alike_outside (Interrupt core note) (Interrupt other sent) is alike = refl
alike_outside (QueueInterrupt core queue direction) (QueueInterrupt other others way) is alike = refl
alike_outside (ResumeInterrupt core task) (ResumeInterrupt other resumed) is alike = refl
alike_outside (Pass units) (Pass others) is alike = refl
alike_outside step other is alike = absurd (cc (is, alike))

moment_alike : (step other : Step) → is_moment step ≡ true → are_alike step other ≡ true → is_moment other ≡ true
moment_alike Tick Tick is alike = refl
moment_alike (Interrupt core note) (Interrupt other sent) is alike = refl
moment_alike (QueueInterrupt core queue direction) (QueueInterrupt other others way) is alike = refl
moment_alike (ResumeInterrupt core task) (ResumeInterrupt other resumed) is alike = refl
moment_alike step other is alike = absurd (cc (is, alike))

pub alike_moment : Spreads is_moment
alike_moment = moment_alike

-- a tick or an interrupt comes from outside
pub from_outside : (step : Step) → is_moment step ≡ true → comes_from_outside step ≡ true
from_outside step is = (and_parts (comes_from_outside step) (not (is_pass step)) is).0

action_itself : (action : NotifyAction) → are_same_actions action action ≡ true
action_itself Nothing = refl
action_itself (SetBits bits) = grind (arith, nat_tests)
action_itself Increment = refl
action_itself (Set value) = grind (arith, nat_tests)
action_itself (SetNew value) = grind (arith, nat_tests)

note_itself : (note : Note) → are_same_notes note note ≡ true
note_itself note = grind (arith, nat_tests, action_itself note.action)

pub alike_itself : (event : Step) → comes_from_outside event ≡ true → are_alike event event ≡ true
alike_itself Tick is = refl
alike_itself (Interrupt core note) is = grind (arith, nat_tests, note_itself note)
alike_itself (QueueInterrupt core queue direction) is = grind (arith, nat_tests, direction_itself direction)
alike_itself (ResumeInterrupt core task) is = grind (arith, nat_tests)
alike_itself (Pass units) is = grind (arith, nat_tests)
alike_itself step is = absurd (cc is)

-- ---- the row of a shared event

record IsSharedRow (test : Step → Bool) (session edited : List Step) (places later : List ℕ) (row : Row) (pair : PlacePair) : Type 0 where
  pub old : ℕ
  pub new : ℕ
  pub event : Step
  pub other : Step
  pub row_is : row ≡ Both old new
  pub found : slice_get session old ≡ Some event
  pub met : slice_get edited new ≡ Some other
  pub outside : test event ≡ true
  pub too : test other ≡ true
  pub alike : are_alike event other ≡ true
  pub before : pair.before ≡ get_or places old 0
  pub after : pair.after ≡ get_or later new 0

shared_row : (test : Step → Bool) → Spreads test → (session edited : List Step) (places later : List ℕ) (row : Row) (pair : PlacePair) → shared_at test session edited places later row ≡ Some pair →
    IsSharedRow test session edited places later row pair
shared_row test spreads session edited places later (Removed old) pair is = absurd (cc is)
shared_row test spreads session edited places later (Inserted new) pair is = absurd (cc is)
shared_row test spreads session edited places later (Both old new) pair is = at (slice_get session old) refl (slice_get edited new) refl is
  where
    of_both : (step other : Step) → slice_get session old ≡ Some step → slice_get edited new ≡ Some other → (same : Bool) →
        (test step && are_alike step other) ≡ same
        → cond same (Some (record { before = get_or places old 0; after = get_or later new 0 })) None ≡ Some pair → IsSharedRow test session edited places later
        (Both old new) pair
    of_both step other found met false tells one = absurd (cc one)
    of_both step other found met true tells one =
        let both = and_parts (test step) (are_alike step other) tells in
        let pair_is : record { before = get_or places old 0; after = get_or later new 0 } ≡ pair = cc one in
        record {
          old = old;
          new = new;
          event = step;
          other = other;
          row_is = refl;
          found = found;
          met = met;
          outside = both.0;
          too = spreads step other both.0 both.1;
          alike = both.1;
          before = sym (ap (λ (one : PlacePair). one.before) pair_is);
          after = sym (ap (λ (one : PlacePair). one.after) pair_is);
        }

    at : (step : Option Step) → slice_get session old ≡ step → (other : Option Step) → slice_get edited new ≡ other
        → cond (is_same_event test step other) (Some (record { before = get_or places old 0; after = get_or later new 0 })) None ≡ Some pair → IsSharedRow test session
        edited places later (Both old new) pair
    at (Some step) found (Some other) met one = of_both step other found met (test step && are_alike step other) refl one
    at (Some step) found None met one = absurd (cc one)
    at None found other met one = absurd (cc one)

-- ---- either side of the shared events

-- the place of the row in the session, where an event stands, and that of the pair in the run
pub record IsPlaced (test : Step → Bool) (side : Row → List ℕ) (pick : PlacePair → ℕ) (session run : List Step) (row : Row) (pair : PlacePair) : Type 0 where
  pub place : ℕ
  pub event : Step
  pub alone : side row ≡ place ∷ []
  pub found : slice_get session place ≡ Some event
  pub outside : test event ≡ true
  pub picked : pick pair ≡ place_in test run session place

-- the places ascend, from one on and below another
abbrev pub Ascend : (PlacePair → ℕ) → ℕ → ℕ → List PlacePair → Type 0
Ascend pick count from [] = Unit {0}
Ascend pick count from (pair ∷ pairs) = (from ≤ pick pair) × (pick pair < count) × Ascend pick count (suc (pick pair)) pairs

-- what is left of numbers one after another
rest_of : (xs ys : List ℕ) (m n : ℕ) → xs ++ ys ≡ range_with_len m n → (later : ℕ) × (many : ℕ) × (m ≤ later) × (ys ≡ range_with_len later many)
rest_of [] ys m n is = (m, n, omega arith, is)
rest_of (x ∷ xs) ys m zero is = absurd (cc is)
rest_of (x ∷ xs) ys m (suc n) is =
    let rest = rest_of xs ys (m + 1) n (cc is) in
    (rest.0, rest.1, omega (arith, rest.2), rest.3)

first_of : (x : ℕ) (ys : List ℕ) (m n : ℕ) → x ∷ ys ≡ range_with_len m n → (x ≡ m) × (many : ℕ) × (ys ≡ range_with_len (suc m) many)
first_of x ys m zero is = absurd (cc is)
first_of x ys m (suc n) is =
    let next : m + 1 ≡ suc m = omega arith in
    let rest : ys ≡ range_with_len (m + 1) n = cc is in
    (cc is, n, rest ∙ ap (λ from. range_with_len from n) next)

-- events of the session from a place on stand in the run from another on
abbrev StandFrom : (Step → Bool) → List Step → List Step → ℕ → ℕ → Type 0
StandFrom test session run from m = (place : ℕ) (event : Step) → m ≤ place → slice_get session place ≡ Some event → test event ≡ true → from ≤ place_in test
    run session place

-- and all of them below one
abbrev pub StandBelow : (Step → Bool) → List Step → List Step → ℕ → Type 0
StandBelow test session run most = (place : ℕ) (event : Step) → slice_get session place ≡ Some event → test event ≡ true → place_in test run session place < most

module _ (test : Step → Bool) (side : Row → List ℕ) (pick : PlacePair → ℕ) (session run : List Step) (events : AreEventsOf test session run) (most : ℕ)
    (below : StandBelow test session run most) (shared : Row → Option PlacePair)
    (given : (row : Row) (pair : PlacePair) → shared row ≡ Some pair → IsPlaced test side pick session run row pair) where
  ascend_from : (rows : List Row) (m n from : ℕ) → flat_map side rows ≡ range_with_len m n → StandFrom test session run from m → Ascend pick most from
      (filter_map shared rows)
  ascend_from [] m n from tiles low = tt
  ascend_from (row ∷ rows) m n from tiles low = at (λ i j k t l. ascend_from rows i j k t l) (shared row) refl
    where
      at : ((i j k : ℕ) → flat_map side rows ≡ range_with_len i j → StandFrom test session run k i → Ascend pick most k (filter_map shared rows)) →
          (found : Option PlacePair) → shared row ≡ found → Ascend pick most from (cons_option found (filter_map shared rows))
      at next None is =
          let rest = rest_of (side row) (flat_map side rows) m n tiles in
          next rest.0 rest.1 from rest.3 (λ place event order. low place event (omega (arith, order, rest.2)))
      at next (Some pair) is =
          let one = given row pair is in
          let split = first_of one.place (flat_map side rows) m n (ap (λ list. list ++ flat_map side rows) (sym one.alone) ∙ tiles) in
          let here = low one.place one.event (omega (arith, split.0)) one.found one.outside in
          let within = below one.place one.event one.found one.outside in (
            omega (arith, one.picked, here),
            omega (arith, one.picked, within),
            next (suc m) split.1 (suc (pick pair)) split.2 (λ place event order found outside.
                let behind = stands_behind test session run one.place place one.event event events one.found one.outside found outside
                (omega (arith, order, split.0)) in
                omega (arith, one.picked, behind)),
          )

  pub ascend : (rows : List Row) (n : ℕ) → flat_map side rows ≡ range_with_len 0 n → Ascend pick most 0 (filter_map shared rows)
  ascend rows n tiles = ascend_from rows 0 n 0 tiles (λ place event order found outside. omega arith)

-- ---- both sides

module _ (test : Step → Bool) (spreads : Spreads test) (session edited before after : List Step) (first : AreEventsOf test session before) (second : AreEventsOf test edited after) where
  abbrev at_row : Row → Option PlacePair
  at_row row = shared_at test session edited (places_in test before session) (places_in test after edited) row

  placed_before : (row : Row) (pair : PlacePair) → at_row row ≡ Some pair → IsPlaced test place_before (λ one. one.before) session before row pair
  placed_before row pair is =
      let one = shared_row test spreads session edited (places_in test before session) (places_in test after edited) row pair is in
      record {
        place = one.old;
        event = one.event;
        alone = ap place_before one.row_is;
        found = one.found;
        outside = one.outside;
        picked = one.before ∙ place_listed test before session one.old (slice_get_within session one.old one.event one.found);
      }

  placed_after : (row : Row) (pair : PlacePair) → at_row row ≡ Some pair → IsPlaced test place_after (λ one. one.after) edited after row pair
  placed_after row pair is =
      let one = shared_row test spreads session edited (places_in test before session) (places_in test after edited) row pair is in
      record {
        place = one.new;
        event = one.other;
        alone = ap place_after one.row_is;
        found = one.met;
        outside = one.too;
        picked = one.after ∙ place_listed test after edited one.new (slice_get_within edited one.new one.other one.met);
      }

  pub ascend_before : (most : ℕ) → StandBelow test session before most → (rows : List Row) (n : ℕ) → flat_map place_before rows ≡ range_with_len 0 n → Ascend
      (λ one. one.before) most 0 (shared_among test session edited before after rows)
  ascend_before most below = ascend test place_before (λ one. one.before) session before first most below at_row placed_before

  pub ascend_after : (most : ℕ) → StandBelow test edited after most → (rows : List Row) (n : ℕ) → flat_map place_after rows ≡ range_with_len 0 n → Ascend
      (λ one. one.after) most 0 (shared_among test session edited before after rows)
  ascend_after most below = ascend test place_after (λ one. one.after) edited after second most below at_row placed_after

  -- at alike steps
  one_alike : (row : Row) (pair : PlacePair) → at_row row ≡ Some pair → AreAlikeAt before after pair.before pair.after
  one_alike row pair is =
      let one = shared_row test spreads session edited (places_in test before session) (places_in test after edited) row pair is in
      let old : pair.before ≡ place_in test before session one.old = one.before ∙ place_listed test before session one.old
      (slice_get_within session one.old one.event one.found) in
      let new : pair.after ≡ place_in test after edited one.new = one.after ∙ place_listed test after edited one.new
      (slice_get_within edited one.new one.other one.met) in
      record {
        step = one.event;
        other = one.other;
        stands = ap (slice_get before) old ∙ (stands_there test session before one.old one.event first one.found one.outside).stands;
        beside = ap (slice_get after) new ∙ (stands_there test edited after one.new one.other second one.met one.too).stands;
        alike = may_share one.event one.other one.alike;
      }

  pub all_alike : (rows : List Row) → All (λ pair. AreAlikeAt before after pair.before pair.after) (shared_among test session edited before after rows)
  all_alike [] = λ k d short. absurd (omega (arith, short))
  all_alike (row ∷ rows) = at (all_alike rows) (at_row row) refl
    where
      it : PlacePair → Type 0
      it pair = AreAlikeAt before after pair.before pair.after

      at : All it (filter_map at_row rows) → (found : Option PlacePair) → at_row row ≡ found → All it (cons_option found (filter_map at_row rows))
      at rest None is = rest
      at rest (Some pair) is = All-cons it pair (filter_map at_row rows) (one_alike row pair is) rest
