-- Without edits a run stands beside itself.
use Rattle.std.proofs.Common.{◌≡◌, ℕ, zero, suc, ◌+◌, ◌-◌, ◌<◌, Bool, true, false, cond, List, [], ◌∷◌, ◌++◌, length, take, drop, zip, map, get_or, Some, None}
use Rattle.std.proofs.Common.{refl, ap, ap₂, sym, subst, ◌∙◌, add-one, arith}
use Rattle.std.specs.Prelude.{slice_get}
use Rattle.std.specs.List.{cons_option, filter_map, range_with_len}
use Rattle.std.proofs.lemmas.List.{length-take-le}
use Rattle.std.proofs.lemmas.Option.{slice_get-get_or, slice_get_past}
use Rattle.bench_types.specs.declared.step.Step.{Step}
use Rattle.bench_types.specs.declared.step.Step.TheVariants.{Tick, Switch, Call, Interrupt, QueueInterrupt, ResumeInterrupt, Pass}
use Rattle.bench_types.specs.Session.{Session}
use Rattle.settled_runs.specs.SettleLaws.{comes_from_outside}
use Rattle.session_runs.specs.Run.{RunView}
use Rattle.run_comparisons.specs.declared.place_pair.PlacePair.{PlacePair}
use Rattle.run_comparisons.specs.declared.rows.Row.{Row}
use Rattle.run_comparisons.specs.declared.rows.Row.TheVariants.{Both, Removed, Inserted}
use Rattle.run_comparisons.specs.Alike.{are_alike, MayShareRow}
use Rattle.run_comparisons.specs.PairLaws.{AloneIsWithItself, KeptAloneIsWithItself}
use Rattle.run_comparisons.specs.Pairs.{as_written, edited_pair, with_itself, IsSettledPair, PairView}
use Rattle.run_comparisons.specs.Rows.{removed, rows_from, rows_of}
use Rattle.run_comparisons.specs.Shared.{is_moment, is_same_event, kept_events, moments, paired_at, paired_beyond, places_in, shared_among, shared_at, shared_events}
use Rattle.run_comparisons.specs.SideBySide.{first_places, found_after, is_nearer, next_row, row_of_those, AreAligned, AreSettledRows, AreSideBySide}
use Rattle.run_comparisons.proofs.AlikeSteps.{share_alike}
use Rattle.run_comparisons.proofs.MadePairs.{kept_events_met, shared_met}
use Rattle.run_comparisons.proofs.OnePair.{one_list, one_run}
use Rattle.run_comparisons.proofs.SharedPlaces.{Ascend}

-- so many steps from a place on, each beside itself
abbrev diagonal : ℕ → ℕ → List Row
diagonal from count = map (λ place. Both place place) (range_with_len from count)

-- ---- as its steps stand

none_removed : (place : ℕ) → removed place place ≡ []
none_removed place =
    let none : place - place ≡ 0 = omega arith in
    ap (λ n. map Removed (range_with_len place n)) none

rows_own : (count next many : ℕ) → next + many ≡ count → rows_from count next next (map Some (range_with_len next many)) ≡ diagonal next many
rows_own count next zero all =
    let none : count - next ≡ 0 = omega (arith, all) in
    ap (λ n. map Removed (range_with_len next n)) none
rows_own count next (suc many) all =
    ap (λ (list : List Row). (list ++ Both next next ∷ []) ++ rows_from count (suc next) (suc next) (map Some (range_with_len (next + 1) many)))
    (none_removed next)
    ∙ ap (λ (list : List Row). Both next next ∷ list)
    (ap (λ n. rows_from count (suc next) (suc next) (map Some (range_with_len n many))) (add-one next)
    ∙ rows_own count (suc next) many (omega (arith, all)) ∙ ap (λ n. diagonal n many) (sym (add-one next)))

own_rows : (session : Session) → rows_of session [] ≡ diagonal 0 (length session.steps)
own_rows session = rows_own (length session.steps) 0 (length session.steps) (omega arith)

-- ---- settled

-- the events stand beside themselves
abbrev AreOwn : List PlacePair → Type 0
AreOwn [] = Unit {0}
AreOwn (event ∷ events) = (event.after ≡ event.before) × AreOwn events

shared_own : (test : Step → Bool) (session : List Step) (places : List ℕ) (from count : ℕ) → AreOwn
    (filter_map (shared_at test session session places places) (diagonal from count))
shared_own test session places from zero = tt
shared_own test session places from (suc count) =
    at (is_same_event test (slice_get session from) (slice_get session from)) (shared_own test session places (from + 1) count)
  where
    rest : List PlacePair
    rest = filter_map (shared_at test session session places places) (diagonal (from + 1) count)

    at : (b : Bool) → AreOwn rest → AreOwn (cons_option (cond b (Some (record { before = get_or places from 0; after = get_or places from 0 })) None) rest)
    at true own = (refl, own)
    at false own = own

paired_own : (run : List Step) (places : List ℕ) → AreOwn (filter_map (paired_at run run) (zip places places))
paired_own run [] = tt
paired_own run (place ∷ places) = at (is_same_event is_moment (slice_get run place) (slice_get run place)) (paired_own run places)
  where
    rest : List PlacePair
    rest = filter_map (paired_at run run) (zip places places)

    at : (b : Bool) → AreOwn rest → AreOwn (cons_option (cond b (Some (record { before = place; after = place })) None) rest)
    at true own = (refl, own)
    at false own = own

both_own : (first second : List PlacePair) → AreOwn first → AreOwn second → AreOwn (first ++ second)
both_own [] second own too = too
both_own (event ∷ first) second own too = (own.0, both_own first second own.1 too)

alike_self : (step : Step) → are_alike step step ≡ true
alike_self step = share_alike step step (shares step)
  where
    shares : (one : Step) → MayShareRow one one
    shares Tick = refl
    shares (Switch core) = refl
    shares (Call core task call) = (refl, refl)
    shares (Interrupt core note) = refl
    shares (QueueInterrupt core queue direction) = refl
    shares (ResumeInterrupt core task) = refl
    shares (Pass units) = refl

abbrev both_at : ℕ → PlacePair
both_at place = record { before = place; after = place }

next_own : (run : List Step) (place : ℕ) → place < length run → next_row run run (both_at place) ≡ Some (Both place place)
next_own run place low =
    let step = get_or run place Tick in
    let here = slice_get-get_or run place Tick low in
    let near = is_nearer (found_after step run place) (found_after step run place) in
    ap₂ (row_of_those run run (both_at place)) here here
    ∙ ap (λ (b : Bool). Some (cond b (Both place place) (cond near (Inserted place) (Removed place)))) (alike_self step)

aligned_own : (run : List Step) (from count : ℕ) → from + count ≡ length run → AreAligned run run (both_at from) (diagonal from count)
aligned_own run from zero all =
    let none = slice_get_past run from (omega (arith, all)) in
    ap₂ (row_of_those run run (both_at from)) none none
aligned_own run from (suc count) all = (
  next_own run from (omega (arith, all)),
  subst (λ n. AreAligned run run (both_at (suc from)) (diagonal n count)) (sym (add-one from)) (aligned_own run (suc from) count (omega (arith, all))),
)

-- the steps up to one, and those behind it
split_own : (from many rest : ℕ) → diagonal from (many + suc rest) ≡ diagonal from many ++ Both (from + many) (from + many) ∷ diagonal (suc (from + many)) rest
split_own from zero rest =
    let all : 0 + suc rest ≡ suc rest = omega arith in
    let same : from ≡ from + 0 = omega arith in
    ap (diagonal from) all ∙ ap (λ n. Both from from ∷ diagonal n rest) (add-one from) ∙ ap (λ n. Both n n ∷ diagonal (suc n) rest) same
split_own from (suc many) rest =
    let all : suc many + suc rest ≡ suc (many + suc rest) = omega arith in
    let same : from + 1 + many ≡ from + suc many = omega arith in
    ap (diagonal from) all
    ∙ ap (λ (list : List Row). Both from from ∷ list) (split_own (from + 1) many rest)
    ∙ ap (λ n. Both from from ∷ diagonal (from + 1) many ++ Both n n ∷ diagonal (suc n) rest) same

side_own : (run : List Step) (events : List PlacePair) (from count : ℕ) → from + count ≡ length run → Ascend (λ pair. pair.before) (length run) from events →
    AreOwn events → AreSideBySide run run events (both_at from) (diagonal from count)
side_own run [] from count all up own = aligned_own run from count all
side_own run (event ∷ events) from count all up own =
    let place = event.before in
    let many = place - from in
    let rest = length run - suc place in
    let here : from + many ≡ place = omega (arith, up.0) in
    let counted : count ≡ many + suc rest = omega (arith, all, up.0, up.1) in
    let size = length-take-le place run (omega (arith, up.1)) in
    let early : AreAligned (take place run) (take place run) (both_at from) (diagonal from many) = aligned_own (take place run) from many (here ∙ sym size) in
    let late = side_own run events (suc place) rest (omega (arith, up.1)) up.2 own.1 in
    let split = ap (diagonal from) counted ∙ split_own from many rest ∙ ap (λ n. diagonal from many ++ Both n n ∷ diagonal (suc n) rest) here in
    subst (λ n. AreSideBySide run run (record { before = place; after = n } ∷ events) (both_at from) (diagonal from count)) (sym own.0) (
      diagonal from many,
      diagonal (suc place) rest,
      split,
      early,
      late,
    )

settled_own : (session : Session) (pair : PairView) → IsSettledPair session [] pair → pair ≡ with_itself pair.before
settled_own session pair is =
    let run = pair.before.session.steps in
    let after : pair.after ≡ pair.before = one_run session pair.after pair.before is.after is.before in
    let met = shared_met session [] pair.before pair.before is.before is.before in
    let events = shared_events session [] run run in
    let own : AreOwn events = subst (λ (list : List Row). AreOwn
    (filter_map (shared_at comes_from_outside session.steps session.steps (places_in comes_from_outside run session.steps)
    (places_in comes_from_outside run session.steps)) list)) (sym (own_rows session))
    (shared_own comes_from_outside session.steps (places_in comes_from_outside run session.steps) 0 (length session.steps)) in
    let aligned = side_own run events 0 (length run) (omega arith) met.up_before own in
    let moved = subst (λ (one : RunView). AreSettledRows session [] run one.session.steps pair.rows) after is.rows in
    let rows = one_list run run events first_places pair.rows (diagonal 0 (length run)) moved aligned in
    let refused = is.refused in
    let known = is.known in
    λ i. record { before = pair.before; after = after i; rows = rows i; refused = refused i; known = known i }

written_own : (session : Session) → edited_pair session [] ≡ with_itself (as_written session)
written_own session =
    let put : List Row → PairView = λ rows. record { before = as_written session; after = as_written session; rows = rows; refused = []; known = None } in
    ap put (own_rows session)

pub alone_is_with_itself : AloneIsWithItself
alone_is_with_itself = (written_own, settled_own)

-- ---- runs that keep work

pub kept_alone_is_with_itself : KeptAloneIsWithItself
kept_alone_is_with_itself session view pair is =
    let run = view.session.steps in
    let many = length (moments session.steps) in
    let met = kept_events_met session [] run run is.of_session is.of_session in
    let events = kept_events session [] run run in
    let places = places_in is_moment run session.steps in
    let shared : AreOwn (shared_among is_moment session.steps session.steps run run (rows_of session [])) =
    subst (λ (list : List Row). AreOwn (filter_map (shared_at is_moment session.steps session.steps places places) list)) (sym (own_rows session))
    (shared_own is_moment session.steps places 0 (length session.steps)) in
    let own : AreOwn events = both_own (shared_among is_moment session.steps session.steps run run (rows_of session [])) (paired_beyond many many run run) shared
    (paired_own run (drop many (moments run))) in
    let aligned = side_own run events 0 (length run) (omega arith) met.up_before own in
    let rows = one_list run run events first_places pair.rows (diagonal 0 (length run)) is.rows aligned in
    let before = is.is_before in
    let after = is.is_after in
    let refused = is.is_refused in
    let known = is.is_known in
    λ i. record { before = before i; after = after i; rows = rows i; refused = refused i; known = known i }
