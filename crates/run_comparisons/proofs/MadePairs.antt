-- Pairs of runs that were made: their rows are side by side, with events that ascend in both runs.
use Rattle.std.proofs.Common.{Bool, ◌≡◌, ℕ, zero, suc, ◌+◌, ◌-◌, true, List, [], ◌∷◌, cond, drop, filter, get_or, length, Some, None, flat_map, refl, ap, ap₂, sym, subst, ◌∙◌, arith, inl, inr}
use Rattle.std.specs.Prelude.{All, Contains, slice_get}
use Rattle.std.specs.List.{range_with_len}
use Rattle.std.proofs.lemmas.Bool.{and_from}
use Rattle.std.proofs.lemmas.List.{append-nil}
use Rattle.std.proofs.lemmas.List.Elements.{Contains-append_left, Contains-append_right}
use Rattle.std.proofs.lemmas.Option.{slice_get_within}
use Rattle.list_orders.specs.Search.{numbers}
use Rattle.bench_types.specs.declared.edit.Edit.{Edit}
use Rattle.bench_types.specs.declared.step.Step.{Step}
use Rattle.bench_types.specs.Session.{Session}
use Rattle.bench_model.specs.Edits.{after_edits}
use Rattle.session_runs.specs.Run.{IsRunOf, RunView}
use Rattle.settled_runs.specs.SettleLaws.{comes_from_outside}
use Rattle.settled_runs.proofs.Settlings.{settling_keeps_events}
use Rattle.run_comparisons.specs.declared.place_pair.PlacePair.{PlacePair}
use Rattle.run_comparisons.specs.declared.rows.Row.{Row}
use Rattle.run_comparisons.specs.declared.rows.Row.TheVariants.{Both}
use Rattle.run_comparisons.specs.Alike.{are_alike}
use Rattle.run_comparisons.specs.PairLaws.{EachStands, FurtherStandTogether, IsMadePair, KeptStandTogether, MomentsStandTogether, SharedStandTogether, StandsAs}
use Rattle.run_comparisons.specs.Pairs.{EachStandsOnce, PairView}
use Rattle.run_comparisons.specs.Rows.{place_after, place_before, rows_of}
use Rattle.run_comparisons.specs.Shared.{is_moment, is_same_event, kept_events, moments, paired_beyond, paired_events, places_in, shared_among, shared_at, shared_events, AreEventsOf, AreMomentsOf}
use Rattle.run_comparisons.specs.SideBySide.{first_places, AreKeptRows, AreSettledRows, AreSideBySide, AreSimulatedRows, IsWithin}
use Rattle.run_comparisons.proofs.BothRuns.{after_tiles, before_tiles, event_there, given_there}
use Rattle.run_comparisons.proofs.EventPlaces.{place_listed, stands_there, stands_within}
use Rattle.run_comparisons.proofs.KeptEvents.{kept_met}
use Rattle.run_comparisons.proofs.SharedMet.{met_within, AreMet}
use Rattle.run_comparisons.proofs.Moments.{moment_shared, moment_stands, paired_met, paired_there}
use Rattle.run_comparisons.proofs.SharedPlaces.{all_alike, alike_itself, alike_outside, ascend_after, ascend_before, from_outside}
use Rattle.run_comparisons.proofs.Tiling.{each_after, each_before}

-- the events of the steps of a session are those of its settled run
pub events_kept : (session : Session) (run : RunView) → IsRunOf true session run → AreEventsOf comes_from_outside session.steps run.session.steps
events_kept session run is = (
  [],
  sym (settling_keeps_events session.header session.steps run.session.steps run.left is.1) ∙ sym (append-nil (filter comes_from_outside session.steps)),
)

-- the runs are side by side with these events
pub record IsMade (before after : List Step) (rows : List Row) : Type 0 where
  pub events : List PlacePair
  pub met : AreMet before after events
  pub aligned : AreSideBySide before after events first_places rows

-- the events that two sessions share
pub shared_met : (session : Session) (edits : List Edit) (before after : RunView) → IsRunOf true session before → IsRunOf true (after_edits session edits) after →
    AreMet before.session.steps after.session.steps (shared_events session edits before.session.steps after.session.steps)
shared_met session edits before after is is_too =
    let edited = after_edits session edits in
    let first = events_kept session before is in
    let second = events_kept edited after is_too in
    let rows = rows_of session edits in
    record {
      up_before = ascend_before comes_from_outside alike_outside session.steps edited.steps before.session.steps after.session.steps first second
          (length before.session.steps)
          (λ place event found is. stands_within comes_from_outside session.steps before.session.steps place event first found is) rows (length session.steps)
          (each_before session edits);
      up_after = ascend_after comes_from_outside alike_outside session.steps edited.steps before.session.steps after.session.steps first second
          (length after.session.steps)
          (λ place event found is. stands_within comes_from_outside edited.steps after.session.steps place event second found is) rows (length edited.steps)
          (each_after session edits);
      alike = all_alike comes_from_outside alike_outside session.steps edited.steps before.session.steps after.session.steps first second rows;
    }

settled_made : (session : Session) (edits : List Edit) (before after : RunView) (rows : List Row) → IsRunOf true session before → IsRunOf true
    (after_edits session edits) after → AreSettledRows session edits before.session.steps after.session.steps rows
    → IsMade before.session.steps after.session.steps rows
settled_made session edits before after rows is is_too aligned = record {
  events = shared_events session edits before.session.steps after.session.steps;
  met = shared_met session edits before after is is_too;
  aligned = aligned;
}

simulated_made : (before after : List Step) (rows : List Row) → AreSimulatedRows before after rows → IsMade before after rows
simulated_made before after rows aligned = record {
  events = paired_events before after;
  met = paired_met before after;
  aligned = aligned;
}

-- the ticks and interrupts that two sessions share, and further ones
pub kept_events_met : (session : Session) (edits : List Edit) (before after : List Step) → AreMomentsOf session.steps before → AreMomentsOf
    (after_edits session edits).steps after → AreMet before after (kept_events session edits before after)
kept_events_met session edits before after first second =
    kept_met session.steps (after_edits session edits).steps before after (rows_of session edits) first second (each_before session edits)
    (each_after session edits)

kept_made : (session : Session) (edits : List Edit) (before after : List Step) (rows : List Row) → AreMomentsOf session.steps before → AreMomentsOf
    (after_edits session edits).steps after → AreKeptRows session edits before after rows → IsMade before after rows
kept_made session edits before after rows first second aligned = record {
  events = kept_events session edits before after;
  met = kept_events_met session edits before after first second;
  aligned = aligned;
}

-- what equals the shared events stands in both runs
pub given_within : (before after run later : List Step) (events given : List PlacePair) → AreMet before after given → run ≡ before → later ≡ after → events ≡ given
    → All (IsWithin run later) events
given_within before after run later events given met is is_too are =
    subst (λ (one : List Step). All (IsWithin one later) events) (sym is)
    (subst (λ (one : List Step). All (IsWithin before one) events) (sym is_too)
    (subst (λ (list : List PlacePair). All (IsWithin before after) list) (sym are) (met_within before after given met)))

-- what holds of runs and events holds of those that equal them
pub given_same : (P : List Step → List Step → List PlacePair → Type 0) (before after run later : List Step) (events given : List PlacePair) → run ≡ before → later
    ≡ after → events ≡ given → P run later events → P before after given
given_same P before after run later events given is is_too are it =
    subst (λ (list : List PlacePair). P before after list) are
    (subst (λ (one : List Step). P before one events) is_too (subst (λ (one : List Step). P one later events) is it))

pub paired_within : (before after : List Step) (events : List PlacePair) → events ≡ paired_events before after → All (IsWithin before after) events
paired_within before after events are =
    subst (λ (list : List PlacePair). All (IsWithin before after) list) (sym are)
    (met_within before after (paired_events before after) (paired_met before after))

-- of the same sessions and runs, events are the same
pub same_events : (among : List Step → List Step → List Step → List Step → List Row → List PlacePair) (s e b a session edited before after : List Step)
    (given rows : List Row) → s ≡ session → e ≡ edited → b ≡ before → a ≡ after → given ≡ rows → among s e b a given ≡ among session edited before after rows
same_events among s e b a session edited before after given rows is_s is_e is_b is_a is_rows = λ i. among (is_s i) (is_e i) (is_b i) (is_a i) (is_rows i)

pub made_pair : (pair : PairView) → IsMadePair pair → IsMade pair.before.session.steps pair.after.session.steps pair.rows
made_pair pair (inl settled) =
    let is = settled.2 in
    settled_made settled.0 settled.1 pair.before pair.after pair.rows is.before is.after is.rows
made_pair pair (inr (inl simulated)) = simulated_made pair.before.session.steps pair.after.session.steps pair.rows simulated.rows
made_pair pair (inr (inr kept)) =
    let is = kept.2 in
    kept_made kept.0 kept.1 pair.before.session.steps pair.after.session.steps pair.rows is.of_session is.of_edited is.rows

-- ---- each step stands once

made_stands : (before after : RunView) (rows : List Row) → IsMade before.session.steps after.session.steps rows → EachStandsOnce before after rows
made_stands before after rows made =
    let old = before.session.steps in
    let new = after.session.steps in
    let all_old : length old - 0 ≡ length old = omega arith in
    let all_new : length new - 0 ≡ length new = omega arith in
    record {
      each_before = before_tiles old new made.events first_places rows made.aligned made.met.up_before (omega arith) ∙ ap (range_with_len 0) all_old;
      each_after = after_tiles old new made.events first_places rows made.aligned made.met.up_after (omega arith) ∙ ap (range_with_len 0) all_new;
    }

pub settled_stands : (session : Session) (edits : List Edit) (before after : RunView) (rows : List Row) → IsRunOf true session before → IsRunOf true
    (after_edits session edits) after → AreSettledRows session edits before.session.steps after.session.steps rows → EachStandsOnce before after rows
settled_stands session edits before after rows is is_too aligned = made_stands before after rows (settled_made session edits before after rows is is_too aligned)

pub simulated_stands : (before after : RunView) (rows : List Row) → AreSimulatedRows before.session.steps after.session.steps rows → EachStandsOnce before after
    rows
simulated_stands before after rows aligned = made_stands before after rows (simulated_made before.session.steps after.session.steps rows aligned)

pub kept_stands : (session : Session) (edits : List Edit) (before after : RunView) (rows : List Row) → AreMomentsOf session.steps before.session.steps
    → AreMomentsOf (after_edits session edits).steps after.session.steps → AreKeptRows session edits before.session.steps after.session.steps rows
    → EachStandsOnce before after rows
kept_stands session edits before after rows first second aligned =
    made_stands before after rows (kept_made session edits before.session.steps after.session.steps rows first second aligned)

pub edited_stands : (session : Session) (edits : List Edit) (before after : RunView) (rows : List Row) → before.session ≡ session → after.session ≡ after_edits
    session edits → rows ≡ rows_of session edits → EachStandsOnce before after rows
edited_stands session edits before after rows is is_too are = record {
  each_before = ap (λ (list : List Row). flat_map place_before list) are ∙ each_before session edits ∙ ap (λ (one : Session). numbers (length one.steps)) (sym is);
  each_after = ap (λ (list : List Row). flat_map place_after list) are ∙ each_after session edits ∙ ap (λ (one : Session). numbers (length one.steps)) (sym is_too);
}

pub each_stands : EachStands
each_stands pair (inl edited) =
    let is = edited.2 in
    edited_stands edited.0 edited.1 pair.before pair.after pair.rows (ap (λ (one : PairView). one.before.session) is)
    (ap (λ (one : PairView). one.after.session) is) (ap (λ (one : PairView). one.rows) is)
each_stands pair (inr made) = made_stands pair.before pair.after pair.rows (made_pair pair made)

-- ---- shared events

-- an event that both sessions have is a shared event, and stands in each run where it is to
record IsShared (test : Step → Bool) (session edited before after : List Step) (rows : List Row) (old new : ℕ) (event : Step) : Type 0 where
  pub place : ℕ
  pub later : ℕ
  pub among : Contains (shared_among test session edited before after rows) (record { before = place; after = later })
  pub first : StandsAs test session old event before place
  pub second : StandsAs test edited new event after later

is_shared : (test : Step → Bool) → ((step : Step) → test step ≡ true → comes_from_outside step ≡ true) → (session edited before after : List Step)
    (rows : List Row) (old new : ℕ) (event : Step) → AreEventsOf test session before → AreEventsOf test edited after → Contains rows (Both old new) → slice_get
    session old ≡ Some event → slice_get edited new ≡ Some event → test event ≡ true → IsShared test session edited before after rows old new event
is_shared test outside session edited before after rows old new event first second listed found met is =
    let pair : PlacePair = record { before = get_or (places_in test before session) old 0; after = get_or (places_in test after edited) new 0 } in
    let same : is_same_event test (slice_get session old) (slice_get edited new) ≡ true =
    ap₂ (is_same_event test) found met ∙ and_from (test event) (are_alike event event) is (alike_itself event (outside event is)) in
    let gives = ap (λ (b : Bool). cond b (Some pair) None) same in
    let place = place_listed test before session old (slice_get_within session old event found) in
    let later = place_listed test after edited new (slice_get_within edited new event met) in
    record {
      place = pair.before;
      later = pair.after;
      among = given_there (shared_at test session edited (places_in test before session) (places_in test after edited)) rows listed.0 (Both old new) pair
          listed.1 listed.2 gives;
      first = subst (λ n. StandsAs test session old event before n) (sym place) (stands_there test session before old event first found is);
      second = subst (λ n. StandsAs test edited new event after n) (sym later) (stands_there test edited after new event second met is);
    }

-- and so in a row of both
in_a_row : (before after : List Step) (events : List PlacePair) (rows : List Row) (place later : ℕ) → AreSideBySide before after events first_places rows →
    Contains events (record { before = place; after = later }) → Contains rows (Both place later)
in_a_row before after events rows place later aligned there =
    event_there before after events first_places rows aligned there.0 (record { before = place; after = later }) there.1 there.2

pub shared_stand_together : SharedStandTogether
shared_stand_together session edits made old new event settled listed found met is =
    let edited = after_edits session edits in
    let before = made.before.session.steps in
    let after = made.after.session.steps in
    let shared = is_shared comes_from_outside (λ step from. from) session.steps edited.steps before after (rows_of session edits) old new event
    (events_kept session made.before settled.before) (events_kept edited made.after settled.after) listed found met is in (
      shared.place,
      shared.later,
      in_a_row before after (shared_events session edits before after) made.rows shared.place shared.later settled.rows shared.among,
      shared.first,
      shared.second,
    )

-- further ticks and interrupts of two runs that keep work
abbrev further_of : Session → List Edit → List Step → List Step → List PlacePair
further_of session edits before after = paired_beyond (length (moments session.steps)) (length (moments (after_edits session edits).steps)) before after

pub kept_stand_together : KeptStandTogether
kept_stand_together session edits refused limit run other pair old new event kept listed found met is =
    let edited = after_edits session edits in
    let before = run.session.steps in
    let after = other.session.steps in
    let shared = is_shared is_moment from_outside session.steps edited.steps before after (rows_of session edits) old new event kept.of_session kept.of_edited
    listed found met is in
    let among = Contains-append_left (shared_among is_moment session.steps edited.steps before after (rows_of session edits))
    (further_of session edits before after) (record { before = shared.place; after = shared.later }) shared.among in (
      shared.place,
      shared.later,
      in_a_row before after (kept_events session edits before after) pair.rows shared.place shared.later kept.rows among,
      shared.first,
      shared.second,
    )

pub further_stand_together : FurtherStandTogether
further_stand_together session edits refused limit run other pair number place later event kept listed met stands too =
    let edited = after_edits session edits in
    let before = run.session.steps in
    let after = other.session.steps in
    let many = length (moments session.steps) in
    let others = length (moments edited.steps) in
    let one = moment_stands before (many + number) place listed in
    let same : one.event ≡ event = cc (one.stands, stands) in
    let there = paired_there before after (drop many (moments before)) (drop others (moments after)) number place later event
    (behind many number (moments before) ∙ listed) (behind others number (moments after) ∙ met) stands too
    (subst (λ (step : Step). is_moment step ≡ true) same one.is) in
    let among = Contains-append_right (shared_among is_moment session.steps edited.steps before after (rows_of session edits))
    (further_of session edits before after) (record { before = place; after = later }) there in
    in_a_row before after (kept_events session edits before after) pair.rows place later kept.rows among
  where
    behind : (many number : ℕ) (places : List ℕ) → slice_get (drop many places) number ≡ slice_get places (many + number)
    behind zero number places = ap (slice_get places) (omega arith)
    behind (suc many) number [] = refl
    behind (suc many) number (place ∷ places) =
        let next : suc (many + number) ≡ suc many + number = omega arith in
        behind many number places ∙ ap (slice_get (place ∷ places)) next

pub moments_stand_together : MomentsStandTogether
moments_stand_together run other pair number place simulated same found =
    let before = run.session.steps in
    let after = other.session.steps in
    let shared = moment_shared before after number place same found in
    let event : PlacePair = record { before = place; after = shared.0 } in
    let there = shared.2 in (
      shared.0,
      shared.1,
      event_there before after (paired_events before after) first_places pair.rows simulated.rows there.0 event there.1 there.2,
    )
