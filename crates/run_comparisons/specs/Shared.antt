-- The events that two runs share, by which their steps are put beside each other.
use Rattle.std.specs.Prelude.{◌≡◌, ℕ, suc, List, [], ◌∷◌, ◌++◌, length, map, take, drop, filter, zip, Bool, false, not, ◌&&◌, Option, Some, None, slice_get, slice_index_or}
use Rattle.std.specs.Prelude.{if◌then◌else◌}
use Rattle.std.specs.List.{filter_map}
use Rattle.list_orders.specs.Search.{numbers}
use Rattle.bench_types.specs.declared.edit.Edit.{Edit}
use Rattle.bench_types.specs.declared.step.Step.{Step}
use Rattle.bench_types.specs.Session.{Session}
use Rattle.bench_model.specs.Edits.{after_edits}
use Rattle.kept_runs.specs.Works.{is_pass}
use Rattle.settled_runs.specs.SettleLaws.{comes_from_outside}
use Rattle.run_comparisons.specs.declared.event_kind.EventKind.{EventKind}
use Rattle.run_comparisons.specs.declared.event_kind.EventKind.TheVariants.{Outside, Moment}
use Rattle.run_comparisons.specs.declared.place_pair.PlacePair.{PlacePair}
use Rattle.run_comparisons.specs.declared.rows.Row.{Row}
use Rattle.run_comparisons.specs.declared.rows.Row.TheVariants.{Both, Removed, Inserted}
use Rattle.run_comparisons.specs.Alike.{are_alike}
use Rattle.run_comparisons.specs.Rows.{rows_of}

-- ---- events

-- a tick or an interrupt; time that passes is none
abbrev pub is_moment : Step → Bool
is_moment step = comes_from_outside step && not (is_pass step)

-- the step is an event of the kind: comes from outside, or is a tick or an interrupt
abbrev pub is_event : EventKind → Step → Bool
is_event Outside step = comes_from_outside step
is_event Moment step = is_moment step

-- how many events come before the place
abbrev pub events_before : (Step → Bool) → List Step → ℕ → ℕ
events_before event steps place = length (filter event (take place steps))

-- the places of the events among the steps, the first of which has this place
abbrev pub event_places : (Step → Bool) → ℕ → List Step → List ℕ
event_places event place [] = []
event_places event place (step ∷ steps) =
    if event step then place ∷ event_places event (suc place) steps
    else event_places event (suc place) steps

-- the places of the ticks and interrupts of a run, in order
abbrev pub moments : List Step → List ℕ
moments run = event_places is_moment 0 run

-- ---- events of two sessions

-- Where an event of the session stands in a run of it: as many come before it there.
abbrev pub place_in : (Step → Bool) → List Step → List Step → ℕ → ℕ
place_in event run session place =
    slice_index_or (event_places event 0 run) (events_before event session place) 0

-- of each place of the session
abbrev pub places_in : (Step → Bool) → List Step → List Step → List ℕ
places_in event run session = map (place_in event run session) (numbers (length session))

-- there are both steps, and they are one event
abbrev pub is_same_event : (Step → Bool) → Option Step → Option Step → Bool
is_same_event event (Some step) (Some other) = event step && are_alike step other
is_same_event event step other = false

-- The places in two runs of the event of a row, where two sessions share it. Of each session there
-- are the steps, and for each the place in the run.
abbrev pub shared_at :
    (Step → Bool) → List Step → List Step → List ℕ → List ℕ → Row → Option PlacePair
shared_at event session edited places later (Both old new) =
    if is_same_event event (slice_get session old) (slice_get edited new)
    then Some (record {
      before = slice_index_or places old 0;
      after = slice_index_or later new 0;
    })
    else None
shared_at event session edited places later (Removed old) = None
shared_at event session edited places later (Inserted new) = None

-- The places in the runs of two sessions of the events that the sessions share, by the rows of
-- both.
abbrev pub shared_among :
    (Step → Bool) → List Step → List Step → List Step → List Step → List Row → List PlacePair
shared_among event session edited before after rows =
    filter_map
    (shared_at event session edited (places_in event before session)
    (places_in event after edited))
    rows

-- the events of a session are those of its run, in order; behind them the run may have further ones
abbrev pub AreEventsOf : (Step → Bool) → List Step → List Step → Type 0
AreEventsOf event session run =
    (further : List Step) × (filter event run ≡ filter event session ++ further)

-- ---- one event after another

-- a place in each of two runs, where one tick or one interrupt stands in both
abbrev pub paired_at : List Step → List Step → ℕ × ℕ → Option PlacePair
paired_at before after both =
    if is_same_event is_moment (slice_get before both.0) (slice_get after both.1)
    then Some (record { before = both.0; after = both.1 })
    else None

-- Behind so many ticks and interrupts of the one run, and so many of the other: those that come as
-- the first in both runs, as the second in both, and so on.
abbrev pub paired_beyond : ℕ → ℕ → List Step → List Step → List PlacePair
paired_beyond many others before after =
    filter_map (paired_at before after)
    (zip (drop many (moments before)) (drop others (moments after)))

-- ---- the shared events of two runs

-- Of settled runs they are the events that no edit removed, inserted or replaced by another.
abbrev pub shared_events : Session → List Edit → List Step → List Step → List PlacePair
shared_events session edits before after =
    shared_among comes_from_outside session.steps (after_edits session edits).steps before after
    (rows_of session edits)

-- of simulated runs the ticks and interrupts in their order
abbrev pub paired_events : List Step → List Step → List PlacePair
paired_events before after = paired_beyond 0 0 before after

-- by the rows of two sessions the ticks and interrupts that both have, and behind them further ones
-- of both runs in their order
abbrev pub kept_among : List Step → List Step → List Step → List Step → List Row → List PlacePair
kept_among session edited before after rows =
    shared_among is_moment session edited before after rows
    ++ paired_beyond (length (moments session)) (length (moments edited)) before after

-- Of runs that keep work they are those that no edit removed, inserted or replaced by another.
abbrev pub kept_events : Session → List Edit → List Step → List Step → List PlacePair
kept_events session edits before after =
    kept_among session.steps (after_edits session edits).steps before after
    (rows_of session edits)

-- the ticks and interrupts of a session are those of its run
abbrev pub AreMomentsOf : List Step → List Step → Type 0
AreMomentsOf session run = AreEventsOf is_moment session run
