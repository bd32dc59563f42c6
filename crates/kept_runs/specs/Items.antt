-- The edited list: of each of its steps, which step of the document lends it its clocks.
use Rattle.std.specs.Prelude.{ℕ, suc, ◌==◌, Bool, true, false, not, ◌&&◌, nat_le, Option, List, [], ◌∷◌, ◌++◌, length, take, filter, find, count_by, insert, remove, slice_get, slice_set, slice_index_or, is_ok, if◌then◌else◌}
use Rattle.std.specs.Option.{option_map_or}
use Rattle.bench_types.specs.declared.edit.Edit.{Edit}
use Rattle.bench_types.specs.declared.edit.Edit.TheVariants.{Insert, Remove, Replace, ChangeTask}
use Rattle.bench_types.specs.declared.step.Step.{Step}
use Rattle.bench_types.specs.declared.step.Step.TheVariants.{Tick}
use Rattle.bench_types.specs.declared.step.Step.TheVariants as steps
use Rattle.bench_types.specs.Session.{Session}
use Rattle.bench_model.specs.Edits.{accepted, after_edit, after_edits}
use Rattle.kept_edits.specs.declared.edit.KeptEdit.{KeptEdit}
use Rattle.kept_edits.specs.declared.edit.KeptEdit.TheVariants.{Plain, Work}
use Rattle.kept_edits.specs.declared.edit.WorkChange.{WorkChange}
use Rattle.kept_edits.specs.Edits.{plain_edits}
use Rattle.list_orders.specs.Search.{numbers}
use Rattle.settled_runs.specs.Settled.{is_event, is_finish}
use Rattle.settled_runs.specs.SettleLaws.{comes_from_outside}

-- ---- where the settled run makes the steps of a document

-- both come from outside, or both are calls of one task, and none is a `finish`
abbrev pub is_alike : Step → Step → Bool
is_alike (steps.Call core task call) (steps.Call other_core other_task other) =
    (task == other_task) && not (is_finish call) && not (is_finish other)
is_alike step other = comes_from_outside step && comes_from_outside other

-- the step at the place passes
abbrev pub passes_at : (Step → Bool) → List Step → ℕ → Bool
passes_at test run place = option_map_or test (slice_get run place) false

-- the places of the steps that pass
abbrev pub places_of : (Step → Bool) → List Step → List ℕ
places_of test run = filter (passes_at test run) (numbers (length run))

-- The place of an event of the document in its settled run: there as many steps that are alike come
-- before it as here. An event that isn't made there has the end's.
abbrev pub place_of_event : List Step → List Step → ℕ → Step → ℕ
place_of_event document settled index event =
    slice_index_or (places_of (is_alike event) settled)
    (count_by (is_alike event) (take index document)) (length settled)

-- the first event at that index or behind it, none behind the last
abbrev pub event_from : List Step → ℕ → Option ℕ
event_from document index =
    find (λ later. nat_le index later && passes_at is_event document later)
    (numbers (length document))

-- The place that belongs to a step of the document: an event's own, of a switch or a `finish` that
-- of the next event; that of the end behind the last.
unfoldable pub settled_place : List Step → List Step → ℕ → ℕ
settled_place document settled index =
    option_map_or
    (λ later. place_of_event document settled later (slice_index_or document later Tick))
    (event_from document index) (length settled)

-- ---- the edited list

pub record Item : Type 0 where
  pub step : Step
  -- the index of the step of the document whose clocks it has; of the end, how many steps there are
  pub anchor : ℕ
  -- an edit put it in: it is no step of the document, nor does it stand for one
  pub inserted : Bool
  -- how much more or less work edits give the call
  pub changes : List WorkChange

-- the document, of which the first step has the index
abbrev pub items_from : ℕ → List Step → List Item
items_from index [] = []
items_from index (step ∷ steps) =
    record { step = step; anchor = index; inserted = false; changes = [] }
    ∷ items_from (suc index) steps

-- the anchor at a place of the list of a document of so many steps; behind the last that of the end
abbrev pub anchor_at : ℕ → List Item → ℕ → ℕ
anchor_at count items at = option_map_or (λ item. item.anchor) (slice_get items at) count

-- an edit put in the step at the place
abbrev pub inserted_at : List Item → ℕ → Bool
inserted_at items at = option_map_or (λ item. item.inserted) (slice_get items at) true

-- A step that is put in has the clocks of the one before which it stands, a step that replaces
-- another one those of the other, for which it stands. Neither has changes of work.
abbrev pub items_edited : ℕ → Edit → List Item → List Item
items_edited count (Insert at step) items =
    insert items at
    (record { step = step; anchor = anchor_at count items at; inserted = true; changes = [] })
items_edited count (Remove at) items = remove items at
items_edited count (Replace at step) items =
    slice_set items at
    (record {
      step = step;
      anchor = anchor_at count items at;
      inserted = inserted_at items at;
      changes = [];
    })
items_edited count (ChangeTask task priority mask) items = items

-- an edit that is not accepted is passed over
abbrev pub items_after : ℕ → Session → Edit → List Item → List Item
items_after count session edit items =
    if is_ok (accepted session edit) then items_edited count edit items else items

-- a call that is no `finish`
abbrev pub is_call : Step → Bool
is_call (steps.Call core task call) = not (is_finish call)
is_call step = false

-- a call of the task that is no `finish`
abbrev pub begins_call : ℕ → Step → Bool
begins_call task (steps.Call core other call) = (other == task) && not (is_finish call)
begins_call task step = false

-- a change of work belongs to the call that stands there; where none does it is passed over
abbrev pub items_worked : ℕ → WorkChange → List Item → List Item
items_worked at change items =
    option_map_or
    (λ item. if is_call item.step
    then slice_set items at (record item { changes = item.changes ++ change ∷ [] }) else items)
    (slice_get items at) items

-- after edits of the session in their order
abbrev pub items_along : ℕ → Session → List KeptEdit → List Item → List Item
items_along count session [] items = items
items_along count session (Plain edit ∷ edits) items =
    items_along count (after_edit session edit) edits (items_after count session edit items)
items_along count session (Work at change ∷ edits) items =
    items_along count session edits (items_worked at change items)

-- the edited list of a document
unfoldable pub edited_items : Session → List KeptEdit → List Item
edited_items session edits =
    items_along (length session.steps) session edits (items_from 0 session.steps)

-- the edited session, of which changes of work change nothing
abbrev pub edited_session : Session → List KeptEdit → Session
edited_session session edits = after_edits session (plain_edits edits)
