-- The laws of notifications. Each is the contract of a public function.
use Rattle.std.specs.Prelude.{◌≡◌, ℕ, ◌*◌, ◌<◌, List, length, false}
use Rattle.bench_types.specs.declared.note.Note.{Note}
use Rattle.bench_types.specs.declared.note.Notification.{Notification}
use Rattle.bench_types.specs.Step.{IsNotifyActionOfWord}
use Rattle.bench_model.specs.Looks.{note_look}
use Rattle.bench_model.specs.Notes.{is_waiting, slot_in}
use Rattle.bench_model.specs.Notifying.{notify}
use Rattle.bench_model.specs.Table.{Table, stamp_queues}
use Rattle.bench_model.specs.Lists.{list_queues, view_of}
use Rattle.bench_model.specs.Sound.{HasWords, IsConsistent}

-- two pairs of a task and an index stand in two places, where each task has so many notifications
abbrev pub PlacesAreApart : Type 0
PlacesAreApart =
    (entries task index other at : ℕ) → index < entries → at < entries
    → slot_in entries task index ≡ slot_in entries other at → (task ≡ other) × (index ≡ at)

-- notifying a task at an index leaves the other notifications as they are: those of the task at
-- other indices, and those of other tasks
abbrev pub NotifyLeavesOthers : Type 0
NotifyLeavesOthers =
    (table : Table) (acting : ℕ) (note : Note) (task index : ℕ)
    → note.index < table.settings.notes → index < table.settings.notes
    → ((task ≡ note.task) × (index ≡ note.index) → ⊥) →
    note_look (notify stamp_queues acting note table) task index ≡ note_look table task index

-- where the task does not wait at the index, notifying it there changes its notifications alone: it
-- wakes nobody, and asks no core
abbrev pub NotifyWakesOnlyAWaiter : Type 0
NotifyWakesOnlyAWaiter =
    (table : Table) (acting : ℕ) (note : Note)
    → is_waiting (note_look table note.task note.index).state ≡ false →
    notify stamp_queues acting note table
    ≡ record table { notes = (notify stamp_queues acting note table).notes }

-- seen as lists, notifying a task in a table is notifying it over lists
abbrev pub NotifySimulates : Type 0
NotifySimulates =
    (table : Table) (acting : ℕ) (note : Note) → IsConsistent table
    → note.task < table.settings.tasks →
    view_of (notify stamp_queues acting note table) ≡ notify list_queues acting note (view_of table)

abbrev pub NotifyKeepsConsistent : Type 0
NotifyKeepsConsistent =
    (table : Table) (acting : ℕ) (note : Note) → IsConsistent table
    → note.task < table.settings.tasks → IsNotifyActionOfWord note.action →
    IsConsistent (notify stamp_queues acting note table)

-- other notifications are seen as they are, and change nothing else that is seen
abbrev pub NotesKeepOrders : Type 0
NotesKeepOrders =
    (table : Table) (notes : List Notification)
    → view_of (record table { notes = notes }) ≡ record (view_of table) { notes = notes }

-- and they keep a table consistent where there are as many for each task as the settings say, with
-- values of 32 bits
abbrev pub NotesKeepConsistent : Type 0
NotesKeepConsistent =
    (table : Table) (notes : List Notification) → IsConsistent table
    → length notes ≡ table.settings.tasks * table.settings.notes → HasWords notes →
    IsConsistent (record table { notes = notes })
