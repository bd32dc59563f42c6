-- What can be seen of the notifications of all tasks.
use Rattle.std.specs.Prelude.{◌≡◌, ℕ, ◌*◌, ◌<◌, ◌^◌, List, length, replicate}
use Rattle.bench_types.specs.declared.note.Notification.{Notification}
use Rattle.bench_model.specs.Notes.{no_note, note_at, of_slot, slot_in}

pub record NotesPart : Type 0 where
  -- how many tasks there are
  pub tasks : ℕ
  -- how many notifications each has (FreeRTOS Reference Manual,
  -- configTASK_NOTIFICATION_ARRAY_ENTRIES)
  pub entries : ℕ
  -- all of them, in the places that `slot_in` names
  pub notes : List Notification

-- nothing has come, and no call waits
abbrev pub fresh_notes : ℕ → ℕ → NotesPart
fresh_notes tasks entries =
    record { tasks = tasks; entries = entries; notes = replicate (tasks * entries) no_note }

-- the task's notification of the index
abbrev pub note_in : NotesPart → ℕ → ℕ → Notification
note_in part task index = note_at part.notes (slot_in part.entries task index)

-- what a rule answers of the task's notification of the index, and the part with what it makes of
-- it
abbrev pub of_note :
    {A : Type 0} → ℕ → ℕ → (Notification → A × Notification) → NotesPart → A × NotesPart
of_note task index rule part =
    let made = of_slot (slot_in part.entries task index) rule part.notes in
    (made.0, record part { notes = made.1 })

-- there are as many notifications as the numbers say, not too many to be named
pub record AreNotes (tasks entries : ℕ) (notes : List Notification) : Type 0 where
  pub many : length notes ≡ tasks * entries
  pub few : tasks * entries < 2 ^ 32
