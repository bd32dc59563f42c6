-- Task notifications: what comes to a task, and what the calls that wait for it take (FreeRTOS
-- Reference Manual, "Task Notifications").
use Rattle.std.specs.Prelude.{ℕ, ◌+◌, ◌-◌, ◌*◌, ◌^◌, ◌%◌, ◌==◌, List, Bool, true, false, if◌then◌else◌, slice_index_or, slice_set}
use Rattle.std.specs.Int.{w32, bit_not}
use Rattle.std.specs.Int.Bits.{bit_and, bit_or}
use Rattle.bench_types.specs.declared.kernel_data.Settings.{Settings}
use Rattle.bench_types.specs.declared.note.NotifyAction.{NotifyAction}
use Rattle.bench_types.specs.declared.note.NotifyAction.TheVariants.{Nothing, SetBits, Increment, Set, SetNew}
use Rattle.bench_types.specs.declared.note.NoteState.{NoteState}
use Rattle.bench_types.specs.declared.note.NoteState.TheVariants.{NotWaiting, Waiting, Received}
use Rattle.bench_types.specs.declared.note.Notification.{Notification}

-- what each notification begins with
abbrev pub no_note : Notification
no_note = record { value = 0; state = NotWaiting }

-- where a task's notification of an index stands among those of all tasks, of which each task has
-- so many
unfoldable pub slot_in : ℕ → ℕ → ℕ → ℕ
slot_in entries task index = task * entries + index

-- the same under these settings
abbrev pub slot_of : Settings → ℕ → ℕ → ℕ
slot_of settings task index = slot_in settings.notes task index

abbrev pub note_at : List Notification → ℕ → Notification
note_at notes slot = slice_index_or notes slot no_note

abbrev pub is_received : NoteState → Bool
is_received Received = true
is_received state = false

abbrev pub is_waiting : NoteState → Bool
is_waiting Waiting = true
is_waiting state = false

-- the value without the bits
abbrev pub without_bits : ℕ → ℕ → ℕ
without_bits bits value = bit_and value (bit_not w32 bits)

-- one that must not overwrite is not passed where another has come and was not taken
-- (eSetValueWithoutOverwrite)
abbrev pub passes : NotifyAction → NoteState → Bool
passes (SetNew value) Received = false
passes action state = true

-- the value after an action that is passed (eNotifyAction)
abbrev pub acted : NotifyAction → ℕ → ℕ
acted Nothing value = value
acted (SetBits bits) value = bit_or value bits
acted Increment value = (value + 1) % 2 ^ 32
acted (Set new) value = new
acted (SetNew new) value = new

-- What a notification makes of a task's (V11 tasks.c, xTaskGenericNotify).
unfoldable pub notified : NotifyAction → Notification → Notification
notified action note = record {
  value = if passes action note.state then acted action note.value else note.value;
  state = Received;
}

-- A wait has nothing to complete with where none has come. Then the entry bits are cleared, and the
-- task is to wait (V11 tasks.c, xTaskGenericNotifyWait).
unfoldable pub wait_entered : ℕ → Notification → Bool × Notification
wait_entered entry note =
    if is_received note.state then (false, note)
    else (true, record { value = without_bits entry note.value; state = Waiting })

-- It completes with whether one has come, and with the value; only where one has come are the exit
-- bits cleared after it.
unfoldable pub wait_ended : ℕ → Notification → (Bool × ℕ) × Notification
wait_ended exit note = let come = is_received note.state in (
  (come, note.value),
  record {
    value = if come then without_bits exit note.value
        else note.value;
    state = NotWaiting;
  },
)

-- A take has nothing to complete with where the value is 0. Then the task is to wait (V11 tasks.c,
-- ulTaskGenericNotifyTake).
unfoldable pub take_entered : Notification → Bool × Notification
take_entered note =
    if note.value == 0 then (true, record note { state = Waiting }) else (false, note)

-- It completes with the value, which it then clears or counts down.
unfoldable pub take_ended : Bool → Notification → ℕ × Notification
take_ended clear note =
    (note.value, record { value = if clear then 0 else note.value - 1; state = NotWaiting })

-- Whether one had come. It is forgotten, but for its value (FreeRTOS Reference Manual,
-- xTaskNotifyStateClear).
unfoldable pub state_cleared : Notification → Bool × Notification
state_cleared note =
    let come = is_received note.state in
    (come, if come then record note { state = NotWaiting } else note)

-- The value as it was; then the bits are cleared (FreeRTOS Reference Manual,
-- ulTaskNotifyValueClear).
unfoldable pub value_cleared : ℕ → Notification → ℕ × Notification
value_cleared bits note = (note.value, record note { value = without_bits bits note.value })

-- Nobody waits for it any more (V11 tasks.c, vTaskSuspend).
unfoldable pub unawaited : Notification → Notification
unawaited note = record note { state = if is_waiting note.state then NotWaiting else note.state }

-- what a rule answers of one notification, and all of them with what it makes of it
abbrev pub of_slot :
    {A : Type 0} → ℕ → (Notification → A × Notification) → List Notification → A × List Notification
of_slot slot rule notes =
    let made = rule (note_at notes slot) in (made.0, slice_set notes slot made.1)
