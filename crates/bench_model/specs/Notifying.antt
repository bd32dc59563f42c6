-- Notifying a task and waiting for that, over orders of tasks that are kept in one way or another.
use Rattle.std.specs.Prelude.{ℕ, ◌-◌, ◌^◌, List, Bool, ◌&&◌, ◌==◌, nat_lt, Option, Some, None, if◌then◌else◌, slice_set}
use Rattle.bench_types.specs.declared.note.Note.{Note}
use Rattle.bench_types.specs.declared.note.Notification.{Notification}
use Rattle.bench_types.specs.declared.reply.Reply.{Reply}
use Rattle.bench_types.specs.declared.reply.Reply.TheVariants.{Done, Blocked, Flag, Value, Waited, Isr}
use Rattle.bench_types.specs.declared.step.BlockingCall.{BlockingCall}
use Rattle.bench_types.specs.declared.step.BlockingCall.TheVariants.{Delay, DelayUntil, NotifyWait, NotifyTake}
use Rattle.bench_types.specs.declared.step.Unfinished.TheVariants.{Made}
use Rattle.bench_model.specs.Control.{core_at}
use Rattle.bench_model.specs.Notes.{note_at, is_waiting, passes, notified, wait_ended, take_ended, state_cleared, value_cleared, of_slot, slot_of}
use Rattle.bench_model.specs.State.{State, QueueOps, blocked}
use Rattle.bench_model.specs.Seek.{wake}

-- a notification is awaited for so many ticks; 4294967295 are without end (FreeRTOS Reference
-- Manual, portMAX_DELAY)
abbrev pub timeout_of : ℕ → Option ℕ
timeout_of ticks = if ticks == 2 ^ 32 - 1 then None else Some ticks

module _ {Orders : Type 0} where
  abbrev pub is_passed : Note → State Orders → Bool
  is_passed note state =
      passes note.action (note_at state.notes (slot_of state.settings note.task note.index)).state

  -- Whether a notification had come to the task at the index (FreeRTOS Reference Manual,
  -- xTaskNotifyStateClearIndexed).
  unfoldable pub state_forgotten : ℕ → ℕ → State Orders → Reply × State Orders
  state_forgotten task index state =
      let made = of_slot (slot_of state.settings task index) state_cleared state.notes in
      (Flag made.0, record state { notes = made.1 })

  -- The task's value at the index before its bits are cleared (FreeRTOS Reference Manual,
  -- ulTaskNotifyValueClearIndexed).
  unfoldable pub bits_cleared : ℕ → ℕ → ℕ → State Orders → Reply × State Orders
  bits_cleared task bits index state =
      let made = of_slot (slot_of state.settings task index) (value_cleared bits) state.notes in
      (Value made.0, record state { notes = made.1 })

  -- A call completes: one that waited for a notification answers with that, a delay is done (V11
  -- tasks.c, xTaskGenericNotifyWait and ulTaskGenericNotifyTake).
  unfoldable pub completed : ℕ → BlockingCall → State Orders → Reply × State Orders
  completed task (NotifyWait entry exit ticks index) state =
      let made = of_slot (slot_of state.settings task index) (wait_ended exit) state.notes in
      (Waited made.0.0 made.0.1, record state { notes = made.1 })
  completed task (NotifyTake clear ticks index) state =
      let made = of_slot (slot_of state.settings task index) (take_ended clear) state.notes in
      (Value made.0, record state { notes = made.1 })
  completed task (Delay ticks) state = (Done, state)
  completed task (DelayUntil prev inc) state = (Done, state)

module _ {Orders : Type 0} (ops : QueueOps Orders) where
  -- Notifying a task at an index; one that waits for that is woken (V11 tasks.c,
  -- xTaskGenericNotify). The core acts.
  unfoldable pub notify : ℕ → Note → State Orders → State Orders
  notify acting note state =
      let slot = slot_of state.settings note.task note.index in
      let old = note_at state.notes slot in
      let later_state = record state {
        notes = slice_set state.notes slot (notified note.action old);
      } in
      if is_waiting old.state then wake ops acting note.task later_state else later_state

  -- An interrupt of the core notifies a task. It answers whether that passed, and whether the core
  -- is to switch by its own request then (FreeRTOS Reference Manual, xTaskNotifyFromISR and
  -- pxHigherPriorityTaskWoken).
  unfoldable pub interrupted : ℕ → Note → State Orders → Reply × State Orders
  interrupted core note state =
      let later_state = notify core note state in
      (Isr (is_passed note state) (core_at later_state.control core).pend, later_state)

  -- A call that has begun to wait for a notification: where it has nothing to complete with, and
  -- some ticks to wait, its task is blocked, else it completes at once (V11 tasks.c,
  -- xTaskGenericNotifyWait and ulTaskGenericNotifyTake).
  unfoldable pub awaited :
      ℕ → ℕ → BlockingCall → ℕ → Bool × List Notification → State Orders → Reply × State Orders
  awaited core task call ticks entered state =
      let waiting = record state { notes = entered.1 } in
      if entered.0 && nat_lt 0 ticks
      then (Blocked, blocked ops core task (Made call) (timeout_of ticks) None waiting)
      else completed task call waiting
