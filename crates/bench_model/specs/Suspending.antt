-- Suspending tasks and resuming them, over orders of tasks that are kept in one way or another
-- (FreeRTOS Reference Manual, vTaskSuspend, vTaskResume and xTaskResumeFromISR).
use Rattle.std.specs.Prelude.{ℕ, suc, List, length, map, Bool, not, ◌&&◌, nat_le, nat_lt, if◌then◌else◌}
use Rattle.std.specs.List.{list_any}
use Rattle.bench_types.specs.declared.note.Notification.{Notification}
use Rattle.bench_types.specs.declared.reply.Reply.{Reply}
use Rattle.bench_types.specs.declared.reply.Reply.TheVariants.{Isr}
use Rattle.list_orders.specs.Search.{numbers}
use Rattle.bench_model.specs.Control.{core_at, ask_its_core}
use Rattle.bench_model.specs.Notes.{note_at, is_waiting, slot_in, unawaited}
use Rattle.bench_model.specs.Seek.{wake}
use Rattle.bench_model.specs.State.{State, QueueOps}

-- the task, which has so many notifications, waits for one of them
abbrev pub awaits_note : ℕ → ℕ → List Notification → Bool
awaits_note entries task notes =
    list_any (λ index. is_waiting (note_at notes (slot_in entries task index)).state)
    (numbers entries)

-- the slot is one of the task's
abbrev pub is_slot_of : ℕ → ℕ → ℕ → Bool
is_slot_of entries task slot =
    nat_le (slot_in entries task 0) slot && nat_lt slot (slot_in entries (suc task) 0)

-- The notifications, where the task waits for none of its own any more (V11 tasks.c, vTaskSuspend).
unfoldable pub without_waits : ℕ → ℕ → List Notification → List Notification
without_waits entries task notes =
    map (λ slot. if is_slot_of entries task slot then unawaited (note_at notes slot)
    else note_at notes slot)
    (numbers (length notes))

module _ {Orders : Type 0} (ops : QueueOps Orders) where
  -- A suspended task is not ready, and waits for nothing: for no tick, in no event list and for no
  -- notification (V11 tasks.c, prvTaskIsTaskSuspended).
  unfoldable pub is_suspended : ℕ → State Orders → Bool
  is_suspended task state =
      not (ops.is_ready task state.orders) && not (ops.waits task state.orders)
      && not (awaits_note state.settings.notes task state.notes)

  -- The task is neither ready nor does it wait any more, and the core that it runs on is asked. Its
  -- unfinished call stays, with its deadline. Where it is suspended already, nothing happens (V11
  -- tasks.c, vTaskSuspend).
  unfoldable pub suspended : ℕ → ℕ → State Orders → State Orders
  suspended acting task state =
      if is_suspended task state then state
      else record state {
        control = ask_its_core acting task state.control;
        notes = without_waits state.settings.notes task state.notes;
        orders = ops.suspend task state.orders;
      }

  -- A task that is suspended is made ready, and a core is sought for it; to another nothing happens
  -- (V11 tasks.c, vTaskResume).
  unfoldable pub resumed : ℕ → ℕ → State Orders → State Orders
  resumed acting task state =
      if is_suspended task state then wake ops acting task state else state

  -- An interrupt of the core resumes a task. It answers whether the task was suspended, and whether
  -- the core is to switch by its own request then (V11 tasks.c, xTaskResumeFromISR).
  unfoldable pub resume_interrupted : ℕ → ℕ → State Orders → Reply × State Orders
  resume_interrupted core task state =
      let later = resumed core task state in
      (Isr (is_suspended task state) (core_at later.control core).pend, later)
