-- What can be seen of one task.
use Rattle.std.specs.Prelude.{ℕ, ◌-◌, ◌==◌, List, find, Option, option_map, is_some}
use Rattle.bench_types.specs.declared.kernel_data.Delayed.{Delayed}
use Rattle.bench_types.specs.declared.kernel_data.TaskLook.{TaskLook}
use Rattle.bench_types.specs.declared.note.Notification.{Notification}
use Rattle.bench_model.specs.Control.{task_at}
use Rattle.bench_model.specs.Mutexes.{held_by}
use Rattle.bench_model.specs.Notes.{note_at, slot_of}
use Rattle.bench_model.specs.State.{State, call_at}
use Rattle.list_orders.specs.Search.{has}
use Rattle.bench_model.specs.Table.{Stamps, Table, stamp_queues, row_at, wake_in, is_ready}
use Rattle.bench_model.specs.Lists.{View, list_queues}
pub use Rattle.bench_model.specs.Lists.{left_in}
use Rattle.bench_model.specs.Suspending.{is_suspended}

-- the ticks to the wake of a blocked task, none for a ready task, for one that waits without end
-- and for a suspended one (FreeRTOS Reference Manual, vTaskDelay)
abbrev pub ticks_left : ℕ → Stamps → Option ℕ
ticks_left task stamps =
    option_map (λ wake. wake - stamps.tick) (wake_in (row_at stamps task).standing)

-- a task's notification of an index
abbrev pub note_look : {Orders : Type 0} → State Orders → ℕ → ℕ → Notification
note_look state task index = note_at state.notes (slot_of state.settings task index)

-- What a table shows of a task (FreeRTOS Reference Manual, vTaskGetInfo and "Task Notifications").
unfoldable pub task_look : Table → ℕ → TaskLook
task_look table task = let block = task_at table.control task in record {
  in_use = block.in_use;
  base = block.base;
  mask = block.mask;
  preempt = block.preempt;
  ready = is_ready task table.orders;
  suspended = is_suspended stamp_queues task table;
  left = ticks_left task table.orders;
  held = held_by table.holders task;
  in_call = is_some (call_at table.calls task);
  value = (note_look table task 0).value;
  state = (note_look table task 0).state;
}

-- what lists show of a task
unfoldable pub look_in : View → ℕ → TaskLook
look_in view task = let block = task_at view.control task in record {
  in_use = block.in_use;
  base = block.base;
  mask = block.mask;
  preempt = block.preempt;
  ready = has task view.orders.ready;
  suspended = is_suspended list_queues task view;
  left = left_in task view.orders.delayed;
  held = held_by view.holders task;
  in_call = is_some (call_at view.calls task);
  value = (note_look view task 0).value;
  state = (note_look view task 0).state;
}
