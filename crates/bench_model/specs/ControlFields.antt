-- Changes of a task's control block: its priority in use, base priority, core affinity mask and
-- preemption flag.
use Rattle.std.specs.Prelude.{ℕ, length, Bool, if◌then◌else◌, slice_set}
use Rattle.bench_types.specs.declared.kernel_data.TaskControl.{TaskControl}
use Rattle.bench_types.specs.Header.{cores_of_mask}
use Rattle.bench_model.specs.Control.{Control, task_at}
use Rattle.bench_model.specs.State.{State, QueueOps}

abbrev pub with_task : ℕ → TaskControl → Control → Control
with_task task block control = record control { tasks = slice_set control.tasks task block }

abbrev pub with_in_use : ℕ → ℕ → Control → Control
with_in_use task priority control =
    with_task task (record (task_at control task) { in_use = priority }) control

abbrev pub with_base : ℕ → ℕ → Control → Control
with_base task priority control =
    with_task task (record (task_at control task) { base = priority }) control

-- the mask is cut to the bits that mean a core (FreeRTOS SMP documentation, vTaskCoreAffinitySet)
abbrev pub with_affinity : ℕ → ℕ → Control → Control
with_affinity task mask control =
    with_task task
    (record (task_at control task) { mask = cores_of_mask (length control.cores) mask }) control

-- FreeRTOS SMP documentation, vTaskPreemptionDisable and vTaskPreemptionEnable
abbrev pub with_preemption : ℕ → Bool → Control → Control
with_preemption task preempt control =
    with_task task (record (task_at control task) { preempt = preempt }) control

module _ {Orders : Type 0} (ops : QueueOps Orders) where
  -- The priority in use becomes this one. A ready task goes to the end of the ready list of it,
  -- also where it is the priority that the task had (V11 tasks.c, vTaskPrioritySet).
  unfoldable pub in_use_set : ℕ → ℕ → State Orders → State Orders
  in_use_set task priority state =
      let control = with_in_use task priority state.control in
      record state {
        control = control;
        orders = if ops.is_ready task state.orders
            then ops.add_to_ready_list control task state.orders else state.orders;
      }

  -- The list value becomes this one, where the session has list values (V11 list.h,
  -- listSET_LIST_ITEM_VALUE).
  abbrev pub value_set : ℕ → ℕ → State Orders → State Orders
  value_set task value state =
      record state { orders = ops.set_list_value task value state.orders }

  -- The priority in use and the list value become this one (V11 tasks.c, xTaskPriorityInherit).
  unfoldable pub in_use_and_value_set : ℕ → ℕ → State Orders → State Orders
  in_use_and_value_set task priority state =
      value_set task priority (in_use_set task priority state)
