-- The calls that set a task's priority, core affinity mask and preemption. Who is asked after them
-- can be seen, so that is one definition for both ways of keeping orders.
use Rattle.std.specs.Prelude.{ℕ, ◌-◌, Bool, true, false, ◌&&◌, ◌||◌, ◌==◌, nat_lt, if◌then◌else◌}
use Rattle.std.specs.Option.{option_map_or}
use Rattle.bench_types.specs.declared.kernel_data.TaskControl.{TaskControl}
use Rattle.bench_model.specs.Control.{Control, task_at, in_mask, ask, runs_on, ask_its_core}
use Rattle.bench_model.specs.State.{State, QueueOps}
use Rattle.bench_model.specs.Seek.{seek}
use Rattle.bench_model.specs.ControlFields.{with_base, with_affinity, with_preemption, in_use_set, value_set}

-- a priority that is none counts as the greatest (FreeRTOS Reference Manual, vTaskPrioritySet)
abbrev pub capped : ℕ → ℕ → ℕ
capped priorities priority = if nat_lt priority priorities then priority else priorities - 1

-- The priority in use after a new base priority: a task that inherited a greater one keeps that
-- (V11 tasks.c, vTaskPrioritySet).
abbrev pub in_use_after : TaskControl → ℕ → ℕ
in_use_after task priority
    = if task.in_use == task.base || nat_lt task.in_use priority then priority else task.in_use

-- After a new base priority: for a ready task that was raised a core is sought, and the core of a
-- running task that was lowered is asked, where its preemption is on (V11 tasks.c,
-- vTaskPrioritySet).
unfoldable pub yields_after_priority_set : ℕ → ℕ → ℕ → ℕ → Bool → Control → Control
yields_after_priority_set acting task old new ready control =
    if nat_lt old new && ready then seek acting task (in_mask control task) control
    else (if nat_lt new old && (task_at control task).preempt then ask_its_core acting task control
    else control)

-- After a new mask: the core that the task runs on is asked where the mask lacks it; a ready task
-- that runs on none is sought one (FreeRTOS SMP documentation, vTaskCoreAffinitySet).
unfoldable pub yields_after_affinity_set : ℕ → ℕ → Bool → Control → Control
yields_after_affinity_set acting task ready control =
    option_map_or (λ core. if in_mask control task core then control else ask acting core control)
    (runs_on control task)
    (if ready then seek acting task (in_mask control task) control else control)

module _ {Orders : Type 0} (ops : QueueOps Orders) where
  -- The base priority becomes this one, and with it the priority in use and the list value; a ready
  -- task goes to the end of its list. Where it is the base priority already, nothing happens
  -- (FreeRTOS Reference Manual, vTaskPrioritySet).
  unfoldable pub priority_set : ℕ → ℕ → ℕ → State Orders → State Orders
  priority_set acting task priority state =
      let block = task_at state.control task in
      let new = capped state.settings.priorities priority in
      let ready = ops.is_ready task state.orders in
      let later
      = value_set ops task new
      (in_use_set ops task (in_use_after block new)
      (record state { control = with_base task new state.control })) in
      if new == block.base then state
      else record
      later { control = yields_after_priority_set acting task block.base new ready later.control }

  -- The core affinity mask becomes this one (FreeRTOS SMP documentation, vTaskCoreAffinitySet).
  unfoldable pub affinity_set : ℕ → ℕ → ℕ → State Orders → State Orders
  affinity_set acting task mask state = record state {
    control = yields_after_affinity_set acting task (ops.is_ready task state.orders)
        (with_affinity task mask state.control);
  }

  -- No tick ends a slice of the task any more, and no task takes a core from it (FreeRTOS SMP
  -- documentation, vTaskPreemptionDisable).
  unfoldable pub preemption_off : ℕ → State Orders → State Orders
  preemption_off task state = record state { control = with_preemption task false state.control }

  -- The core of a running task is asked, since a task may have waited for it (FreeRTOS SMP
  -- documentation, vTaskPreemptionEnable).
  unfoldable pub preemption_on : ℕ → ℕ → State Orders → State Orders
  preemption_on acting task state =
      record state { control = ask_its_core acting task (with_preemption task true state.control) }
