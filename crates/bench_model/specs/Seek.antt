-- The core that is asked for a task, seeking one, and time slices. All that these rules read can be
-- seen, so each is one definition for both ways of keeping orders.
use Rattle.std.specs.Prelude.{ℕ, suc, List, length, filter, Bool, not, ◌&&◌, ◌||◌, ◌==◌, nat_lt, nat_le, Option, is_some, if◌then◌else◌}
use Rattle.std.specs.Option.{option_map_or}
use Rattle.list_orders.specs.Search.{numbers, best}
use Rattle.bench_model.specs.Control.{Control, task_at, current, is_due, is_idle, in_mask, ask, runs_on, ask_each}
use Rattle.bench_model.specs.State.{State, QueueOps, after_select}

-- An idle task stands below every other, below those of priority 0 too (V11 tasks.c,
-- prvYieldForTask takes tskIDLE_PRIORITY - 1); so the priorities in use count from 1 here.
abbrev pub effective : Control → ℕ → ℕ
effective control task = if is_idle control task then 0 else suc (task_at control task).in_use

-- the task is on a core that no other core asked to switch (V11 tasks.c, taskTASK_IS_RUNNING)
abbrev pub is_running : Control → ℕ → Bool
is_running control task = is_some (runs_on control task)

-- the core gives way to the task: it is not due, and its current task has preemption on and stands
-- below the task (V11 tasks.c, prvYieldForTask; FreeRTOS SMP documentation, vTaskPreemptionDisable)
abbrev pub is_preemptible_by : Control → ℕ → ℕ → Bool
is_preemptible_by control task core = let runs = current control core in
    not (is_due control core) && (task_at control runs).preempt
    && nat_lt (effective control runs) (effective control task)

-- the core whose task stands lower goes first, and of two that stand alike the one with the greater
-- number
abbrev pub yields_first : Control → ℕ → ℕ → Bool
yields_first control c d =
    let a = effective control (current control c) in
    let b = effective control (current control d) in
    nat_lt a b || (a == b && nat_le d c)

-- The core that is asked for a task: of the cores among these that give way to it, the one that
-- goes first. That the greater number goes first is this bench's choice.
unfoldable pub core_to_yield : Control → ℕ → (ℕ → Bool) → Option ℕ
core_to_yield control task among =
    best (λ core. among core && is_preemptible_by control task core) (yields_first control)
    (numbers (length control.cores))

-- Seeking a core for a task among these, by the core that acts: that of core_to_yield is asked; for
-- a task that runs, none is.
unfoldable pub seek : ℕ → ℕ → (ℕ → Bool) → Control → Control
seek acting task among control =
    if is_running control task then control
    else option_map_or (λ core. ask acting core control) (core_to_yield control task among) control

-- Where a task may go that lost a core to another: the cores of its mask; where it could stay on
-- the lost core, those of them that the other can't run on (V11 tasks.c,
-- prvSelectHighestPriorityTask).
abbrev pub may_move : Control → ℕ → ℕ → ℕ → ℕ → Bool
may_move control loser winner lost core =
    in_mask control loser core && not (in_mask control loser lost && in_mask control winner core)

module _ {Orders : Type 0} (ops : QueueOps Orders) where
  -- Waking a task: it is made ready, and a core of its mask is sought for it (V11 tasks.c,
  -- xTaskIncrementTick).
  unfoldable pub wake : ℕ → ℕ → State Orders → State Orders
  wake acting task state = record state {
    control = seek acting task (in_mask state.control task) state.control;
    orders = ops.add_to_ready_list state.control task state.orders;
  }

  -- After a switch of the core, another core is sought for the task that it had, where that is
  -- ready and lost the core.
  unfoldable pub after_eviction : ℕ → ℕ → State Orders → State Orders
  after_eviction core loser state =
      let winner = current state.control core in
      if not (winner == loser) && ops.is_ready loser state.orders
      then record
      state { control = seek core loser (may_move state.control loser winner core) state.control }
      else state

  -- a switch of the core, and the seek after it
  unfoldable pub after_switch : ℕ → State Orders → State Orders
  after_switch core state =
      after_eviction core (current state.control core) (after_select ops core state)

  -- the tasks in the ready list of a priority
  abbrev pub ready_in : ℕ → State Orders → List ℕ
  ready_in priority state =
      filter (λ task. ops.is_ready task state.orders
      && (task_at state.control task).in_use == priority) (numbers (length state.control.tasks))

  -- the core's task has to share its time: the core is not due, and the task has preemption on and
  -- stands in a ready list of more than one task
  abbrev pub shares_its_time : State Orders → ℕ → Bool
  shares_its_time state core = let runs = current state.control core in
      not (is_due state.control core) && (task_at state.control runs).preempt
      && ops.is_ready runs state.orders
      && nat_lt 1 (length (ready_in (task_at state.control runs).in_use state))

  -- Time slices, which a tick of core 0 ends: where slicing is on, each such core is asked (V11
  -- tasks.c, xTaskIncrementTick).
  unfoldable pub sliced : State Orders → State Orders
  sliced state =
      if state.settings.slicing
      then record state { control = ask_each 0 (shares_its_time state) state.control } else state
