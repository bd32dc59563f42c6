-- Mutexes with priority inheritance, over orders of tasks that are kept in one way or another
-- (FreeRTOS Reference Manual, xSemaphoreTake and xSemaphoreGive).
use Rattle.std.specs.Prelude.{ℕ, List, length, filter, Bool, true, false, not, ◌&&◌, ◌==◌, nat_lt, Option, Some, None, unwrap_or, if◌then◌else◌, slice_set}
use Rattle.std.specs.Option.{option_map_or}
use Rattle.bench_types.specs.declared.kernel_data.EventWait.{EventWait}
use Rattle.bench_types.specs.declared.kernel_data.Waiter.{Waiter}
use Rattle.bench_types.specs.declared.reply.Reply.{Reply}
use Rattle.bench_types.specs.declared.reply.Reply.TheVariants.{Blocked, Flag}
use Rattle.bench_types.specs.declared.step.Unfinished.TheVariants.{Take}
use Rattle.bench_model.specs.ControlFields.{in_use_and_value_set}
use Rattle.bench_model.specs.Control.{Control, task_at, in_mask, ask_its_core}
use Rattle.bench_model.specs.Notifying.{timeout_of}
use Rattle.bench_model.specs.Seek.{seek, wake}
use Rattle.bench_model.specs.State.{State, QueueOps, holder_at, after_return, blocked}

-- the task holds the mutex
abbrev pub holds : ℕ → Option ℕ → Bool
holds task holder = option_map_or (λ other. other == task) holder false

-- how many mutexes the task holds (uxMutexesHeld)
abbrev pub held_by : List (Option ℕ) → ℕ → ℕ
held_by holders task = length (filter (holds task) holders)

-- The mark of a wait: the holder is another task, whose base priority is below the priority in use
-- of the task that waits (V11 tasks.c, xTaskPriorityInherit).
abbrev pub is_marked : Control → ℕ → ℕ → Bool
is_marked control task holder =
    not (holder == task) && nat_lt (task_at control holder).base (task_at control task).in_use

-- the greater of the base priority and the waiting priority of a waiter, if there is one
abbrev pub disinherit_priority : Option Waiter → ℕ → ℕ
disinherit_priority first base =
    let priority = option_map_or (λ (waiter : Waiter). waiter.wait.priority) first base in
    if nat_lt base priority then priority else base

module _ {Orders : Type 0} where
  unfoldable pub taken : ℕ → ℕ → State Orders → State Orders
  taken task mutex state = record state { holders = slice_set state.holders mutex (Some task) }

module _ {Orders : Type 0} (ops : QueueOps Orders) where
  -- the priority that the task begins to wait with: its list value, or its priority in use where
  -- the session has no list values (V11 tasks.c, xTaskPlaceOnEventList)
  abbrev pub waiting_priority : ℕ → State Orders → ℕ
  waiting_priority task state =
      unwrap_or (ops.list_value task state.orders) (task_at state.control task).in_use

  -- The holder takes over a greater priority in use; where it is ready and runs on no core, a core
  -- is sought for it (V11 tasks.c, xTaskPriorityInherit).
  unfoldable pub inherited : ℕ → ℕ → ℕ → State Orders → State Orders
  inherited acting holder priority state =
      let later = in_use_and_value_set ops holder priority state in
      let control = seek acting holder (in_mask later.control holder) later.control in
      let sought = record later { control = control } in
      if nat_lt (task_at state.control holder).in_use priority
      then (if ops.is_ready holder state.orders then sought else later) else state

  -- The task waits for a mutex that a task holds, and the holder inherits its priority in use.
  unfoldable pub waited_at : ℕ → ℕ → ℕ → ℕ → Option ℕ → State Orders → State Orders
  waited_at core task mutex holder ticks state =
      let call = Take mutex (is_marked state.control task holder) in
      let wait : EventWait = record { list = mutex; priority = waiting_priority task state } in
      blocked ops core task call ticks (Some wait)
      (inherited core holder (task_at state.control task).in_use state)

  -- Taking a mutex, by who holds it: a free one is taken; for one that is held, the task waits, or
  -- is told no where it waits for 0 ticks.
  abbrev pub take_from : Option ℕ → ℕ → ℕ → ℕ → ℕ → State Orders → Reply × State Orders
  take_from None core task mutex ticks state = (Flag true, taken task mutex state)
  take_from (Some holder) core task mutex ticks state =
      if ticks == 0 then (Flag false, state)
      else (Blocked, waited_at core task mutex holder (timeout_of ticks) state)

  -- taking a mutex (FreeRTOS Reference Manual, xSemaphoreTake)
  unfoldable pub mutex_take : ℕ → ℕ → ℕ → ℕ → State Orders → Reply × State Orders
  mutex_take core task mutex ticks state =
      take_from (holder_at state.holders mutex) core task mutex ticks state

  -- what the task owes to the first waiter of the mutex
  abbrev pub owed : ℕ → ℕ → State Orders → ℕ
  owed task mutex state =
      disinherit_priority (ops.first_waiter mutex state.orders) (task_at state.control task).base

  -- A task's priority in use and its list value become this one, unless it is this one already; the
  -- core of a running task is asked.
  unfoldable pub after_disinherit : ℕ → ℕ → ℕ → State Orders → State Orders
  after_disinherit acting task priority state =
      let later = in_use_and_value_set ops task priority state in
      if (task_at state.control task).in_use == priority then state
      else record later { control = ask_its_core acting task later.control }

  -- A wait with a mark ends without the mutex: a holder of this mutex alone keeps what it owes to
  -- the tasks that still wait (V11 tasks.c, vTaskPriorityDisinheritAfterTimeout).
  unfoldable pub timed_out : ℕ → ℕ → ℕ → Bool → ℕ → State Orders → State Orders
  timed_out acting task mutex mark holder state =
      if mark && not (holder == task) && held_by state.holders holder == 1
      then after_disinherit acting holder (owed holder mutex state) state else state

  -- A wait for a mutex is finished, by who holds it: with a free mutex, which is taken, or with
  -- none where its deadline is reached; else the task waits again, for the ticks that are left.
  abbrev pub finish_from : Option ℕ → ℕ → ℕ → ℕ → Bool → State Orders → Reply × State Orders
  finish_from None core task mutex mark state =
      (Flag true, taken task mutex (after_return ops task state))
  finish_from (Some holder) core task mutex mark state =
      let left = ops.deadline_left task state.orders in
      if option_map_or (λ ticks. ticks == 0) left false
      then (Flag false, timed_out core task mutex mark holder (after_return ops task state))
      else (Blocked, waited_at core task mutex holder left state)

  -- finishing a wait for a mutex (FreeRTOS Reference Manual, xSemaphoreTake)
  unfoldable pub take_finished : ℕ → ℕ → ℕ → Bool → State Orders → Reply × State Orders
  take_finished core task mutex mark state =
      finish_from (holder_at state.holders mutex) core task mutex mark state

  -- A task that holds no mutex any more has its base priority in use again (V11 tasks.c,
  -- xTaskPriorityDisinherit).
  unfoldable pub disinherited : ℕ → ℕ → State Orders → State Orders
  disinherited core task state =
      if held_by state.holders task == 0
      then after_disinherit core task (task_at state.control task).base state else state

  -- the first waiter of the event list, if there is one, is woken (V11 tasks.c,
  -- xTaskRemoveFromEventList)
  unfoldable pub first_woken : ℕ → ℕ → State Orders → State Orders
  first_woken acting list state =
      option_map_or (λ waiter. wake ops acting waiter.task state)
      (ops.first_waiter list state.orders) state

  -- Giving a mutex, by who holds it: a free one is not given; of one that the task holds, the first
  -- waiter is woken, and has to take it itself.
  abbrev pub give_from : Option ℕ → ℕ → ℕ → ℕ → State Orders → Reply × State Orders
  give_from None core task mutex state = (Flag false, state)
  give_from (Some holder) core task mutex state = (
    Flag true,
    first_woken core mutex
        (disinherited core task
        (record state { holders = slice_set state.holders mutex None })),
  )

  -- giving a mutex (FreeRTOS Reference Manual, xSemaphoreGive)
  unfoldable pub mutex_give : ℕ → ℕ → ℕ → State Orders → Reply × State Orders
  mutex_give core task mutex state =
      give_from (holder_at state.holders mutex) core task mutex state
