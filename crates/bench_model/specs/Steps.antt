-- The rules of the steps, over orders of tasks that are kept in one way or another.
use Rattle.std.specs.Prelude.{ℕ, List, fold, true, false, ◌==◌, Some, None, if◌then◌else◌}
use Rattle.std.specs.Option.{option_map_or}
use Rattle.bench_types.specs.declared.reply.Reply.{Reply}
use Rattle.bench_types.specs.declared.reply.Reply.TheVariants.{Done, Blocked, Flag, Until, Refused}
use Rattle.bench_types.specs.declared.step.Step.{Step}
use Rattle.bench_types.specs.declared.step.Step.TheVariants.{Tick, Switch, Interrupt, QueueInterrupt, ResumeInterrupt, Pass}
use Rattle.bench_types.specs.declared.step.Step.TheVariants as steps
use Rattle.bench_types.specs.declared.step.BlockingCall.TheVariants as blocking
use Rattle.bench_types.specs.declared.step.Unfinished.{Unfinished}
use Rattle.bench_types.specs.declared.step.Unfinished.TheVariants.{Made, Take, Transfer}
use Rattle.bench_types.specs.declared.step.Call.{Call}
use Rattle.bench_types.specs.declared.step.Call.TheVariants.{Yield, Delay, DelayUntil, Finish, PrioritySet, AffinitySet, PreemptOff, PreemptOn, Notify}
use Rattle.bench_types.specs.declared.step.Call.TheVariants.{NotifyWait, NotifyTake, StateClear, ValueClear, MutexTake, MutexGive, QueueSend, QueueReceive, Suspend, Resume, HoldOpen, HoldClose}
use Rattle.bench_types.specs.declared.step.Direction.TheVariants.{Send, Receive}
use Rattle.bench_model.specs.Holds.{hold_opened, hold_closed}
use Rattle.bench_model.specs.Queues.{queue_called, queue_finished, queue_interrupted}
use Rattle.bench_model.specs.Refusals.{refusal}
use Rattle.bench_model.specs.Suspending.{suspended, resumed, resume_interrupted}
use Rattle.bench_model.specs.State.{State, QueueOps, after_return, call_at, yielded, blocked}
use Rattle.bench_model.specs.Until.{next_wake, is_ahead, ticks_to}
use Rattle.bench_model.specs.Seek.{wake, after_switch, sliced}
use Rattle.bench_model.specs.PriorityAffinity.{priority_set, affinity_set, preemption_off, preemption_on}
use Rattle.bench_model.specs.Notes.{wait_entered, take_entered, of_slot, slot_of}
use Rattle.bench_model.specs.Notifying.{notify, is_passed, interrupted, state_forgotten, bits_cleared, awaited, completed}
use Rattle.bench_model.specs.Mutexes.{mutex_take, mutex_give, take_finished}

module _ {Orders : Type 0} (ops : QueueOps Orders) where
  -- the tasks are woken in turn, by core 0
  abbrev pub woken : List ℕ → State Orders → State Orders
  woken tasks state = fold (λ later task. wake ops 0 task later) state tasks

  -- The tick: each task that has waited long enough is woken, and then time slices end (V11
  -- tasks.c, xTaskIncrementTick).
  unfoldable pub ticked : State Orders → State Orders
  ticked state =
      let later = ops.advance state.orders in
      sliced ops (woken (ops.due later) (record state { orders = later }))

  -- the task's unfinished call returns
  unfoldable pub after_finish : ℕ → ℕ → Unfinished → State Orders → Reply × State Orders
  after_finish core task (Made call) state = completed task call (after_return ops task state)
  after_finish core task (Take mutex mark) state = take_finished ops core task mutex mark state
  after_finish core task (Transfer queue direction) state =
      queue_finished ops core task direction queue state

  -- The task waits until its next wake, or where that has passed only asks its core to switch (V11
  -- tasks.c, xTaskDelayUntil).
  unfoldable pub delayed_until : ℕ → ℕ → ℕ → ℕ → State Orders → Reply × State Orders
  delayed_until core task prev inc state =
      let now = ops.tick_count state.orders in
      let wake = next_wake prev inc in
      if is_ahead now prev wake
      then (
        Until true wake,
        blocked ops core task (Made (blocking.DelayUntil prev inc))
            (Some (ticks_to now wake)) None state,
      )
      else (Until false wake, yielded ops core state)

  -- What a call that is not refused answers and does (FreeRTOS Reference Manual, taskYIELD and
  -- vTaskDelay). The core acts.
  unfoldable pub called : ℕ → ℕ → Call → State Orders → Reply × State Orders
  called core task Yield state = (Done, yielded ops core state)
  called core task (Delay ticks) state =
      if ticks == 0 then (Done, yielded ops core state)
      else (Blocked, blocked ops core task (Made (blocking.Delay ticks)) (Some ticks) None state)
  called core task (DelayUntil prev inc) state = delayed_until core task prev inc state
  called core task Finish state =
      option_map_or (λ call. after_finish core task call state) (call_at state.calls task)
      (Done, state)
  called core task (PrioritySet other priority) state =
      (Done, priority_set ops core other priority state)
  called core task (AffinitySet other mask) state = (Done, affinity_set ops core other mask state)
  called core task (PreemptOff other) state = (Done, preemption_off ops other state)
  called core task (PreemptOn other) state = (Done, preemption_on ops core other state)
  called core task (Notify note) state =
      (Flag (is_passed note state), notify ops core note state)
  called core task (NotifyWait entry exit ticks index) state =
      awaited ops core task (blocking.NotifyWait entry exit ticks index) ticks
      (of_slot (slot_of state.settings task index) (wait_entered entry) state.notes) state
  called core task (NotifyTake clear ticks index) state =
      awaited ops core task (blocking.NotifyTake clear ticks index) ticks
      (of_slot (slot_of state.settings task index) take_entered state.notes) state
  called core task (StateClear other index) state = state_forgotten other index state
  called core task (ValueClear other bits index) state = bits_cleared other bits index state
  called core task (MutexTake mutex ticks) state = mutex_take ops core task mutex ticks state
  called core task (MutexGive mutex) state = mutex_give ops core task mutex state
  called core task (QueueSend queue ticks) state =
      queue_called ops core task Send queue ticks state
  called core task (QueueReceive queue ticks) state =
      queue_called ops core task Receive queue ticks state
  called core task (Suspend other) state = (Done, suspended ops core other state)
  called core task (Resume other) state = (Done, resumed ops core other state)
  called core task HoldOpen state = (Done, hold_opened core state)
  called core task HoldClose state = (Done, hold_closed core state)

  -- what a step that is not refused answers and does; in a pass time goes by and nothing happens
  unfoldable pub performed : Step → State Orders → Reply × State Orders
  performed Tick state = (Done, ticked state)
  performed (Switch core) state = (Done, after_switch ops core state)
  performed (steps.Call core task call) state = called core task call state
  performed (Interrupt core note) state = interrupted ops core note state
  performed (QueueInterrupt core queue direction) state =
      queue_interrupted ops core direction queue state
  performed (ResumeInterrupt core task) state = resume_interrupted ops core task state
  performed (Pass units) state = (Done, state)

  -- The step: its reply and the state afterwards. A refused step changes nothing.
  unfoldable pub after : Step → State Orders → Reply × State Orders
  after step state =
      option_map_or (λ why. (Refused why, state)) (refusal ops step state) (performed step state)
