-- A step changes the priority in use of one task at most.
use Rattle.std.proofs.Common.{◌≡◌, ℕ, Bool, true, false, cond, eqb, not, ltb, ◌&&◌, List, [], ◌∷◌, length, Option, Some, None, refl, sym, ap, ◌∙◌}
use Rattle.std.specs.Prelude.{slice_set}
use Rattle.std.specs.Option.{option_map_or}
use Rattle.bench_types.specs.Header.{cores_of_mask}
use Rattle.bench_types.specs.declared.kernel_data.TaskControl.{TaskControl}
use Rattle.bench_types.specs.declared.kernel_data.Waiter.{Waiter}
use Rattle.bench_types.specs.declared.note.Note.{Note}
use Rattle.bench_types.specs.declared.note.Notification.{Notification}
use Rattle.bench_types.specs.declared.reply.Refusal.{Refusal}
use Rattle.bench_types.specs.declared.reply.Reply.{Reply}
use Rattle.bench_types.specs.declared.reply.Reply.TheVariants.{Done, Blocked, Flag, Until, Refused}
use Rattle.bench_types.specs.declared.step.Step.{Step}
use Rattle.bench_types.specs.declared.step.Step.TheVariants.{Tick, Switch, Interrupt, QueueInterrupt, ResumeInterrupt, Pass}
use Rattle.bench_types.specs.declared.step.Step.TheVariants as steps
use Rattle.bench_types.specs.declared.step.Call.{Call}
use Rattle.bench_types.specs.declared.step.Call.TheVariants.{Yield, Delay, DelayUntil, Finish, PrioritySet, AffinitySet, PreemptOff, PreemptOn, Notify}
use Rattle.bench_types.specs.declared.step.Call.TheVariants.{NotifyWait, NotifyTake, StateClear, ValueClear, MutexTake, MutexGive, QueueSend, QueueReceive, Suspend, Resume, HoldOpen, HoldClose}
use Rattle.bench_types.specs.declared.step.Direction.{Direction}
use Rattle.bench_types.specs.declared.step.Direction.TheVariants.{Send, Receive}
use Rattle.bench_types.specs.declared.step.BlockingCall.{BlockingCall}
use Rattle.bench_types.specs.declared.step.BlockingCall.TheVariants as blocking
use Rattle.bench_types.specs.declared.step.Unfinished.{Unfinished}
use Rattle.bench_types.specs.declared.step.Unfinished.TheVariants.{Made, Take, Transfer}
use Rattle.bench_model.specs.Control.{Control, current, task_at, in_mask, ask_each, ask_its_core}
use Rattle.bench_model.specs.ControlFields.{with_base, with_affinity, with_preemption, in_use_set, value_set, in_use_and_value_set}
use Rattle.bench_model.specs.Holds.{hold_opened, hold_closed}
use Rattle.bench_model.specs.Mutexes.{held_by, taken, inherited, waited_at, take_from, mutex_take, owed, after_disinherit, timed_out, finish_from}
use Rattle.bench_model.specs.Mutexes.{take_finished, disinherited, first_woken, give_from, mutex_give}
use Rattle.bench_model.specs.Notes.{note_at, is_waiting, notified, wait_entered, take_entered, of_slot, slot_of}
use Rattle.bench_model.specs.Notifying.{timeout_of, notify, interrupted, state_forgotten, bits_cleared, completed, awaited}
use Rattle.bench_model.specs.PriorityAffinity.{capped, in_use_after, yields_after_priority_set, yields_after_affinity_set, priority_set, affinity_set}
use Rattle.bench_model.specs.PriorityAffinity.{preemption_off, preemption_on}
use Rattle.bench_model.specs.Queues.{can_pass, other_way, passed, queue_at, queue_called, queue_finished, queue_interrupted, queue_waited, with_passed}
use Rattle.bench_model.specs.Refusals.{refusal}
use Rattle.bench_model.specs.Suspending.{is_suspended, resume_interrupted, resumed, suspended, without_waits}
use Rattle.bench_model.specs.Seek.{seek, may_move, wake, after_eviction, after_switch, shares_its_time, sliced}
use Rattle.bench_model.specs.State.{State, QueueOps, call_at, holder_at, after_select, after_return, yielded, blocked}
use Rattle.bench_model.specs.Steps.{woken, ticked, delayed_until, after_finish, called, performed, after}
use Rattle.bench_model.specs.Until.{next_wake, is_ahead, ticks_to}
use Rattle.bench_model.specs.Waiters.{event_list}
use Rattle.order_laws.proofs.ControlBlocks.{block_other, in_use_kept}
use Rattle.rule_laws.proofs.Awaiting.{completed_notes}
use Rattle.rule_laws.proofs.PriorityAffinity.{its_core_more, after_priority_set_more, after_affinity_set_more}
use Rattle.rule_laws.proofs.Seeks.{seek_more, each_more}
use Rattle.smp_kernel.specs.Raised.{raised_by_end, raised_by_call, raised_by, KeepsOthers}

-- each task keeps its priority in use
abbrev KeepsAll : Control → Control → Type 0
KeepsAll before after = (task : ℕ) → (task_at after task).in_use ≡ (task_at before task).in_use

same_tasks : (before after : Control) → after.tasks ≡ before.tasks → KeepsAll before after
same_tasks before after same task = ap (λ (ts : List TaskControl). (task_at (record { cores = []; tasks = ts }) task).in_use) same

all_kept : (raised : Option ℕ) (before after : Control) → KeepsAll before after → KeepsOthers raised before after
all_kept raised before after kept task other = kept task

kept_then : (raised : Option ℕ) (before next after : Control) → KeepsOthers raised before next → KeepsAll next after → KeepsOthers raised before after
kept_then raised before next after first second task other = second task ∙ first task other

then_kept : (raised : Option ℕ) (before next after : Control) → KeepsAll before next → KeepsOthers raised next after → KeepsOthers raised before after
then_kept raised before next after first second task other = second task other ∙ first task

module _ {Orders : Type 0} (ops : QueueOps Orders) where
  abbrev outcome : Reply → State Orders → Reply × State Orders
  outcome reply state = (reply, state)

  -- waking, switching and slicing
  wake_kept : (acting task : ℕ) (state : State Orders) → KeepsAll state.control (wake ops acting task state).control
  unfolding wake
  wake_kept acting task state = same_tasks state.control (seek acting task (in_mask state.control task) state.control)
      (seek_more acting task (in_mask state.control task) state.control).tasks

  woken_kept : (tasks : List ℕ) (state : State Orders) → KeepsAll state.control (woken ops tasks state).control
  woken_kept [] state task = refl
  woken_kept (first ∷ tasks) state task = woken_kept tasks (wake ops 0 first state) task ∙ wake_kept 0 first state task

  sliced_kept : (state : State Orders) → KeepsAll state.control (sliced ops state).control
  unfolding sliced
  sliced_kept state = at state.settings.slicing
    where
      at : (b : Bool) → KeepsAll state.control (cond b (record state { control = ask_each 0 (shares_its_time ops state) state.control }) state).control
      at true = same_tasks state.control (ask_each 0 (shares_its_time ops state) state.control) (each_more 0 (shares_its_time ops state) state.control).tasks
      at false = λ task. refl

  ticked_kept : (state : State Orders) → KeepsAll state.control (ticked ops state).control
  unfolding ticked
  ticked_kept state task =
      let later = record state { orders = ops.advance state.orders } in
      sliced_kept (woken ops (ops.due later.orders) later) task ∙ woken_kept (ops.due later.orders) later task

  evicted_kept : (core loser : ℕ) (state : State Orders) → KeepsAll state.control (after_eviction ops core loser state).control
  unfolding after_eviction
  evicted_kept core loser state = at (not (eqb (current state.control core) loser) && ops.is_ready loser state.orders)
    where
      moved : Control
      moved = seek core loser (may_move state.control loser (current state.control core) core) state.control

      at : (b : Bool) → KeepsAll state.control (cond b (record state { control = moved }) state).control
      at true = same_tasks state.control moved (seek_more core loser (may_move state.control loser (current state.control core) core) state.control).tasks
      at false = λ task. refl

  switch_kept : (core : ℕ) (state : State Orders) → KeepsAll state.control (after_switch ops core state).control
  unfolding after_switch after_select
  switch_kept core state task = evicted_kept core (current state.control core) (after_select ops core state) task

  notify_kept : (acting : ℕ) (note : Note) (state : State Orders) → KeepsAll state.control (notify ops acting note state).control
  unfolding notify
  notify_kept acting note state = at (is_waiting (note_at state.notes slot).state)
    where
      slot : ℕ
      slot = slot_of state.settings note.task note.index

      known : State Orders
      known = record state { notes = slice_set state.notes slot (notified note.action (note_at state.notes slot)) }

      at : (b : Bool) → KeepsAll state.control (cond b (wake ops acting note.task known) known).control
      at true = wake_kept acting note.task known
      at false = λ task. refl

  -- calls that set something
  in_use_others : (task priority : ℕ) (state : State Orders) → KeepsOthers (Some task) state.control (in_use_set ops task priority state).control
  unfolding in_use_set
  in_use_others task priority state other away =
      ap (λ (t : TaskControl). t.in_use) (block_other state.control task (record (task_at state.control task) { in_use = priority }) other
      (λ same. away (ap Some (sym same))))

  both_others : (task priority : ℕ) (state : State Orders) → KeepsOthers (Some task) state.control (in_use_and_value_set ops task priority state).control
  unfolding in_use_and_value_set
  both_others task priority state = in_use_others task priority state

  priority_others : (core task priority : ℕ) (state : State Orders) → KeepsOthers (Some task) state.control (priority_set ops core task priority state).control
  unfolding priority_set
  priority_others core task priority state = at (eqb new block.base)
    where
      block : TaskControl
      block = task_at state.control task

      new : ℕ
      new = capped state.settings.priorities priority

      ready : Bool
      ready = ops.is_ready task state.orders

      based : State Orders
      based = record state { control = with_base task new state.control }

      later : State Orders
      later = value_set ops task new (in_use_set ops task (in_use_after block new) based)

      at : (b : Bool) → KeepsOthers (Some task) state.control (cond b state
          (record later { control = yields_after_priority_set core task block.base new ready later.control })).control
      at true = λ other away. refl
      at false =
          kept_then (Some task) state.control later.control (yields_after_priority_set core task block.base new ready later.control)
          (then_kept (Some task) state.control based.control later.control (in_use_kept state.control task (record block { base = new }) refl)
          (in_use_others task (in_use_after block new) based))
          (same_tasks later.control (yields_after_priority_set core task block.base new ready later.control)
          (after_priority_set_more core task block.base new ready later.control).tasks)

  affinity_kept : (core task mask : ℕ) (state : State Orders) → KeepsAll state.control (affinity_set ops core task mask state).control
  unfolding affinity_set
  affinity_kept core task mask state other =
      let masked = with_affinity task mask state.control in
      let ready = ops.is_ready task state.orders in
      same_tasks masked (yields_after_affinity_set core task ready masked) (after_affinity_set_more core task ready masked).tasks other
      ∙ in_use_kept state.control task (record (task_at state.control task) { mask = cores_of_mask (length state.control.cores) mask }) refl other

  off_kept : (task : ℕ) (state : State Orders) → KeepsAll state.control (preemption_off ops task state).control
  unfolding preemption_off
  off_kept task state = in_use_kept state.control task (record (task_at state.control task) { preempt = false }) refl

  on_kept : (core task : ℕ) (state : State Orders) → KeepsAll state.control (preemption_on ops core task state).control
  unfolding preemption_on
  on_kept core task state other =
      let set = with_preemption task true state.control in
      same_tasks set (ask_its_core core task set) (its_core_more core task set).tasks other ∙ in_use_kept state.control task
      (record (task_at state.control task) { preempt = true }) refl other

  -- calls that wait
  completed_kept : (task : ℕ) (call : BlockingCall) (state : State Orders) → KeepsAll state.control (completed task call state).1.control
  completed_kept task call state other = ap (λ (s : State Orders). (task_at s.control other).in_use) (completed_notes task call state).1

  awaited_kept : (core task : ℕ) (call : BlockingCall) (ticks : ℕ) (entered : Bool × List Notification) (state : State Orders) → KeepsAll state.control
      (awaited ops core task call ticks entered state).1.control
  unfolding awaited blocked
  awaited_kept core task call ticks entered state = at (entered.0 && ltb 0 ticks)
    where
      waiting : State Orders
      waiting = record state { notes = entered.1 }

      at : (b : Bool) → KeepsAll state.control (cond b (outcome Blocked (blocked ops core task (Made call) (timeout_of ticks) None waiting))
          (completed task call waiting)).1.control
      at true = λ other. refl
      at false = completed_kept task call waiting

  until_kept : (core task prev inc : ℕ) (state : State Orders) → KeepsAll state.control (delayed_until ops core task prev inc state).1.control
  unfolding delayed_until yielded blocked
  until_kept core task prev inc state = at (is_ahead (ops.tick_count state.orders) prev (next_wake prev inc))
    where
      at : (b : Bool) → KeepsAll state.control (cond b
          (outcome (Until true (next_wake prev inc)) (blocked ops core task (Made (blocking.DelayUntil prev inc))
          (Some (ticks_to (ops.tick_count state.orders) (next_wake prev inc))) None state))
          (outcome (Until false (next_wake prev inc)) (yielded ops core state))).1.control
      at true = λ other. refl
      at false = λ other. refl

  delay_kept : (core task ticks : ℕ) (state : State Orders) → KeepsAll state.control (called ops core task (Delay ticks) state).1.control
  unfolding called yielded blocked
  delay_kept core task ticks state = at (eqb ticks 0)
    where
      at : (b : Bool) → KeepsAll state.control (cond b (outcome Done (yielded ops core state))
          (outcome Blocked (blocked ops core task (Made (blocking.Delay ticks)) (Some ticks) None state))).1.control
      at true = λ other. refl
      at false = λ other. refl

  -- mutexes
  inherited_others : (core holder priority : ℕ) (state : State Orders) → KeepsOthers (Some holder) state.control
      (inherited ops core holder priority state).control
  unfolding inherited
  inherited_others core holder priority state = at (ltb (task_at state.control holder).in_use priority) (ops.is_ready holder state.orders)
    where
      later : State Orders
      later = in_use_and_value_set ops holder priority state

      control : Control
      control = seek core holder (in_mask later.control holder) later.control

      at : (b d : Bool) → KeepsOthers (Some holder) state.control (cond b (cond d (record later { control = control }) later) state).control
      at true true =
          kept_then (Some holder) state.control later.control control (both_others holder priority state)
          (same_tasks later.control control (seek_more core holder (in_mask later.control holder) later.control).tasks)
      at true false = both_others holder priority state
      at false d = λ other away. refl

  waited_others : (core task mutex holder : ℕ) (ticks : Option ℕ) (state : State Orders) → KeepsOthers (Some holder) state.control
      (waited_at ops core task mutex holder ticks state).control
  unfolding waited_at blocked
  waited_others core task mutex holder ticks state = inherited_others core holder (task_at state.control task).in_use state

  take_others : (core task mutex ticks : ℕ) (state : State Orders) → KeepsOthers (holder_at state.holders mutex) state.control
      (mutex_take ops core task mutex ticks state).1.control
  unfolding mutex_take taken
  take_others core task mutex ticks state = at (holder_at state.holders mutex)
    where
      held : (holder : ℕ) (b : Bool) → KeepsOthers (Some holder) state.control
          (cond b (outcome (Flag false) state) (outcome Blocked (waited_at ops core task mutex holder (timeout_of ticks) state))).1.control
      held holder true = λ other away. refl
      held holder false = waited_others core task mutex holder (timeout_of ticks) state

      at : (holder : Option ℕ) → KeepsOthers holder state.control (take_from ops holder core task mutex ticks state).1.control
      at None = λ other away. refl
      at (Some holder) = held holder (eqb ticks 0)

  disinherit_others : (core task priority : ℕ) (state : State Orders) → KeepsOthers (Some task) state.control
      (after_disinherit ops core task priority state).control
  unfolding after_disinherit
  disinherit_others core task priority state = at (eqb (task_at state.control task).in_use priority)
    where
      later : State Orders
      later = in_use_and_value_set ops task priority state

      at : (b : Bool) → KeepsOthers (Some task) state.control (cond b state (record later { control = ask_its_core core task later.control })).control
      at true = λ other away. refl
      at false =
          kept_then (Some task) state.control later.control (ask_its_core core task later.control) (both_others task priority state)
          (same_tasks later.control (ask_its_core core task later.control) (its_core_more core task later.control).tasks)

  timed_out_others : (core task mutex : ℕ) (mark : Bool) (holder : ℕ) (state : State Orders) → KeepsOthers (Some holder) state.control
      (timed_out ops core task mutex mark holder state).control
  unfolding timed_out
  timed_out_others core task mutex mark holder state = at (mark && not (eqb holder task) && eqb (held_by state.holders holder) 1)
    where
      at : (b : Bool) → KeepsOthers (Some holder) state.control (cond b (after_disinherit ops core holder (owed ops holder mutex state) state) state).control
      at true = disinherit_others core holder (owed ops holder mutex state) state
      at false = λ other away. refl

  take_end_others : (core task mutex : ℕ) (mark : Bool) (state : State Orders) → KeepsOthers (holder_at state.holders mutex) state.control
      (take_finished ops core task mutex mark state).1.control
  unfolding take_finished taken
  take_end_others core task mutex mark state = at (holder_at state.holders mutex)
    where
      left : Option ℕ
      left = ops.deadline_left task state.orders

      over : State Orders
      over = after_return ops task state

      held : (holder : ℕ) (b : Bool) → KeepsOthers (Some holder) state.control
          (cond b (outcome (Flag false) (timed_out ops core task mutex mark holder over))
          (outcome Blocked (waited_at ops core task mutex holder left state))).1.control
      held holder true = timed_out_others core task mutex mark holder over
      held holder false = waited_others core task mutex holder left state

      at : (holder : Option ℕ) → KeepsOthers holder state.control (finish_from ops holder core task mutex mark state).1.control
      at None = λ other away. refl
      at (Some holder) = held holder (option_map_or (λ ticks. eqb ticks 0) left false)

  first_kept : (core list : ℕ) (state : State Orders) → KeepsAll state.control (first_woken ops core list state).control
  unfolding first_woken
  first_kept core list state = at (ops.first_waiter list state.orders)
    where
      at : (waiter : Option Waiter) → KeepsAll state.control (option_map_or (λ (waiter : Waiter). wake ops core waiter.task state) waiter state).control
      at None = λ other. refl
      at (Some waiter) = wake_kept core waiter.task state

  -- suspended tasks
  suspended_kept : (core other : ℕ) (state : State Orders) → KeepsAll state.control (suspended ops core other state).control
  unfolding suspended
  suspended_kept core other state = at (is_suspended ops other state)
    where
      gone : State Orders
      gone = record state {
        control = ask_its_core core other state.control;
        notes = without_waits state.settings.notes other state.notes;
        orders = ops.suspend other state.orders;
      }

      at : (b : Bool) → KeepsAll state.control (cond b state gone).control
      at true = λ task. refl
      at false = same_tasks state.control (ask_its_core core other state.control) (its_core_more core other state.control).tasks

  resumed_kept : (core other : ℕ) (state : State Orders) → KeepsAll state.control (resumed ops core other state).control
  unfolding resumed
  resumed_kept core other state = at (is_suspended ops other state)
    where
      at : (b : Bool) → KeepsAll state.control (cond b (wake ops core other state) state).control
      at true = wake_kept core other state
      at false = λ task. refl

  -- queues
  passed_kept : (core : ℕ) (direction : Direction) (queue : ℕ) (state : State Orders) → KeepsAll state.control
      (passed ops core direction queue state).control
  unfolding passed
  passed_kept core direction queue state = first_kept core (event_list state.settings (other_way direction) queue) (with_passed direction queue state)

  queue_waited_kept : (core task : ℕ) (direction : Direction) (queue : ℕ) (ticks : Option ℕ) (state : State Orders) → KeepsAll state.control
      (queue_waited ops core task direction queue ticks state).control
  unfolding queue_waited blocked
  queue_waited_kept core task direction queue ticks state other = refl

  queue_called_kept : (core task : ℕ) (direction : Direction) (queue ticks : ℕ) (state : State Orders) → KeepsAll state.control
      (queue_called ops core task direction queue ticks state).1.control
  unfolding queue_called
  queue_called_kept core task direction queue ticks state = at (can_pass direction (queue_at state.queues queue)) (eqb ticks 0)
    where
      at : (b d : Bool) → KeepsAll state.control (cond b (outcome (Flag true) (passed ops core direction queue state))
          (cond d (outcome (Flag false) state) (outcome Blocked (queue_waited ops core task direction queue (timeout_of ticks) state)))).1.control
      at true d = passed_kept core direction queue state
      at false true = λ other. refl
      at false false = queue_waited_kept core task direction queue (timeout_of ticks) state

  queue_finished_kept : (core task : ℕ) (direction : Direction) (queue : ℕ) (state : State Orders) → KeepsAll state.control
      (queue_finished ops core task direction queue state).1.control
  unfolding queue_finished
  queue_finished_kept core task direction queue state =
      at (can_pass direction (queue_at state.queues queue)) (option_map_or (λ ticks. eqb ticks 0) left false)
    where
      left : Option ℕ
      left = ops.deadline_left task state.orders

      over : State Orders
      over = after_return ops task state

      at : (b d : Bool) → KeepsAll state.control (cond b (outcome (Flag true) (passed ops core direction queue over))
          (cond d (outcome (Flag false) over) (outcome Blocked (queue_waited ops core task direction queue left state)))).1.control
      at true d = passed_kept core direction queue over
      at false true = λ other. refl
      at false false = queue_waited_kept core task direction queue left state

  queue_interrupted_kept : (core : ℕ) (direction : Direction) (queue : ℕ) (state : State Orders) → KeepsAll state.control
      (queue_interrupted ops core direction queue state).1.control
  unfolding queue_interrupted
  queue_interrupted_kept core direction queue state = at (can_pass direction (queue_at state.queues queue))
    where
      at : (b : Bool) → KeepsAll state.control (cond b (passed ops core direction queue state) state).control
      at true = passed_kept core direction queue state
      at false = λ other. refl

  end_others : (core task : ℕ) (call : Unfinished) (state : State Orders) → KeepsOthers (raised_by_end state.holders (Some call)) state.control
      (after_finish ops core task call state).1.control
  unfolding after_finish
  end_others core task (Made call) state = all_kept None state.control (completed task call (after_return ops task state)).1.control
      (completed_kept task call (after_return ops task state))
  end_others core task (Take mutex mark) state = take_end_others core task mutex mark state
  end_others core task (Transfer queue direction) state = all_kept None state.control (queue_finished ops core task direction queue state).1.control
      (queue_finished_kept core task direction queue state)

  finish_others : (core task : ℕ) (state : State Orders) → KeepsOthers (raised_by_end state.holders (call_at state.calls task)) state.control
      (called ops core task Finish state).1.control
  unfolding called
  finish_others core task state = at (call_at state.calls task)
    where
      at : (call : Option Unfinished) → KeepsOthers (raised_by_end state.holders call) state.control
          (option_map_or (λ call. after_finish ops core task call state) call (outcome Done state)).1.control
      at None = λ other away. refl
      at (Some call) = end_others core task call state

  disinherited_others : (core task : ℕ) (state : State Orders) → KeepsOthers (Some task) state.control (disinherited ops core task state).control
  unfolding disinherited
  disinherited_others core task state = at (eqb (held_by state.holders task) 0)
    where
      base : ℕ
      base = (task_at state.control task).base

      at : (b : Bool) → KeepsOthers (Some task) state.control (cond b (after_disinherit ops core task base state) state).control
      at true = disinherit_others core task base state
      at false = λ other away. refl

  give_others : (core task mutex : ℕ) (state : State Orders) → KeepsOthers (Some task) state.control (mutex_give ops core task mutex state).1.control
  unfolding mutex_give
  give_others core task mutex state = at (holder_at state.holders mutex)
    where
      free : State Orders
      free = record state { holders = slice_set state.holders mutex None }

      left : State Orders
      left = disinherited ops core task free

      at : (holder : Option ℕ) → KeepsOthers (Some task) state.control (give_from ops holder core task mutex state).1.control
      at None = λ other away. refl
      at (Some holder) = kept_then (Some task) state.control left.control (first_woken ops core mutex left).control (disinherited_others core task free)
          (first_kept core mutex left)

  -- whole steps
  called_others : (core task : ℕ) (call : Call) (state : State Orders) → KeepsOthers (raised_by_call state task call) state.control
      (called ops core task call state).1.control
  unfolding called yielded state_forgotten bits_cleared hold_opened hold_closed
  called_others core task Yield state = λ other away. refl
  called_others core task (Delay ticks) state = λ other away. delay_kept core task ticks state other
  called_others core task (DelayUntil prev inc) state = λ other away. until_kept core task prev inc state other
  called_others core task Finish state = finish_others core task state
  called_others core task (PrioritySet set priority) state = priority_others core set priority state
  called_others core task (AffinitySet set mask) state = λ other away. affinity_kept core set mask state other
  called_others core task (PreemptOff set) state = λ other away. off_kept set state other
  called_others core task (PreemptOn set) state = λ other away. on_kept core set state other
  called_others core task (Notify note) state = λ other away. notify_kept core note state other
  called_others core task (NotifyWait entry exit ticks index) state = λ other away. awaited_kept core task (blocking.NotifyWait entry exit ticks index) ticks
      (of_slot (slot_of state.settings task index) (wait_entered entry) state.notes) state other
  called_others core task (NotifyTake clear ticks index) state = λ other away. awaited_kept core task (blocking.NotifyTake clear ticks index) ticks
      (of_slot (slot_of state.settings task index) take_entered state.notes) state other
  called_others core task (StateClear set index) state = λ other away. refl
  called_others core task (ValueClear set bits index) state = λ other away. refl
  called_others core task (MutexTake mutex ticks) state = take_others core task mutex ticks state
  called_others core task (MutexGive mutex) state = give_others core task mutex state
  called_others core task (QueueSend queue ticks) state = λ other away. queue_called_kept core task Send queue ticks state other
  called_others core task (Suspend one) state = λ other away. suspended_kept core one state other
  called_others core task (Resume one) state = λ other away. resumed_kept core one state other
  called_others core task (QueueReceive queue ticks) state = λ other away. queue_called_kept core task Receive queue ticks state other
  called_others core task HoldOpen state = λ other away. refl
  called_others core task HoldClose state = λ other away. refl

  performed_others : (step : Step) (state : State Orders) → KeepsOthers (raised_by state step) state.control (performed ops step state).1.control
  unfolding performed interrupted resume_interrupted
  performed_others Tick state = λ other away. ticked_kept state other
  performed_others (Switch core) state = λ other away. switch_kept core state other
  performed_others (steps.Call core task call) state = called_others core task call state
  performed_others (Interrupt core note) state = λ other away. notify_kept core note state other
  performed_others (QueueInterrupt core queue direction) state = λ other away. queue_interrupted_kept core direction queue state other
  performed_others (ResumeInterrupt core task) state = λ other away. resumed_kept core task state other
  performed_others (Pass units) state = λ other away. refl

  pub step_others : (step : Step) (state : State Orders) → KeepsOthers (raised_by state step) state.control (after ops step state).1.control
  unfolding after
  step_others step state = at (refusal ops step state)
    where
      at : (why : Option Refusal) → KeepsOthers (raised_by state step) state.control
          (option_map_or (λ why. outcome (Refused why) state) why (performed ops step state)).1.control
      at None = performed_others step state
      at (Some why) = λ other away. refl
