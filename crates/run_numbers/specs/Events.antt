-- What a step is to a task, a mutex or a queue.
use Rattle.std.specs.Prelude.{ℕ, Bool, true, false, not, ◌&&◌, ◌==◌, nat_lt, bytes_eq, List, Option, Some, None, is_some}
use Rattle.std.specs.Option.{option_and_then, option_map_or}
use Rattle.bench_types.specs.Codes.{refusal_code}
use Rattle.bench_types.specs.declared.reply.Refusal.{Refusal}
use Rattle.bench_types.specs.declared.reply.Reply.{Reply}
use Rattle.bench_types.specs.declared.reply.Reply.TheVariants as reply
use Rattle.bench_types.specs.declared.step.Call.{Call}
use Rattle.bench_types.specs.declared.note.Note.{Note}
use Rattle.bench_types.specs.declared.note.NotifyAction.{NotifyAction}
use Rattle.bench_types.specs.declared.note.NotifyAction.TheVariants.{Set, SetNew}
use Rattle.bench_types.specs.declared.step.Call.TheVariants.{Delay, DelayUntil, Notify, NotifyWait, NotifyTake, MutexTake, QueueSend, QueueReceive, Finish}
use Rattle.bench_types.specs.declared.step.Direction.{Direction}
use Rattle.bench_types.specs.declared.step.Direction.TheVariants.{Send, Receive}
use Rattle.bench_types.specs.declared.step.Step.{Step}
use Rattle.bench_types.specs.declared.step.Unfinished.{Unfinished}
use Rattle.bench_types.specs.declared.step.Step.TheVariants as steps
use Rattle.bench_model.specs.Control.{Control, current, task_at}
use Rattle.bench_model.specs.Looks.{note_look}
use Rattle.bench_model.specs.Notes.{is_received}
use Rattle.bench_model.specs.SameTest.{are_same_directions}
use Rattle.bench_model.specs.State.{State, QueueOps, call_at}
use Rattle.bench_model.specs.Tally.{Moment, is_call_of, is_switched_in, is_timeout}
use Rattle.run_numbers.specs.declared.subject.Cause.{Cause}
use Rattle.run_numbers.specs.declared.subject.Cause.TheVariants as cause
use Rattle.run_numbers.specs.declared.subject.Event.{Event}
use Rattle.run_numbers.specs.declared.subject.Event.TheVariants.{SwitchedIn, Inherits, TimesOut, Refused, Late, Called, SwitchedOn, PutOff, Loses, Interrupted, NotTaken, Awaited, QueueAwaited}
use Rattle.run_numbers.specs.Conditions.{mutex_of}

-- a reply that refuses the step for this reason
abbrev pub is_refusal : Refusal → Reply → Bool
is_refusal why (reply.Refused given) = bytes_eq (refusal_code given) (refusal_code why)
is_refusal why reply = false

-- a reply to a call whose task waits
abbrev pub is_wait : Reply → Bool
is_wait reply.Blocked = true
is_wait reply = false

-- a reply to a call that delays until a time which is gone (FreeRTOS Reference Manual,
-- xTaskDelayUntil)
abbrev pub says_late : Reply → Bool
says_late (reply.Until delayed wake) = not delayed
says_late reply = false

-- a call that takes the mutex
abbrev pub is_take_of : ℕ → Step → Bool
is_take_of mutex (steps.Call core task (MutexTake taken ticks)) = taken == mutex
is_take_of mutex step = false

-- a call that sends to the queue or receives from it
abbrev pub is_transfer_of : ℕ → Step → Bool
is_transfer_of queue (steps.Call core task (QueueSend used ticks)) = used == queue
is_transfer_of queue (steps.Call core task (QueueReceive used ticks)) = used == queue
is_transfer_of queue step = false

-- a call that may wait until a time
abbrev pub is_delay : Call → Bool
is_delay (Delay ticks) = true
is_delay (DelayUntil prev inc) = true
is_delay call = false

-- a call that may wait for a notification
abbrev pub is_note_wait : Call → Bool
is_note_wait (NotifyWait entry exit ticks index) = true
is_note_wait (NotifyTake clear ticks index) = true
is_note_wait call = false

-- the mutex that the call takes
abbrev pub taken_by : Call → Option ℕ
taken_by (MutexTake mutex ticks) = Some mutex
taken_by call = None

-- the queue that the call is of, and the way of its message
abbrev pub moved_by : Call → Option (ℕ × Direction)
moved_by (QueueSend queue ticks) = Some (queue, Send)
moved_by (QueueReceive queue ticks) = Some (queue, Receive)
moved_by call = None

-- the call may wait for the cause
abbrev pub may_wait_for : Cause → Call → Bool
may_wait_for cause.Delay call = is_delay call
may_wait_for cause.Notification call = is_note_wait call
may_wait_for cause.AnyMutex call = is_some (taken_by call)
may_wait_for (cause.Mutex mutex) call =
    option_map_or (λ taken. taken == mutex) (taken_by call) false
may_wait_for cause.AnyQueue call = is_some (moved_by call)
may_wait_for (cause.Queue queue direction) call = option_map_or
    (λ moved. moved.0 == queue && are_same_directions moved.1 direction) (moved_by call) false

-- a call of the task that may wait for the cause
abbrev pub is_call_for : ℕ → Cause → Step → Bool
is_call_for task cause (steps.Call core caller call) = caller == task && may_wait_for cause call
is_call_for task cause step = false

abbrev pub is_refused : Reply → Bool
is_refused (reply.Refused why) = true
is_refused reply = false

-- an interrupt of the core; a tick is none
abbrev pub is_interrupt_of : ℕ → Step → Bool
is_interrupt_of core (steps.Interrupt on note) = on == core
is_interrupt_of core (steps.QueueInterrupt on queue direction) = on == core
is_interrupt_of core (steps.ResumeInterrupt on task) = on == core
is_interrupt_of core step = false

-- a switch of the core
abbrev pub is_switch_of : ℕ → Step → Bool
is_switch_of core (steps.Switch switched) = switched == core
is_switch_of core step = false

-- the core switches, and has another task than before
abbrev pub switches_on : {Orders : Type 0} → ℕ → Moment Orders → Bool
switches_on core moment =
    is_switch_of core moment.step
    && not (current moment.after.control core == current moment.before.control core)

-- the step takes the task from a core
abbrev pub leaves : ℕ → Control → Step → Control → Bool
leaves task before (steps.Switch core) after =
    current before core == task && not (current after core == task)
leaves task before step after = false

-- a switch takes the task from its core, and the task is ready
abbrev pub is_put_off : {Orders : Type 0} → QueueOps Orders → ℕ → Moment Orders → Bool
is_put_off ops task moment =
    leaves task moment.before.control moment.step moment.after.control
    && ops.is_ready task moment.before.orders

-- the notification that the step sends
abbrev pub note_of : Step → Option Note
note_of (steps.Call core caller (Notify note)) = Some note
note_of (steps.Interrupt core note) = Some note
note_of step = None

-- it is to put a value in the place of another
abbrev pub sets_value : NotifyAction → Bool
sets_value (Set value) = true
sets_value (SetNew value) = true
sets_value action = false

-- Its task has not taken the last one that came to its index. So one of two values is lost: the
-- new one does not pass, or it overwrites the other (eSetValueWithoutOverwrite,
-- eSetValueWithOverwrite).
abbrev pub is_unread : {Orders : Type 0} → Note → State Orders → Bool
is_unread note state =
    is_received (note_look state note.task note.index).state

-- a value that is sent to the task comes where another is unread
abbrev pub overruns : {Orders : Type 0} → ℕ → Note → State Orders → Bool
overruns task note state = (sets_value note.action && is_unread note state) && note.task == task

abbrev pub loses : {Orders : Type 0} → ℕ → Moment Orders → Bool
loses task moment =
    option_map_or (λ note. overruns task note moment.before) (note_of moment.step) false
    && not (is_refused moment.reply)

-- the mutex that a call is to take, or goes on to take
abbrev pub taken_in : List (Option Unfinished) → Step → Option ℕ
taken_in calls (steps.Call core task (MutexTake mutex ticks)) = Some mutex
taken_in calls (steps.Call core task Finish) = option_and_then mutex_of (call_at calls task)
taken_in calls step = None

abbrev pub says_false : Reply → Bool
says_false (reply.Flag flag) = not flag
says_false reply = false

-- a call that takes the mutex ends without it
abbrev pub is_not_taken : {Orders : Type 0} → ℕ → Moment Orders → Bool
is_not_taken mutex moment =
    option_map_or (λ taken. taken == mutex) (taken_in moment.before.calls moment.step) false
    && says_false moment.reply

-- the priority in use of the task rises above its base priority
abbrev pub inherits : ℕ → Control → Control → Bool
inherits task before after =
    nat_lt (task_at before task).in_use (task_at after task).in_use
    && nat_lt (task_at after task).base (task_at after task).in_use

-- the step is the event
abbrev pub happens : {Orders : Type 0} → QueueOps Orders → Event → Moment Orders → Bool
happens ops (SwitchedIn task) moment = is_switched_in task moment
happens ops (Inherits task) moment = inherits task moment.before.control moment.after.control
happens ops (TimesOut task) moment = is_timeout task moment
happens ops (Refused task why) moment =
    is_call_of task moment.step && is_refusal why moment.reply
happens ops (Late task) moment = is_call_of task moment.step && says_late moment.reply
happens ops (Called task cause) moment =
    is_call_for task cause moment.step && not (is_refused moment.reply)
happens ops (SwitchedOn core) moment = switches_on core moment
happens ops (PutOff task) moment = is_put_off ops task moment
happens ops (Loses task) moment = loses task moment
happens ops (Interrupted core) moment = is_interrupt_of core moment.step
happens ops (NotTaken mutex) moment = is_not_taken mutex moment
happens ops (Awaited mutex) moment = is_take_of mutex moment.step && is_wait moment.reply
happens ops (QueueAwaited queue) moment =
    is_transfer_of queue moment.step && is_wait moment.reply
