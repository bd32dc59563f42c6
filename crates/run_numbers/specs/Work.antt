-- What a task's waits for work are, and what a step is to them.
use Rattle.std.specs.Prelude.{ℕ, ◌-◌, ◌<◌, Bool, true, false, not, ◌&&◌, ◌||◌, ◌==◌, nat_lt, suc, List, length, find, Option, Some, None, option_map, slice_index_or, if◌then◌else◌}
use Rattle.std.specs.Option.{option_and_then, option_map_or}
use Rattle.list_orders.specs.Search.{numbers}
use Rattle.bench_types.specs.Cause.{cause_of}
use Rattle.bench_types.specs.declared.cause.Cause.{Cause}
use Rattle.bench_types.specs.declared.cause.Cause.TheVariants as wait
use Rattle.bench_types.specs.declared.reply.Reply.{Reply}
use Rattle.bench_types.specs.declared.step.BlockingCall.TheVariants as blocking
use Rattle.bench_types.specs.declared.step.Call.{Call}
use Rattle.bench_types.specs.declared.step.Call.TheVariants as calls
use Rattle.bench_types.specs.declared.step.Direction.TheVariants.{Receive}
use Rattle.bench_types.specs.declared.step.Step.{Step}
use Rattle.bench_types.specs.declared.step.Step.TheVariants as steps
use Rattle.bench_types.specs.declared.step.Unfinished.{Unfinished}
use Rattle.bench_types.specs.declared.step.Unfinished.TheVariants.{Made}
use Rattle.bench_model.specs.Control.{current}
use Rattle.bench_model.specs.State.{State, QueueOps, call_at}
use Rattle.bench_model.specs.Suspending.{is_suspended}
use Rattle.bench_model.specs.Tally.{is_finish_of}
use Rattle.bench_model.specs.Until.{is_ahead, next_wake, ticks_to}
use Rattle.run_numbers.specs.declared.work.Until.{Until}
use Rattle.run_numbers.specs.Conditions.{stands_blocked}
use Rattle.run_numbers.specs.Events.{is_refused, is_wait}

-- a call that waits for this waits for work: until a time, for a notification or for a message
abbrev pub is_for_work : Cause → Bool
is_for_work wait.Delay = true
is_for_work wait.Notification = true
is_for_work (wait.Queue queue Receive) = true
is_for_work cause = false

-- a call that asks for work, and may wait for it
abbrev pub asks_for_work : Call → Bool
asks_for_work (calls.Delay ticks) = true
asks_for_work (calls.DelayUntil prev inc) = true
asks_for_work (calls.NotifyWait entry exit ticks index) = true
asks_for_work (calls.NotifyTake clear ticks index) = true
asks_for_work (calls.QueueReceive queue ticks) = true
asks_for_work call = false

-- the step is such a call of the task
abbrev pub is_request_of : ℕ → Step → Bool
is_request_of task (steps.Call core caller call) = caller == task && asks_for_work call
is_request_of task step = false

-- the task asks for work by the step, which is not refused
abbrev pub asks : ℕ → Step → Reply → Bool
asks task step reply = is_request_of task step && not (is_refused reply)

-- the task had been woken, and waits on
abbrev pub retakes : ℕ → Step → Reply → Bool
retakes task step reply = is_finish_of task step && is_wait reply

-- the task waits for work: it is suspended, or it is blocked in a call that waits for work
abbrev pub rests : {Orders : Type 0} → QueueOps Orders → ℕ → State Orders → Bool
rests ops task state =
    is_suspended ops task state
    || (stands_blocked ops task state
    && option_map_or is_for_work (option_map cause_of (call_at state.calls task)) false)

-- ---- where it is, and what it waits for

-- the core that has the task, if one has it
abbrev pub core_of : {Orders : Type 0} → ℕ → State Orders → Option ℕ
core_of task state =
    find (λ core. current state.control core == task) (numbers state.settings.cores)

-- the mutex that a call takes which waits for this
abbrev pub mutex_in : Cause → Option ℕ
mutex_in (wait.Mutex mutex) = Some mutex
mutex_in cause = None

-- the mutex that the call of the task takes that has not returned
abbrev pub takes : {Orders : Type 0} → ℕ → State Orders → Option ℕ
takes task state = option_and_then mutex_in (option_map cause_of (call_at state.calls task))

-- ---- when a job was asked for

-- the call of xTaskDelayUntil
abbrev pub until_of : Option Unfinished → Option Until
until_of (Some (Made (blocking.DelayUntil prev inc))) = Some (record { prev = prev; inc = inc })
until_of call = None

abbrev pub until_in : Call → Option Until
until_in (calls.DelayUntil prev inc) = Some (record { prev = prev; inc = inc })
until_in call = None

-- the call that the task makes by the step, or else that in which it is
abbrev pub until_by : ℕ → Step → Option Unfinished → Option Until
until_by task (steps.Call core caller call) unfinished =
    if caller == task then until_in call else until_of unfinished
until_by task step unfinished = until_of unfinished

-- the time after the tick that was so many ticks ago, where the times after all ticks are these;
-- the start of the run, where there was none
abbrev pub time_ago : List ℕ → ℕ → ℕ
time_ago ticks ago =
    if nat_lt ago (length ticks) then slice_index_or ticks (length ticks - suc ago) 0 else 0

-- the time of the wake that was asked for, at this tick count; now, where it lies ahead
abbrev pub wake_time : Until → ℕ → List ℕ → ℕ → ℕ
wake_time until count ticks now =
    if is_ahead count until.prev (next_wake until.prev until.inc) then now
    else time_ago ticks (ticks_to (next_wake until.prev until.inc) count)

-- when a job that the step begins was asked for
abbrev pub released : {Orders : Type 0} → QueueOps Orders → ℕ → Step → State Orders → List ℕ → ℕ → ℕ
released ops task step after ticks now =
    option_map_or (λ until. wake_time until (ops.tick_count after.orders) ticks now)
    (until_by task step (call_at after.calls task)) now
