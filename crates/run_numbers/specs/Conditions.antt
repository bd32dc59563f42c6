-- What holds of a task, a core, a mutex or a queue in a state.
use Rattle.std.specs.Prelude.{ℕ, Bool, true, false, not, ◌&&◌, ◌==◌, nat_lt, Option, Some, None, is_some, option_map}
use Rattle.std.specs.Option.{option_and_then, option_map_or}
use Rattle.bench_types.specs.Cause.{cause_of}
use Rattle.bench_types.specs.declared.cause.Cause.{Cause as WaitCause}
use Rattle.bench_types.specs.declared.cause.Cause.TheVariants as wait
use Rattle.bench_types.specs.declared.kernel_data.Hold.{Hold}
use Rattle.bench_types.specs.declared.kernel_data.QueueLook.{QueueLook}
use Rattle.bench_types.specs.declared.step.Unfinished.{Unfinished}
use Rattle.bench_types.specs.declared.step.Unfinished.TheVariants.{Made, Take, Transfer}
use Rattle.bench_model.specs.Control.{Control, current, is_due, is_idle, task_at}
use Rattle.bench_model.specs.Queues.{queue_at}
use Rattle.bench_model.specs.SameTest.{are_same_directions}
use Rattle.bench_model.specs.State.{State, QueueOps, call_at, holder_at}
use Rattle.bench_model.specs.Suspending.{is_suspended}
use Rattle.bench_model.specs.Tally.{is_current, outranks_some, wants_core}
use Rattle.run_numbers.specs.declared.subject.Cause.{Cause}
use Rattle.run_numbers.specs.declared.subject.Cause.TheVariants as cause
use Rattle.run_numbers.specs.declared.subject.Condition.{Condition}
use Rattle.run_numbers.specs.declared.subject.Condition.TheVariants.{Running, RunningOn, WantsCore, Inverted, Blocked, HeldUp, Suspended, InCall, Raised, PreemptionOff, Busy, Idle, Due, Holding, Held, Empty, Full}

-- a task whose unfinished call waits for this is blocked for the cause
abbrev pub is_cause : Cause → WaitCause → Bool
is_cause cause.Delay wait.Delay = true
is_cause cause.Notification wait.Notification = true
is_cause cause.AnyMutex (wait.Mutex mutex) = true
is_cause (cause.Mutex wanted) (wait.Mutex mutex) = mutex == wanted
is_cause cause.AnyQueue (wait.Queue queue direction) = true
is_cause (cause.Queue wanted way) (wait.Queue queue direction) =
    queue == wanted && are_same_directions direction way
is_cause cause waits = false

-- the mutex that the unfinished call takes
abbrev pub mutex_of : Unfinished → Option ℕ
mutex_of (Take mutex mark) = Some mutex
mutex_of (Transfer queue direction) = None
mutex_of (Made call) = None

-- the task has a lower base priority than the other, and is on no core
abbrev pub holds_up : Control → ℕ → ℕ → Bool
holds_up control task holder =
    nat_lt (task_at control holder).base (task_at control task).base
    && not (is_current control holder)

-- the priority in use of the task is above its base priority
abbrev pub is_raised : Control → ℕ → Bool
is_raised control task = nat_lt (task_at control task).base (task_at control task).in_use

-- the core holds the kernel
abbrev pub is_holding : Option Hold → ℕ → Bool
is_holding hold core = option_map_or (λ hold. hold.core == core) hold false

-- the queue has no message
abbrev pub is_empty : QueueLook → Bool
is_empty queue = queue.messages == 0

-- it has as many as it can have
abbrev pub is_full : QueueLook → Bool
is_full queue = queue.messages == queue.length

-- the task has made a call that waits for the cause, and the call has not returned
abbrev pub is_in_call : {Orders : Type 0} → ℕ → Cause → State Orders → Bool
is_in_call task cause state =
    option_map_or (is_cause cause) (option_map cause_of (call_at state.calls task)) false

module _ {Orders : Type 0} (ops : QueueOps Orders) where
  -- the task waits: it is neither ready nor suspended
  abbrev pub stands_blocked : ℕ → State Orders → Bool
  stands_blocked task state =
      not (ops.is_ready task state.orders) && not (is_suspended ops task state)

  -- the task is blocked for the cause
  abbrev pub is_blocked : ℕ → Cause → State Orders → Bool
  is_blocked task cause state = stands_blocked task state && is_in_call task cause state

  -- the task that holds the mutex for which the task is blocked
  abbrev pub holder_before : ℕ → State Orders → Option ℕ
  holder_before task state =
      option_and_then (holder_at state.holders)
      (option_and_then mutex_of (call_at state.calls task))

  -- the task is blocked on a mutex whose holder has a lower base priority and is on no core
  abbrev pub is_held_up : ℕ → State Orders → Bool
  is_held_up task state =
      stands_blocked task state
      && option_map_or (holds_up state.control task) (holder_before task state) false

  -- the condition holds in the state
  abbrev pub holds : Condition → State Orders → Bool
  holds (Running task) state = is_current state.control task
  holds (RunningOn task core) state = current state.control core == task
  holds (WantsCore task) state = wants_core ops task state
  holds (Inverted task) state = wants_core ops task state && outranks_some state.control task
  holds (Blocked task cause) state = is_blocked task cause state
  holds (HeldUp task) state = is_held_up task state
  holds (Suspended task) state = is_suspended ops task state
  holds (InCall task cause) state = is_in_call task cause state
  holds (Raised task) state = is_raised state.control task
  holds (PreemptionOff task) state = not (task_at state.control task).preempt
  holds (Busy core) state = not (is_idle state.control (current state.control core))
  holds (Idle core) state = is_idle state.control (current state.control core)
  holds (Due core) state = is_due state.control core
  holds (Holding core) state = is_holding state.hold core
  holds (Held mutex) state = is_some (holder_at state.holders mutex)
  holds (Empty queue) state = is_empty (queue_at state.queues queue)
  holds (Full queue) state = is_full (queue_at state.queues queue)
