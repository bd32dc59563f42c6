-- What a run of a session is measured by.
use Rattle.std.specs.Prelude.{ℕ, ◌+◌, ◌==◌, Bool, List, [], ◌∷◌, ◌++◌, length, map, flat_map, if◌then◌else◌, is_some}
use Rattle.list_orders.specs.Search.{numbers}
use Rattle.bench_types.specs.declared.header.Config.{Config}
use Rattle.bench_types.specs.declared.header.Header.{Header}
use Rattle.bench_types.specs.declared.reply.Refusal.{Refusal}
use Rattle.bench_types.specs.declared.reply.Refusal.TheVariants as refusal
use Rattle.bench_types.specs.declared.step.Direction.TheVariants.{Send, Receive}
use Rattle.bench_types.specs.Step.{queue_total, settings_of}
use Rattle.run_numbers.specs.declared.subject.Cause.{Cause}
use Rattle.run_numbers.specs.declared.subject.Cause.TheVariants.{Delay, Notification, AnyMutex, Mutex, AnyQueue, Queue}
use Rattle.run_numbers.specs.declared.subject.Condition.TheVariants as condition
use Rattle.run_numbers.specs.declared.subject.Event.TheVariants as event
use Rattle.run_numbers.specs.declared.subject.Subject.{Subject}
use Rattle.run_numbers.specs.declared.subject.Subject.TheVariants.{Time, Steps, TopPriority, MostMessages, NotMade, Job, Migrations, RanOut, Unfinished, MutexWait, Run}
use Rattle.run_numbers.specs.declared.subject.JobNumber.TheVariants as job
use Rattle.run_numbers.specs.declared.subject.Whole.TheVariants as whole

-- the task is on a core, whichever, and on each
abbrev pub on_core : ℕ → ℕ → List Subject
on_core cores task =
    Time (condition.Running task)
    ∷ map (λ core. Time (condition.RunningOn task core)) (numbers cores)

-- the task is on no core; what it waits for, mutex by mutex and queue by queue, comes after
abbrev pub off_core : ℕ → List Subject
off_core task =
    Time (condition.WantsCore task) ∷ Time (condition.Inverted task)
    ∷ Time (condition.Blocked task Delay) ∷ Time (condition.Blocked task Notification)
    ∷ Time (condition.Blocked task AnyMutex) ∷ Time (condition.HeldUp task) ∷ []

-- the task waits for each of the mutexes
abbrev pub blocked_on : ℕ → ℕ → List Subject
blocked_on mutexes task =
    map (λ mutex. Time (condition.Blocked task (Mutex mutex))) (numbers mutexes)

-- the task waits at the queue for one way of a message, and for the other
abbrev pub blocked_ways : ℕ → ℕ → List Subject
blocked_ways task queue =
    Time (condition.Blocked task (Queue queue Send))
    ∷ Time (condition.Blocked task (Queue queue Receive)) ∷ []

-- the task waits at a queue, whichever, and at each; without queues nothing is measured of that
abbrev pub blocked_at : ℕ → ℕ → List Subject
blocked_at queues task = if queues == 0 then []
    else Time (condition.Blocked task AnyQueue)
    ∷ flat_map (blocked_ways task) (numbers queues)

-- the task is suspended, where tasks can be
abbrev pub suspended_in : Bool → ℕ → List Subject
suspended_in suspends task = if suspends then Time (condition.Suspended task) ∷ [] else []

-- the task waits for each of the mutexes, and at queues, or is suspended
unfoldable pub waits_of : ℕ → ℕ → Bool → ℕ → List Subject
waits_of mutexes queues suspends task =
    blocked_on mutexes task ++ blocked_at queues task ++ suspended_in suspends task

-- what steps are to the task, its greatest priority, and whether a call of it is open at the end
abbrev pub steps_of : ℕ → List Subject
steps_of task =
    Steps (event.SwitchedIn task) ∷ Steps (event.PutOff task) ∷ Migrations task
    ∷ Steps (event.Inherits task) ∷ TopPriority task ∷ Steps (event.TimesOut task) ∷ RanOut task
    ∷ Steps (event.Late task) ∷ Steps (event.Loses task) ∷ Unfinished task ∷ []

-- the task inherits its priority, and its preemption is off
abbrev pub state_of : ℕ → List Subject
state_of task = Time (condition.Raised task) ∷ Time (condition.PreemptionOff task) ∷ []

-- the calls of the task that may wait for the cause, and the time in those that do
abbrev pub calls_for : ℕ → Cause → List Subject
calls_for task cause = Steps (event.Called task cause) ∷ Time (condition.InCall task cause) ∷ []

-- those that take each of the mutexes
abbrev pub takes_of : ℕ → ℕ → List Subject
takes_of mutexes task = flat_map (λ mutex. calls_for task (Mutex mutex)) (numbers mutexes)

-- those that send to the queue, and that receive from it
abbrev pub transfers_at : ℕ → ℕ → List Subject
transfers_at task queue =
    calls_for task (Queue queue Send) ++ calls_for task (Queue queue Receive)

-- those of each of the queues
abbrev pub transfers_of : ℕ → ℕ → List Subject
transfers_of queues task = flat_map (transfers_at task) (numbers queues)

-- the calls of the task by what they may wait for
unfoldable pub calls_by : ℕ → ℕ → ℕ → List Subject
calls_by mutexes queues task =
    calls_for task Delay ++ calls_for task Notification ++ takes_of mutexes task
    ++ transfers_of queues task

-- why a call is refused; the tenth reason is that of a switch
abbrev pub refusals : List Refusal
refusals =
    refusal.Held ∷ refusal.Displaced ∷ refusal.SwitchDue ∷ refusal.InCall ∷ refusal.NotInCall
    ∷ refusal.HoldBlock ∷ refusal.NoHold ∷ refusal.HoldDeep ∷ refusal.NotHolder ∷ []

-- the calls of the task that are refused, by the reason
abbrev pub refusals_of : ℕ → List Subject
refusals_of task = map (λ why. Steps (event.Refused task why)) refusals

-- what the jobs of the task have numbers of, and its calls that are not made
abbrev pub jobs_of : ℕ → List Subject
jobs_of task =
    Job task job.Count ∷ Job task job.Response ∷ Job task job.ShortestResponse
    ∷ Job task job.Latency ∷ Job task job.Period ∷ Job task job.ShortestPeriod
    ∷ NotMade task ∷ []

-- all that is measured of a task
unfoldable pub task_subjects : Config → ℕ → Bool → ℕ → List Subject
task_subjects config queues suspends task =
    on_core config.cores task ++ off_core task ++ waits_of config.mutexes queues suspends task
    ++ steps_of task ++ refusals_of task ++ state_of task ++ calls_by config.mutexes queues task
    ++ jobs_of task

-- of so many user tasks, whose numbers follow those of the idle tasks
abbrev pub user_subjects : Config → ℕ → Bool → ℕ → List Subject
user_subjects config queues suspends count =
    flat_map (λ user. task_subjects config queues suspends (config.cores + user)) (numbers count)

-- all that is measured of a core
abbrev pub core_subjects : ℕ → List Subject
core_subjects core =
    Time (condition.Busy core) ∷ Time (condition.Idle core) ∷ Time (condition.Due core)
    ∷ Time (condition.Holding core) ∷ Steps (event.SwitchedOn core)
    ∷ Steps (event.Interrupted core) ∷ []

-- all that is measured of a mutex
abbrev pub mutex_subjects : ℕ → List Subject
mutex_subjects mutex =
    Time (condition.Held mutex) ∷ MutexWait mutex ∷ Steps (event.Awaited mutex)
    ∷ Steps (event.NotTaken mutex) ∷ []

-- all that is measured of a queue
abbrev pub queue_subjects : ℕ → List Subject
queue_subjects queue =
    MostMessages queue ∷ Time (condition.Empty queue) ∷ Time (condition.Full queue)
    ∷ Steps (event.QueueAwaited queue) ∷ []

-- how many queues a session has
abbrev pub queues_of : Header → ℕ
queues_of header = queue_total (settings_of header)

-- Tasks can be suspended in a session of format 3, which says its queues.
abbrev pub can_suspend : Header → Bool
can_suspend header = is_some header.queues

-- all that is measured of the run as a whole
abbrev pub run_subjects : List Subject
run_subjects = Run whole.Time ∷ Run whole.Steps ∷ Run whole.NotMade ∷ []

-- task by task, core by core, mutex by mutex, queue by queue, and of the run
abbrev pub subjects_of : Header → List Subject
subjects_of header =
    user_subjects header.config (queues_of header) (can_suspend header) (length header.tasks)
    ++ flat_map core_subjects (numbers header.config.cores)
    ++ flat_map mutex_subjects (numbers header.config.mutexes)
    ++ flat_map queue_subjects (numbers (queues_of header)) ++ run_subjects
