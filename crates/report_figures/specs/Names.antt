-- The names of figures.
use Rattle.std.specs.Prelude.{ℕ, ◌==◌, ◌&&◌, ◌||◌, not, Bool, true, false, List, [], ◌++◌, bytes_eq, codes, decimal, nat_eq, if◌then◌else◌}
use Rattle.std.specs.List.{starts_with}
use Rattle.bench_types.specs.Codes.{refusal_code}
use Rattle.bench_types.specs.declared.header.Header.{Header}
use Rattle.bench_types.specs.declared.step.Direction.{Direction}
use Rattle.bench_types.specs.declared.step.Direction.TheVariants.{Send, Receive}
use Rattle.bench_types.specs.Header.{name_of}
use Rattle.run_numbers.specs.declared.subject.Cause.{Cause}
use Rattle.run_numbers.specs.declared.subject.Cause.TheVariants.{Delay, Notification, AnyMutex, Mutex, AnyQueue, Queue}
use Rattle.run_numbers.specs.declared.subject.Condition.{Condition}
use Rattle.run_numbers.specs.declared.subject.Condition.TheVariants.{Running, RunningOn, WantsCore, Inverted, Blocked, HeldUp, Suspended, InCall, Raised, PreemptionOff, Busy, Idle, Due, Holding, Held, Empty, Full}
use Rattle.run_numbers.specs.declared.subject.Event.{Event}
use Rattle.run_numbers.specs.declared.subject.Event.TheVariants.{SwitchedIn, Inherits, TimesOut, Refused, Late, Called, SwitchedOn, PutOff, Loses, Interrupted, NotTaken, Awaited, QueueAwaited}
use Rattle.run_numbers.specs.declared.subject.Subject.{Subject}
use Rattle.run_numbers.specs.declared.subject.Subject.TheVariants.{Time, Steps, TopPriority, MostMessages, NotMade, Job, Migrations, RanOut, Unfinished, MutexWait, Run}
use Rattle.run_numbers.specs.declared.subject.JobNumber.{JobNumber}
use Rattle.run_numbers.specs.declared.subject.JobNumber.TheVariants as job
use Rattle.run_numbers.specs.declared.subject.Whole.{Whole}
use Rattle.run_numbers.specs.declared.subject.Whole.TheVariants as whole
use Rattle.report_figures.specs.declared.figures.Part.{Part}
use Rattle.report_figures.specs.declared.figures.Part.TheVariants.{Total, Longest}

-- the name of a task that begins as names of other numbers do
abbrev pub is_reserved : List ℕ → Bool
is_reserved name =
    bytes_eq name (codes "run") || starts_with nat_eq name (codes "core.")
    || starts_with nat_eq name (codes "mutex.") || starts_with nat_eq name (codes "queue.")
    || starts_with nat_eq name (codes "task.")

-- what the names of the numbers of a task begin with, whose name this is
abbrev pub told_text : List ℕ → List ℕ
told_text name = if is_reserved name then codes "task." ++ name else name

-- the same of the task of this number
unfoldable pub told_name : Header → ℕ → List ℕ
told_name header task = told_text (name_of header task)

-- which way a message goes
abbrev pub direction_name : Direction → List ℕ
direction_name Send = codes "send"
direction_name Receive = codes "receive"

-- why a task is blocked
abbrev pub cause_name : Cause → List ℕ
cause_name Delay = codes "delay"
cause_name Notification = codes "notification"
cause_name AnyMutex = codes "mutex"
cause_name (Mutex mutex) = codes "mutex." ++ decimal mutex
cause_name AnyQueue = codes "queue"
cause_name (Queue queue direction) =
    codes "queue." ++ decimal queue ++ codes "." ++ direction_name direction

-- a task, core, mutex or queue, and what holds of it
unfoldable pub condition_name : Header → Condition → List ℕ
condition_name header (Running task) = told_name header task ++ codes ".run"
condition_name header (RunningOn task core) =
    told_name header task ++ codes ".run." ++ decimal core
condition_name header (WantsCore task) = told_name header task ++ codes ".ready"
condition_name header (Inverted task) = told_name header task ++ codes ".ready.inverted"
condition_name header (Blocked task cause) =
    told_name header task ++ codes ".blocked." ++ cause_name cause
condition_name header (HeldUp task) = told_name header task ++ codes ".blocked.mutex.held_up"
condition_name header (Suspended task) = told_name header task ++ codes ".suspended"
condition_name header (InCall task cause) =
    told_name header task ++ codes ".calls." ++ cause_name cause
condition_name header (Raised task) = told_name header task ++ codes ".inherited"
condition_name header (PreemptionOff task) = told_name header task ++ codes ".preemption_off"
condition_name header (Busy core) = codes "core." ++ decimal core ++ codes ".user"
condition_name header (Idle core) = codes "core." ++ decimal core ++ codes ".idle"
condition_name header (Due core) = codes "core." ++ decimal core ++ codes ".due"
condition_name header (Holding core) = codes "core." ++ decimal core ++ codes ".held"
condition_name header (Held mutex) = codes "mutex." ++ decimal mutex ++ codes ".held"
condition_name header (Empty queue) = codes "queue." ++ decimal queue ++ codes ".empty"
condition_name header (Full queue) = codes "queue." ++ decimal queue ++ codes ".full"

-- a task, mutex or queue, and what a step is to it
unfoldable pub event_name : Header → Event → List ℕ
event_name header (SwitchedIn task) = told_name header task ++ codes ".switches"
event_name header (Inherits task) = told_name header task ++ codes ".inheritances"
event_name header (TimesOut task) = told_name header task ++ codes ".timeouts"
event_name header (Refused task why) =
    told_name header task ++ codes ".refused." ++ refusal_code why
event_name header (Late task) = told_name header task ++ codes ".late"
event_name header (Called task cause) =
    told_name header task ++ codes ".calls." ++ cause_name cause
event_name header (SwitchedOn core) = codes "core." ++ decimal core ++ codes ".switches"
event_name header (PutOff task) = told_name header task ++ codes ".preempted"
event_name header (Loses task) = told_name header task ++ codes ".notifications.lost"
event_name header (Interrupted core) = codes "core." ++ decimal core ++ codes ".interrupts"
event_name header (NotTaken mutex) = codes "mutex." ++ decimal mutex ++ codes ".refused"
event_name header (Awaited mutex) = codes "mutex." ++ decimal mutex ++ codes ".waits"
event_name header (QueueAwaited queue) = codes "queue." ++ decimal queue ++ codes ".waits"

abbrev pub job_name : JobNumber → List ℕ
job_name job.Count = codes ".jobs"
job_name job.Response = codes ".response"
job_name job.ShortestResponse = codes ".response.shortest"
job_name job.Latency = codes ".latency"
job_name job.Period = codes ".period"
job_name job.ShortestPeriod = codes ".period.shortest"

abbrev pub whole_name : Whole → List ℕ
whole_name whole.Time = codes "run.time"
whole_name whole.Steps = codes "run.steps"
whole_name whole.NotMade = codes "run.not_made"

-- the name of a subject
unfoldable pub subject_name : Header → Subject → List ℕ
subject_name header (Time condition) = condition_name header condition
subject_name header (Steps event) = event_name header event
subject_name header (TopPriority task) = told_name header task ++ codes ".top_priority"
subject_name header (MostMessages queue) =
    codes "queue." ++ decimal queue ++ codes ".messages"
subject_name header (NotMade task) = told_name header task ++ codes ".not_made"
subject_name header (Job task number) = told_name header task ++ job_name number
subject_name header (Migrations task) = told_name header task ++ codes ".migrations"
subject_name header (RanOut task) = told_name header task ++ codes ".ran_out"
subject_name header (Unfinished task) = told_name header task ++ codes ".unfinished"
subject_name header (MutexWait mutex) = codes "mutex." ++ decimal mutex ++ codes ".wait"
subject_name header (Run number) = whole_name number

-- what a total and a longest stretch add to the name of their subject; the time in calls has the
-- name of their number before it, and that of all answers has a word of its own
abbrev pub part_name : Subject → Part → List ℕ
part_name (Time (InCall task cause)) Total = codes ".total"
part_name (Job task job.Response) Total = codes ".total"
part_name subject Total = []
part_name subject Longest = codes ".longest"

-- a number of time
abbrev pub is_time : Subject → Bool
is_time (Time condition) = true
is_time (Job task job.Count) = false
is_time (Job task number) = true
is_time (MutexWait mutex) = true
is_time (Run whole.Time) = true
is_time subject = false

-- the unit of a number of time, where a tick has more than one
abbrev pub unit_text : Header → Subject → List ℕ
unit_text header subject =
    if is_time subject && not (header.config.units == 1) then codes " units" else []

-- how many units a tick has, where it has more than one
abbrev pub units_line : Header → List ℕ
units_line header = if header.config.units == 1 then []
    else codes "time in units, " ++ decimal header.config.units ++ codes " a tick\n"

-- the name of a figure
abbrev pub figure_name : Header → Subject → Part → List ℕ
figure_name header subject part = subject_name header subject ++ part_name subject part
