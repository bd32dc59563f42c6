-- The words by which each figure is named, and the figure that is named by some words.
use Rattle.std.proofs.Common.{ℕ, zero, Bool, true, false, ◌&&◌, List, [], ◌∷◌, ◌++◌, map, flat_map, find, bytes_eq, codes, Option}
use Rattle.std.specs.Prelude.{if◌then◌else◌}
use Rattle.bench_types.specs.Codes.{refusal_code}
use Rattle.bench_types.specs.declared.reply.Refusal.TheVariants.{NotDue}
use Rattle.run_numbers.specs.declared.subject.Cause.{Cause}
use Rattle.run_numbers.specs.declared.subject.Cause.TheVariants.{Delay, Notification, AnyMutex, Mutex, AnyQueue, Queue}
use Rattle.run_numbers.specs.declared.subject.Condition.{Condition}
use Rattle.run_numbers.specs.declared.subject.Condition.TheVariants.{Running, RunningOn, WantsCore, Inverted, Blocked, HeldUp, Suspended, InCall, Raised, PreemptionOff, Busy, Idle, Due, Holding, Held, Empty, Full}
use Rattle.run_numbers.specs.declared.subject.Event.{Event}
use Rattle.run_numbers.specs.declared.subject.Event.TheVariants.{SwitchedIn, Inherits, TimesOut, Refused, Late, Called, SwitchedOn, PutOff, Loses, Interrupted, NotTaken, Awaited, QueueAwaited}
use Rattle.run_numbers.specs.declared.subject.Subject.{Subject}
use Rattle.run_numbers.specs.declared.subject.Subject.TheVariants.{Time, Steps, TopPriority, MostMessages, NotMade, Job, Migrations, RanOut, Unfinished, MutexWait, Run}
use Rattle.run_numbers.specs.declared.subject.JobNumber.{JobNumber}
use Rattle.run_numbers.specs.declared.subject.JobNumber.TheVariants as job
use Rattle.run_numbers.specs.declared.subject.Whole.{Whole}
use Rattle.run_numbers.specs.declared.subject.Whole.TheVariants as whole
use Rattle.report_figures.specs.declared.figures.Part.{Part}
use Rattle.report_figures.specs.declared.figures.Part.TheVariants.{Total, Longest}
use Rattle.report_figures.specs.Figures.{has_longest, has_total}
use Rattle.report_figures.specs.Names.{direction_name}
use Rattle.report_figures.specs.Subjects.{blocked_ways, calls_for, core_subjects, jobs_of, mutex_subjects, off_core, queue_subjects, refusals_of, run_subjects, state_of, steps_of, transfers_at}
use Rattle.report_figures.proofs.Words.{Token, Text, Number}

abbrev cause_tokens : Cause → List Token
cause_tokens Delay = Text (codes "delay") ∷ []
cause_tokens Notification = Text (codes "notification") ∷ []
cause_tokens AnyMutex = Text (codes "mutex") ∷ []
cause_tokens (Mutex mutex) = Text (codes "mutex") ∷ Number mutex ∷ []
cause_tokens AnyQueue = Text (codes "queue") ∷ []
cause_tokens (Queue queue way) = Text (codes "queue") ∷ Number queue ∷ Text (direction_name way) ∷ []

-- of a task without its name
abbrev condition_tokens : Condition → List Token
condition_tokens (Running task) = Text (codes "run") ∷ []
condition_tokens (RunningOn task core) = Text (codes "run") ∷ Number core ∷ []
condition_tokens (WantsCore task) = Text (codes "ready") ∷ []
condition_tokens (Inverted task) = Text (codes "ready") ∷ Text (codes "inverted") ∷ []
condition_tokens (Blocked task cause) = Text (codes "blocked") ∷ cause_tokens cause
condition_tokens (HeldUp task) = Text (codes "blocked") ∷ Text (codes "mutex") ∷ Text (codes "held_up") ∷ []
condition_tokens (Suspended task) = Text (codes "suspended") ∷ []
condition_tokens (InCall task cause) = Text (codes "calls") ∷ cause_tokens cause
condition_tokens (Raised task) = Text (codes "inherited") ∷ []
condition_tokens (PreemptionOff task) = Text (codes "preemption_off") ∷ []
condition_tokens (Busy core) = Text (codes "core") ∷ Number core ∷ Text (codes "user") ∷ []
condition_tokens (Idle core) = Text (codes "core") ∷ Number core ∷ Text (codes "idle") ∷ []
condition_tokens (Due core) = Text (codes "core") ∷ Number core ∷ Text (codes "due") ∷ []
condition_tokens (Holding core) = Text (codes "core") ∷ Number core ∷ Text (codes "held") ∷ []
condition_tokens (Held mutex) = Text (codes "mutex") ∷ Number mutex ∷ Text (codes "held") ∷ []
condition_tokens (Empty queue) = Text (codes "queue") ∷ Number queue ∷ Text (codes "empty") ∷ []
condition_tokens (Full queue) = Text (codes "queue") ∷ Number queue ∷ Text (codes "full") ∷ []

abbrev event_tokens : Event → List Token
event_tokens (SwitchedIn task) = Text (codes "switches") ∷ []
event_tokens (Inherits task) = Text (codes "inheritances") ∷ []
event_tokens (TimesOut task) = Text (codes "timeouts") ∷ []
event_tokens (Refused task why) = Text (codes "refused") ∷ Text (refusal_code why) ∷ []
event_tokens (Late task) = Text (codes "late") ∷ []
event_tokens (Called task cause) = Text (codes "calls") ∷ cause_tokens cause
event_tokens (SwitchedOn core) = Text (codes "core") ∷ Number core ∷ Text (codes "switches") ∷ []
event_tokens (PutOff task) = Text (codes "preempted") ∷ []
event_tokens (Loses task) = Text (codes "notifications") ∷ Text (codes "lost") ∷ []
event_tokens (Interrupted core) = Text (codes "core") ∷ Number core ∷ Text (codes "interrupts") ∷ []
event_tokens (NotTaken mutex) = Text (codes "mutex") ∷ Number mutex ∷ Text (codes "refused") ∷ []
event_tokens (Awaited mutex) = Text (codes "mutex") ∷ Number mutex ∷ Text (codes "waits") ∷ []
event_tokens (QueueAwaited queue) = Text (codes "queue") ∷ Number queue ∷ Text (codes "waits") ∷ []

abbrev job_tokens : JobNumber → List Token
job_tokens job.Count = Text (codes "jobs") ∷ []
job_tokens job.Response = Text (codes "response") ∷ []
job_tokens job.ShortestResponse = Text (codes "response") ∷ Text (codes "shortest") ∷ []
job_tokens job.Latency = Text (codes "latency") ∷ []
job_tokens job.Period = Text (codes "period") ∷ []
job_tokens job.ShortestPeriod = Text (codes "period") ∷ Text (codes "shortest") ∷ []

abbrev whole_tokens : Whole → List Token
whole_tokens whole.Time = Text (codes "run") ∷ Text (codes "time") ∷ []
whole_tokens whole.Steps = Text (codes "run") ∷ Text (codes "steps") ∷ []
whole_tokens whole.NotMade = Text (codes "run") ∷ Text (codes "not_made") ∷ []

abbrev subject_tokens : Subject → List Token
subject_tokens (Time condition) = condition_tokens condition
subject_tokens (Steps event) = event_tokens event
subject_tokens (TopPriority task) = Text (codes "top_priority") ∷ []
subject_tokens (MostMessages queue) = Text (codes "queue") ∷ Number queue ∷ Text (codes "messages") ∷ []
subject_tokens (NotMade task) = Text (codes "not_made") ∷ []
subject_tokens (Job task number) = job_tokens number
subject_tokens (Migrations task) = Text (codes "migrations") ∷ []
subject_tokens (RanOut task) = Text (codes "ran_out") ∷ []
subject_tokens (Unfinished task) = Text (codes "unfinished") ∷ []
subject_tokens (MutexWait mutex) = Text (codes "mutex") ∷ Number mutex ∷ Text (codes "wait") ∷ []
subject_tokens (Run number) = whole_tokens number

abbrev part_tokens : Subject → Part → List Token
part_tokens (Time (InCall task cause)) Total = Text (codes "total") ∷ []
part_tokens (Job task job.Response) Total = Text (codes "total") ∷ []
part_tokens subject Total = []
part_tokens subject Longest = Text (codes "longest") ∷ []

-- the words of the name of a figure; where it is of a task, those after the name of the task
abbrev pub tokens_of : Subject → Part → List Token
tokens_of subject part = subject_tokens subject ++ part_tokens subject part

-- equal but for numbers
abbrev alike : List Token → List Token → Bool
alike [] [] = true
alike (Text word ∷ these) (Text other ∷ those) = bytes_eq word other && alike these those
alike (Number n ∷ these) (Number m ∷ those) = alike these those
alike these those = false

-- the parts of a subject that are told
abbrev pub parts_of : Subject → List Part
parts_of subject = (if has_total subject then Total ∷ [] else []) ++ (if has_longest subject then Longest ∷ [] else [])

abbrev pub pairs_of : Subject → List (Subject × Part)
pairs_of subject = map (λ part. (subject, part)) (parts_of subject)

abbrev first_number : List Token → ℕ
first_number [] = zero
first_number (Text word ∷ tokens) = first_number tokens
first_number (Number n ∷ tokens) = n

abbrev seek : List Token → List Subject → Option (Subject × Part)
seek tokens subjects = find (λ pair. alike tokens (tokens_of pair.0 pair.1)) (flat_map pairs_of subjects)

-- all that is measured of a task, with one mutex, queue and core
abbrev task_candidates : ℕ → ℕ → List Subject
task_candidates task n =
    Time (Running task) ∷ Time (RunningOn task n) ∷ Time (Blocked task (Mutex n)) ∷ Time (Blocked task AnyQueue) ∷ Time (Suspended task)
    ∷ Steps (Refused task NotDue)
    ∷ (off_core task ++ blocked_ways task n ++ steps_of task ++ refusals_of task ++ state_of task ++ jobs_of task ++ calls_for task Delay
    ++ calls_for task Notification ++ calls_for task AnyMutex ++ calls_for task (Mutex n) ++ calls_for task AnyQueue ++ transfers_at task n)

abbrev other_candidates : ℕ → List Subject
other_candidates n = core_subjects n ++ mutex_subjects n ++ queue_subjects n ++ run_subjects

-- the figure of a task that some words after its name mean, and any other
abbrev pub task_figure : ℕ → List Token → Option (Subject × Part)
task_figure task tokens = seek tokens (task_candidates task (first_number tokens))

abbrev pub other_figure : List Token → Option (Subject × Part)
other_figure tokens = seek tokens (other_candidates (first_number tokens))
