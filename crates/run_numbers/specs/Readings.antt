-- The numbers of a run.
use Rattle.std.specs.Prelude.{ℕ, ◌<◌, List, length, filter, ◌==◌, ⊤}
use Rattle.std.specs.List.{sum_by}
use Rattle.list_orders.specs.Search.{numbers}
use Rattle.bench_types.specs.declared.header.Header.{Header}
use Rattle.bench_types.specs.declared.kernel_data.Settings.{Settings}
use Rattle.bench_types.specs.declared.step.Step.{Step}
use Rattle.bench_types.specs.Step.{queue_total}
use Rattle.bench_model.specs.Table.{stamp_queues}
use Rattle.bench_model.specs.Tallied.{one_if}
use Rattle.bench_model.specs.Tally.{steps_that, top_priority}
use Rattle.settled_runs.specs.declared.waiting_call.WaitingCall.{WaitingCall}
use Rattle.run_numbers.specs.declared.subject.Condition.{Condition}
use Rattle.run_numbers.specs.declared.subject.Condition.TheVariants.{Running, RunningOn, WantsCore, Inverted, Blocked, HeldUp, Suspended, InCall, Raised, PreemptionOff, Busy, Idle, Due, Holding, Held, Empty, Full}
use Rattle.run_numbers.specs.declared.subject.Event.{Event}
use Rattle.run_numbers.specs.declared.subject.Event.TheVariants.{Inherits, PutOff}
use Rattle.run_numbers.specs.declared.subject.Measured.{Measured}
use Rattle.run_numbers.specs.declared.subject.Reading.{Reading}
use Rattle.run_numbers.specs.declared.subject.Subject.{Subject}
use Rattle.run_numbers.specs.declared.subject.Subject.TheVariants.{Time, Steps, TopPriority, MostMessages, NotMade, Job, Migrations, RanOut, Unfinished, MutexWait, Run}
use Rattle.run_numbers.specs.declared.subject.JobNumber.{JobNumber}
use Rattle.run_numbers.specs.declared.subject.JobNumber.TheVariants as job
use Rattle.run_numbers.specs.declared.subject.Whole.{Whole}
use Rattle.run_numbers.specs.declared.subject.Whole.TheVariants as whole
use Rattle.task_jobs.specs.declared.durations.Durations.{Durations}
use Rattle.task_jobs.specs.Course.{Course}
use Rattle.task_jobs.specs.Crowds.{waited}
use Rattle.task_jobs.specs.Durations.{durations_of}
use Rattle.task_jobs.specs.Jobs.{all_latencies, all_responses, periods, responses}
use Rattle.task_jobs.specs.Moves.{moves}
use Rattle.task_jobs.specs.Waits.{run_outs}
use Rattle.run_numbers.specs.Events.{happens}
use Rattle.run_numbers.specs.Messages.{most_messages}
use Rattle.run_numbers.specs.TaskCourse.{course_of, waiters_of}
use Rattle.run_numbers.specs.Stretches.{longest_from, longest_stretch, time_found, time_of_step}

-- a number that has no stretch
abbrev pub only : ℕ → Reading
only total = record { total = total; longest = 0; from = 0 }

-- the calls of the task among those that were not made
abbrev pub calls_of : ℕ → List WaitingCall → ℕ
calls_of task left = length (filter (λ call. call.task == task) left)

-- the time of a run
abbrev pub run_time : Header → List Step → ℕ
run_time header steps = sum_by (time_of_step header steps) (numbers (length steps))

-- the number of a run that takes so much time and has so many steps
abbrev pub run_number : ℕ → ℕ → List WaitingCall → Whole → ℕ
run_number time steps left whole.Time = time
run_number time steps left whole.Steps = steps
run_number time steps left whole.NotMade = length left

abbrev pub reading_in_all : Durations → Reading
reading_in_all all = record { total = all.total; longest = all.longest; from = all.from }

-- a number of the jobs up to a place
abbrev pub job_reading : Course → ℕ → JobNumber → Reading
job_reading course place job.Count = only (durations_of (all_responses course place)).count
job_reading course place job.Response =
    reading_in_all (durations_of (all_responses course place))
job_reading course place job.ShortestResponse =
    only (durations_of (responses course place)).shortest
job_reading course place job.Latency = reading_in_all (durations_of (all_latencies course place))
job_reading course place job.Period = reading_in_all (durations_of (periods course place))
job_reading course place job.ShortestPeriod =
    only (durations_of (periods course place)).shortest

-- the numbers of a subject in a run, of which these calls were not made
abbrev pub reading_of : Header → List Step → List WaitingCall → Subject → Reading
reading_of header steps left (Time condition) = record {
  total = time_found header steps condition;
  longest = longest_stretch header steps condition;
  from = longest_from header steps condition;
}
reading_of header steps left (Steps event) =
    only (steps_that header steps (happens stamp_queues event))
reading_of header steps left (TopPriority task) = only (top_priority header steps task)
reading_of header steps left (MostMessages queue) = only (most_messages header steps queue)
reading_of header steps left (NotMade task) = only (calls_of task left)
reading_of header steps left (Job task number) =
    job_reading (course_of header steps task) (length steps) number
reading_of header steps left (Migrations task) =
    only (moves (course_of header steps task) (length steps))
reading_of header steps left (RanOut task) =
    only (run_outs (course_of header steps task) (length steps))
reading_of header steps left (Unfinished task) =
    only (one_if ((course_of header steps task).in_call (length steps)))
reading_of header steps left (MutexWait mutex) =
    only (waited (waiters_of header steps mutex) (length steps))
reading_of header steps left (Run number) =
    only (run_number (run_time header steps) (length steps) left number)

-- a subject with its numbers in a run
abbrev pub measured : Header → List Step → List WaitingCall → Subject → Measured
measured header steps left subject =
    record { subject = subject; reading = reading_of header steps left subject }

-- the settings have the task, the core, the mutex or the queue
abbrev pub IsConditionOf : Settings → Condition → Type 0
IsConditionOf settings (Running task) = task < settings.tasks
IsConditionOf settings (RunningOn task core) = core < settings.cores
IsConditionOf settings (WantsCore task) = task < settings.tasks
IsConditionOf settings (Inverted task) = task < settings.tasks
IsConditionOf settings (Blocked task cause) = task < settings.tasks
IsConditionOf settings (HeldUp task) = task < settings.tasks
IsConditionOf settings (Suspended task) = task < settings.tasks
IsConditionOf settings (InCall task cause) = task < settings.tasks
IsConditionOf settings (Raised task) = task < settings.tasks
IsConditionOf settings (PreemptionOff task) = task < settings.tasks
IsConditionOf settings (Busy core) = core < settings.cores
IsConditionOf settings (Idle core) = core < settings.cores
IsConditionOf settings (Due core) = core < settings.cores
IsConditionOf settings (Holding core) = core < settings.cores
IsConditionOf settings (Held mutex) = mutex < settings.mutexes
IsConditionOf settings (Empty queue) = queue < queue_total settings
IsConditionOf settings (Full queue) = queue < queue_total settings

abbrev pub IsEventOf : Settings → Event → Type 0
IsEventOf settings (Inherits task) = task < settings.tasks
IsEventOf settings (PutOff task) = task < settings.tasks
IsEventOf settings event = ⊤

abbrev pub IsSubjectOf : Settings → Subject → Type 0
IsSubjectOf settings (Time condition) = IsConditionOf settings condition
IsSubjectOf settings (Steps event) = IsEventOf settings event
IsSubjectOf settings (TopPriority task) = task < settings.tasks
IsSubjectOf settings (Job task number) = task < settings.tasks
IsSubjectOf settings (Migrations task) = task < settings.tasks
IsSubjectOf settings (RanOut task) = task < settings.tasks
IsSubjectOf settings (Unfinished task) = task < settings.tasks
IsSubjectOf settings (MutexWait mutex) = mutex < settings.mutexes
IsSubjectOf settings (MostMessages queue) = queue < queue_total settings
IsSubjectOf settings subject = ⊤
