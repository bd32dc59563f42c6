-- All subjects of a run, one step further.
use Rattle.std.specs.Prelude.{ℕ, List, None, false, slice_index_or}
use Rattle.bench_types.specs.declared.reply.Reply.{Reply}
use Rattle.bench_types.specs.declared.step.Step.{Step}
use Rattle.bench_model.specs.Control.{task_at}
use Rattle.bench_model.specs.Lists.{View, list_queues}
use Rattle.bench_model.specs.Queues.{queue_at}
use Rattle.settled_runs.specs.declared.waiting_call.WaitingCall.{WaitingCall}
use Rattle.run_numbers.specs.declared.counter.Counter.{Counter}
use Rattle.task_jobs.specs.declared.crowd.Crowd.{Crowd}
use Rattle.task_jobs.specs.declared.work.First.{First}
use Rattle.task_jobs.specs.declared.work.Work.{Work}
use Rattle.task_jobs.specs.Crowds.{first_crowd, told as told_crowd}
use Rattle.task_jobs.specs.Works.{first_work, latencies_now, responses_now}
use Rattle.bench_model.specs.Tallied.{one_if}
use Rattle.run_numbers.specs.declared.subject.JobNumber.{JobNumber}
use Rattle.run_numbers.specs.declared.subject.JobNumber.TheVariants as job
use Rattle.run_numbers.specs.declared.subject.Measured.{Measured}
use Rattle.run_numbers.specs.declared.subject.Reading.{Reading}
use Rattle.run_numbers.specs.declared.subject.Subject.{Subject}
use Rattle.run_numbers.specs.declared.subject.Subject.TheVariants.{Time, TopPriority, MostMessages, NotMade, Job, Migrations, RanOut, Unfinished, MutexWait, Run}
use Rattle.run_numbers.specs.AfterStep.{known_before}
use Rattle.run_numbers.specs.Conditions.{holds}
use Rattle.run_numbers.specs.Counters.{first_counter, told}
use Rattle.run_numbers.specs.Gauge.{Gauge}
use Rattle.run_numbers.specs.Gauges.{found, left}
use Rattle.run_numbers.specs.Past.{Past}
use Rattle.run_numbers.specs.Readings.{calls_of, only, reading_in_all, run_number}

abbrev pub counter_in : List Counter → ℕ → Counter
counter_in counters k = slice_index_or counters k (first_counter 0 false)

abbrev pub subject_in : List Subject → ℕ → Subject
subject_in subjects k = slice_index_or subjects k (NotMade 0)

-- before any step the condition may hold, and the greatest priority in use or number of messages
-- is the first one
abbrev pub first : View → Subject → Counter
first view (Time condition) = first_counter 0 (holds list_queues condition view)
first view (TopPriority task) = first_counter (task_at view.control task).in_use false
first view (MostMessages queue) = first_counter (queue_at view.queues queue).messages false
first view subject = first_counter 0 false

-- a gauge after a step: with what the step found, what it was, and the state after it
abbrev pub stepped : View → Step → Reply → View → ℕ → Subject → Gauge → Gauge
stepped before step reply after place subject gauge =
    left (known_before before step) step reply after subject
    (found before step place subject gauge)

abbrev pub nothing_known : First
nothing_known =
    record { rests = false; core = None; ready = false; in_call = false; takes = None }

abbrev pub work_in : List Work → ℕ → Work
work_in works task = slice_index_or works task (first_work nothing_known)

abbrev pub crowd_in : List Crowd → ℕ → Crowd
crowd_in crowds mutex = slice_index_or crowds mutex (first_crowd 0)

-- a number of the jobs of a task, by its work
abbrev pub job_number : ℕ → Work → JobNumber → Reading
job_number now work job.Count = only (responses_now now work).count
job_number now work job.Response = reading_in_all (responses_now now work)
job_number now work job.ShortestResponse = only work.responses.shortest
job_number now work job.Latency = reading_in_all (latencies_now now work)
job_number now work job.Period = reading_in_all work.periods
job_number now work job.ShortestPeriod = only work.periods.shortest

-- the numbers of a subject after so many steps, by its counter, the work of the tasks and the calls
-- that were not made
abbrev pub reading_in :
    ℕ → Past → List Work → List Crowd → Counter → List WaitingCall → Subject → Reading
reading_in steps past works crowds counter left (NotMade task) = only (calls_of task left)
reading_in steps past works crowds counter left (Job task number) =
    job_number past.elapsed (work_in works task) number
reading_in steps past works crowds counter left (Migrations task) =
    only (work_in works task).moves.count
reading_in steps past works crowds counter left (RanOut task) =
    only (work_in works task).waits.run_out
reading_in steps past works crowds counter left (Unfinished task) =
    only (one_if (work_in works task).in_call)
reading_in steps past works crowds counter left (MutexWait mutex) =
    only (told_crowd past.elapsed (crowd_in crowds mutex))
reading_in steps past works crowds counter left (Run number) =
    only (run_number past.elapsed steps left number)
reading_in steps past works crowds counter left subject = told past counter

abbrev pub measured_in :
    ℕ → Past → List Work → List Crowd → Counter → List WaitingCall → Subject → Measured
measured_in steps past works crowds counter left subject = record {
  subject = subject;
  reading = reading_in steps past works crowds counter left subject;
}

abbrev pub measured_at :
    ℕ → Past → List Work → List Crowd → List Counter → List WaitingCall → List Subject → ℕ
    → Measured
measured_at steps past works crowds counters left subjects k =
    measured_in steps past works crowds (counter_in counters k) left (subject_in subjects k)
