-- How long the answers of tasks take.
use Rattle.std.specs.Prelude.{◌≡◌, ℕ, ◌+◌, List, length, map, not}
use Rattle.std.specs.List.{sum}
use Rattle.list_orders.specs.Search.{numbers}
use Rattle.bench_types.specs.declared.header.Header.{Header}
use Rattle.bench_types.specs.declared.step.Step.{Step}
use Rattle.bench_types.specs.Step.{settings_of}
use Rattle.bench_model.specs.Tallied.{one_if}
use Rattle.task_jobs.specs.declared.histogram.Histogram.{Histogram}
use Rattle.task_jobs.specs.Histograms.{histogram_of}
use Rattle.task_jobs.specs.Jobs.{responses}
use Rattle.run_numbers.specs.declared.subject.JobNumber.TheVariants as job
use Rattle.run_numbers.specs.Readings.{job_reading}
use Rattle.run_numbers.specs.TaskCourse.{course_of}

-- of the jobs of a task that end in a run, how many take how long
abbrev pub responses_of : Header → List Step → ℕ → Histogram
responses_of header steps task =
    histogram_of (responses (course_of header steps task) (length steps))

-- those of each task
abbrev pub all_responses_of : Header → List Step → List Histogram
all_responses_of header steps =
    map (responses_of header steps) (numbers (settings_of header).tasks)

-- all counts of a task together, and its job that has not ended, are its jobs
abbrev pub CountsAreJobs : Type 0
CountsAreJobs =
    (header : Header) (steps : List Step) (task : ℕ)
    → let course = course_of header steps task in
    (job_reading course (length steps) job.Count).total
    ≡ sum (responses_of header steps task).counts + one_if (not (course.rests (length steps)))
