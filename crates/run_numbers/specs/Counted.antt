-- How far the subjects of a session are counted.
use Rattle.std.specs.Prelude.{◌≡◌, ℕ, ◌-◌, ◌*◌, ◌^◌, ◌<◌, ◌≤◌, ⊤, Bool, false, is_some, List, length, Option, slice_index}
use Rattle.std.specs.List.{sum_by}
use Rattle.std.specs.Option.{ForSome}
use Rattle.list_orders.specs.Search.{numbers}
use Rattle.bench_types.specs.declared.step.Step.{Step}
use Rattle.bench_types.specs.Session.{Session}
use Rattle.bench_types.specs.Step.{settings_of}
use Rattle.bench_model.specs.Equal.{StandsFor}
use Rattle.bench_model.specs.Lists.{View, list_queues}
use Rattle.bench_model.specs.Session.{state_at}
use Rattle.run_numbers.specs.declared.counter.Counter.{Counter}
use Rattle.run_numbers.specs.declared.counter.Since.{Since}
use Rattle.run_numbers.specs.declared.event.BeforeStep.{BeforeStep}
use Rattle.run_numbers.specs.declared.look.Look.{Look}
use Rattle.run_numbers.specs.declared.subject.Subject.{Subject}
use Rattle.run_numbers.specs.declared.subject.Subject.TheVariants.{Time, Job, Migrations, RanOut, Unfinished, MutexWait}
use Rattle.run_numbers.specs.declared.taking.Plan.{Plan}
use Rattle.run_numbers.specs.Conditions.{holds}
use Rattle.run_numbers.specs.Counters.{time_since, told, HasRoom, HasRoomFor}
use Rattle.run_numbers.specs.Gauge.{Gauge}
use Rattle.run_numbers.specs.Looks.{look_of, IsApart, IsKnown, IsRow}
use Rattle.run_numbers.specs.Past.{Past}
use Rattle.run_numbers.specs.Readings.{run_time}
use Rattle.task_jobs.specs.declared.crowd.Crowd.{Crowd}
use Rattle.task_jobs.specs.declared.work.Work.{Work}
use Rattle.task_jobs.specs.Crowds.{IsCrowdAt}
use Rattle.task_jobs.specs.Works.{work_at, HasRoom as HasRoomForWork}
use Rattle.run_numbers.specs.Progress.{counter_in, crowd_in, subject_in, work_in}
use Rattle.run_numbers.specs.TaskCourse.{course_of, tick_times, waiters_of}
use Rattle.run_numbers.specs.SoFar.{gauge_at}
use Rattle.run_numbers.specs.Stretches.{time_of_step}
use Rattle.run_numbers.specs.Taking.{AreLooked}

-- the time since then is that of the stretch, and the first of it passed at its start
pub record IsOpen (so_far : Past) (gauge : Gauge) (since : Since) : Type 0 where
  pub order : since.elapsed ≤ so_far.elapsed
  pub stretch : gauge.stretch ≡ time_since so_far since
  pub none : gauge.stretch ≡ 0 → since.index ≡ length so_far.places
  pub some : 0 < gauge.stretch → since.index < length so_far.places
  pub start : 0 < gauge.stretch → gauge.start ≡ slice_index so_far.places since.index

-- the condition of the subject holds; none holds of a subject without
abbrev pub holds_of : View → Subject → Bool
holds_of view (Time condition) = holds list_queues condition view
holds_of view subject = false

-- the counter tells what the gauge does, and knows since when the condition holds, if it does
pub record Tells (view : View) (so_far : Past) (subject : Subject) (gauge : Gauge)
    (counter : Counter) : Type 0 where
  pub numbers : told so_far counter ≡ gauge.reading
  pub opened : is_some counter.since ≡ holds_of view subject
  pub since : ForSome counter.since (IsOpen so_far gauge)

-- so many steps of the session are made and counted
pub record AreCounted (session : Session) (place : ℕ) (kernel : View) (plan : Plan)
    (counters : List Counter) (looks : List (Option Look)) (row : List ℕ) (so_far : Past) :
    Type 0 where
  pub stands : StandsFor kernel (state_at session.header session.steps place)
  pub settings : kernel.settings ≡ settings_of session.header
  pub size : length counters ≡ length plan.subjects.now
  pub each : (k : ℕ) → k < length plan.subjects.now
      → Tells kernel so_far (subject_in plan.subjects.now k)
      (gauge_at session.header session.steps place (subject_in plan.subjects.now k))
      (counter_in counters k)
  pub sights : length looks ≡ plan.tasks
  pub looked : AreLooked kernel looks
  pub cores : IsRow row kernel
  pub few : length so_far.places ≤ place
  pub elapsed : so_far.elapsed
      ≡ sum_by (time_of_step session.header session.steps) (numbers place)
  pub little : so_far.elapsed ≤ place * (2 ^ 32 - 1)

-- one step more can be counted for each subject
abbrev pub HaveRoom : Past → List Subject → List Counter → Type 0
HaveRoom so_far subjects counters =
    (k : ℕ) → k < length subjects
    → HasRoomFor so_far (subject_in subjects k) (counter_in counters k)

-- as much is known of the task after the step as before, and the step does not concern it
pub record IsUntouched (looks : List (Option Look)) (row : List ℕ) (before : BeforeStep)
    (step : Step) (after : View) (task : ℕ) : Type 0 where
  pub known : IsKnown looks task (look_of after task)
  pub apart : IsApart row before step after task

-- the work of each task is that of so many steps, and so are the times of ticks
pub record AreWorked (session : Session) (place : ℕ) (works : List Work) (times : List ℕ) :
    Type 0 where
  pub size : length works ≡ (settings_of session.header).tasks
  pub each : (task : ℕ) → task < length works
      → work_in works task ≡ work_at (course_of session.header session.steps task) place
  pub ticks : times ≡ tick_times session.header session.steps place

-- the tasks that wait for each mutex are those of so many steps
pub record AreCrowded (session : Session) (place : ℕ) (crowds : List Crowd) : Type 0 where
  pub size : length crowds ≡ (settings_of session.header).mutexes
  pub each : (mutex : ℕ) → mutex < length crowds
      → IsCrowdAt (waiters_of session.header session.steps mutex) place (crowd_in crowds mutex)

-- a subject that is of work is of a task or a mutex of which this is known
abbrev pub IsWorkOf : List Work → List Crowd → Subject → Type 0
IsWorkOf works crowds (Job task number) =
    (task < length works) × HasRoomForWork (work_in works task)
IsWorkOf works crowds (Migrations task) = task < length works
IsWorkOf works crowds (RanOut task) = task < length works
IsWorkOf works crowds (Unfinished task) = task < length works
IsWorkOf works crowds (MutexWait mutex) = mutex < length crowds
IsWorkOf works crowds subject = ⊤

-- after the last step the counters tell the numbers of the subjects
pub record AreTold (session : Session) (subjects : List Subject) (so_far : Past)
    (counters : List Counter) : Type 0 where
  pub size : length counters ≡ length subjects
  pub each : (k : ℕ) → k < length subjects
      → told so_far (counter_in counters k)
      ≡ (gauge_at session.header session.steps (length session.steps)
      (subject_in subjects k)).reading
  pub elapsed : so_far.elapsed ≡ run_time session.header session.steps
  pub room : (k : ℕ) → k < length subjects → HasRoom so_far (counter_in counters k)
