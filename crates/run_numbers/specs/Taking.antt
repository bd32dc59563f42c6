-- What a step is to all subjects.
use Rattle.std.specs.Prelude.{◌≡◌, ◌≢◌, ◌⊎◌, ℕ, ◌<◌, ◌≤◌, All, List, length, count_by, Option, None, slice_index_or}
use Rattle.std.specs.Option.{ForSome}
use Rattle.bench_types.specs.declared.kernel_data.Settings.{Settings}
use Rattle.bench_model.specs.Lists.{View}
use Rattle.smp_kernel.specs.Kernel.{StandsForSome}
use Rattle.task_jobs.specs.declared.crowd.Crowd.{Crowd}
use Rattle.task_jobs.specs.declared.work.Turn.{Turn}
use Rattle.task_jobs.specs.declared.work.Work.{Work}
use Rattle.task_jobs.specs.Crowds.{told}
use Rattle.task_jobs.specs.Works.{with_turn}
use Rattle.run_numbers.specs.declared.counter.Counter.{Counter}
use Rattle.run_numbers.specs.declared.counter.Made.{Made}
use Rattle.run_numbers.specs.declared.look.Look.{Look}
use Rattle.run_numbers.specs.declared.subject.Subject.{Subject}
use Rattle.run_numbers.specs.declared.taking.Plan.{Plan}
use Rattle.run_numbers.specs.Counters.{HasRoomFor}
use Rattle.run_numbers.specs.Looks.{look_of, IsKnown}
use Rattle.run_numbers.specs.AfterStep.{is_it}
use Rattle.run_numbers.specs.Past.{Past}
use Rattle.run_numbers.specs.Progress.{counter_in, crowd_in, subject_in, work_in}
use Rattle.run_numbers.specs.Readings.{IsSubjectOf}
use Rattle.run_numbers.specs.Rows.{row_of, AreSpans}
use Rattle.run_numbers.specs.Turns.{turn_in}

-- the plan is one of runs under the settings
pub record IsPlanOf (settings : Settings) (plan : Plan) : Type 0 where
  pub tasks : plan.tasks ≡ settings.tasks
  pub known : All (IsSubjectOf settings) plan.subjects.now
  pub spans : AreSpans plan.tasks plan.subjects.now plan.spans.now

-- the kernel after the step stands for a table, and has the core that was to switch
pub record IsWhole (made : Made) : Type 0 where
  pub sound : StandsForSome made.after.now
  pub core : ForSome made.before.left (λ left. left.0 < made.after.now.settings.cores)

abbrev pub row_at : Plan → ℕ → ℕ
row_at plan k = row_of plan.tasks (subject_in plan.subjects.now k)

-- one step more can be counted for each subject of the row
abbrev pub HaveRoomIn : Past → Plan → ℕ → List Counter → Type 0
HaveRoomIn so_far plan row counters =
    (k : ℕ) → k < length plan.subjects.now → row_at plan k ≡ row
    → HasRoomFor so_far (subject_in plan.subjects.now k) (counter_in counters k)

-- the counter at the place is what a function of its subject and of the old one gives
abbrev pub IsTaken :
    (Subject → Counter → Counter) → Plan → List Counter → List Counter → ℕ → Type 0
IsTaken f plan old now k =
    counter_in now k ≡ f (subject_in plan.subjects.now k) (counter_in old k)

abbrev pub IsKept : List Counter → List Counter → ℕ → Type 0
IsKept old now k = counter_in now k ≡ counter_in old k

-- the one at the place is taken, if its subject is of the row, and all others are kept
pub record IsTakenAt (f : Subject → Counter → Counter) (plan : Plan) (row place : ℕ)
    (old now : List Counter) : Type 0 where
  pub own : row_at plan place ≡ row → IsTaken f plan old now place
  pub other : row_at plan place ≢ row → IsKept old now place
  pub others : (k : ℕ) → k ≢ place → IsKept old now k

-- those of the row are taken, and the others are kept
pub record IsRowTaken (f : Subject → Counter → Counter) (plan : Plan) (row : ℕ)
    (old now : List Counter) : Type 0 where
  pub own : (k : ℕ) → k < length plan.subjects.now → row_at plan k ≡ row
      → IsTaken f plan old now k
  pub others : (k : ℕ) → row_at plan k ≢ row → IsKept old now k

-- the same, but where more is known already those of the row are kept too
pub record IsVisited (f : Subject → Counter → Counter) (Known : Type 0) (plan : Plan) (task : ℕ)
    (old now : List Counter) : Type 0 where
  pub own : (k : ℕ) → k < length plan.subjects.now → row_at plan k ≡ task
      → IsTaken f plan old now k ⊎ (Known × IsKept old now k)
  pub others : (k : ℕ) → row_at plan k ≢ task → IsKept old now k

-- each counter is taken, or kept where that is known of its task
abbrev pub AreTaken :
    (Subject → Counter → Counter) → (ℕ → Type 0) → Plan → List Counter → List Counter → Type 0
AreTaken f Known plan old now =
    (k : ℕ) → k < length plan.subjects.now
    → IsTaken f plan old now k
    ⊎ ((row_at plan k < plan.tasks) × Known (row_at plan k) × IsKept old now k)

-- the look at the task is known, and what was known of the others
pub record IsLooked (view : View) (task : ℕ) (old now : List (Option Look)) : Type 0 where
  pub own : IsKnown now task (look_of view task)
  pub others : (other : ℕ) → other ≢ task
      → slice_index_or now other None ≡ slice_index_or old other None

-- what is known of tasks is how they look
abbrev pub AreLooked : View → List (Option Look) → Type 0
AreLooked view looks =
    (task : ℕ) (look : Look) → IsKnown looks task look → look ≡ look_of view task

-- ---- the work of tasks

-- the work of the task at one place is that at the place before with what was made
abbrev pub IsWorked : Made → ℕ → List Work → List Work → Type 0
IsWorked made task old now =
    work_in now task ≡ with_turn (turn_in made task) (work_in old task)

abbrev pub IsWorkKept : ℕ → List Work → List Work → Type 0
IsWorkKept task old now = work_in now task ≡ work_in old task

-- the task has worked, and the others have not
pub record IsWorkedAt (made : Made) (task : ℕ) (old now : List Work) : Type 0 where
  pub own : IsWorked made task old now
  pub others : (other : ℕ) → other ≢ task → IsWorkKept other old now

-- the same, but where more is known already it is kept too
pub record IsTurnedAt (made : Made) (Known : Type 0) (task : ℕ) (old now : List Work) :
    Type 0 where
  pub own : IsWorked made task old now ⊎ (Known × IsWorkKept task old now)
  pub others : (other : ℕ) → other ≢ task → IsWorkKept other old now

-- the work of each task is that with what the step is to it, or kept where that is known of it
abbrev pub AreTurned : (ℕ → Turn) → (ℕ → Type 0) → ℕ → List Work → List Work → Type 0
AreTurned turn Known tasks old now =
    (task : ℕ) → task < tasks
    → (work_in now task ≡ with_turn (turn task) (work_in old task))
    ⊎ (Known task × IsWorkKept task old now)

-- how many of the tasks take the mutex
abbrev pub takers_in : List Work → ℕ → ℕ
takers_in works mutex = count_by (λ work. is_it work.takes mutex) works

-- so many are told of each mutex
abbrev pub AreTakers : List Work → List Crowd → Type 0
AreTakers works crowds =
    (mutex : ℕ) → mutex < length crowds
    → (crowd_in crowds mutex).tasks ≡ takers_in works mutex

-- the time of waits that is told now, and when a crowd became what it is
pub record IsTimeKept (now : ℕ) (old new : Crowd) : Type 0 where
  pub told : told now new ≡ told now old
  pub since : old.since ≤ now → new.since ≤ now

abbrev pub AreTimesKept : ℕ → List Crowd → List Crowd → Type 0
AreTimesKept now old new =
    (mutex : ℕ) → mutex < length old
    → IsTimeKept now (crowd_in old mutex) (crowd_in new mutex)
