-- The laws of runs of workloads. Each is a clause of a public function.
use Rattle.std.specs.Prelude.{◌≡◌, ◌⊎◌, ℕ, ◌*◌, ◌<◌, ◌≤◌, List, length, slice_get, slice_index_or, Some, None}
use Rattle.bench_types.specs.declared.step.Step.{Step}
use Rattle.bench_types.specs.Limits.{max_steps}
use Rattle.bench_types.specs.Step.{settings_of, IsCheckedStep}
use Rattle.bench_model.specs.Session.{state_at}
use Rattle.task_programs.specs.declared.workload.Workload.{Workload}
use Rattle.task_programs.specs.Workloads.{IsCheckedWorkload}
use Rattle.workload_runs.specs.Rule.{call_on, next_step, tick_end, AreNext, IsRunOf, IsTooLong}
use Rattle.workload_runs.specs.Situations.{Situation, after_steps, first_situation, situation_at, span_of, units_in}

-- ---- the run as it stands

-- the property holds of the run of each workload that passed its checks
abbrev pub EachRun : (Workload → List Step → Type 0) → Type 0
EachRun property =
    (workload : Workload) (run : List Step) → IsCheckedWorkload workload
    → IsRunOf workload run → property workload run

-- a workload has one run at most
abbrev pub RunIsOne : Type 0
RunIsOne =
    (workload : Workload) (run other : List Step) → IsRunOf workload run
    → IsRunOf workload other → run ≡ other

-- at each place of the run stands the next step, and behind the last place none
abbrev pub StepsAreNext : Type 0
StepsAreNext =
    (workload : Workload) (run : List Step) (place : ℕ) → IsRunOf workload run
    → place ≤ length run →
    slice_get run place ≡ next_step workload (situation_at workload run place)

-- there the kernel is as the steps before it leave it
abbrev pub KernelsAreThoseOfSteps : Type 0
KernelsAreThoseOfSteps =
    (workload : Workload) (run : List Step) (place : ℕ) →
    (situation_at workload run place).table ≡ state_at workload.header run place

-- the step that comes next behind such steps is one that a session of the header may have
abbrev pub NextIsChecked : Type 0
NextIsChecked =
    (workload : Workload) (beginning : List Step) (step : Step) → IsCheckedWorkload workload
    → AreNext workload (first_situation workload) beginning
    → next_step workload (after_steps workload (first_situation workload) beginning) ≡ Some step
    → IsCheckedStep (settings_of workload.header) step

-- so is each call that comes next on a core, also where it may not be made yet
abbrev pub NextCallsAreChecked : Type 0
NextCallsAreChecked =
    (workload : Workload) (beginning : List Step) (core : ℕ) (step : Step)
    → IsCheckedWorkload workload → AreNext workload (first_situation workload) beginning
    → let now = after_steps workload (first_situation workload) beginning in
    core < now.table.settings.cores → call_on workload now core ≡ Some step
    → IsCheckedStep (settings_of workload.header) step

-- ---- its time

-- The time is within the tick, of which there are no more than the workload says. Of each user task
-- there is a course, of each interrupt an arrival or none, and no arrival is past.
pub record IsInTime (workload : Workload) (now : Situation) : Type 0 where
  pub from : now.ticks * units_in workload ≤ now.time
  pub to : now.time ≤ tick_end workload now
  pub few : now.ticks ≤ workload.ticks
  pub courses : length now.courses ≡ length workload.header.tasks
  pub interrupts : length now.arrivals ≡ length workload.interrupts
  pub arrivals :
      (index time : ℕ) → slice_index_or now.arrivals index None ≡ Some time
      → (now.time ≤ time) × (time < span_of workload)

-- so it is behind all steps of which each is the next one
abbrev pub BeginningsAreInTime : Type 0
BeginningsAreInTime =
    (workload : Workload) (beginning : List Step) → IsCheckedWorkload workload
    → AreNext workload (first_situation workload) beginning →
    IsInTime workload (after_steps workload (first_situation workload) beginning)

-- ---- there is a run

-- each workload has a run that a session may have, or one that is too long
abbrev pub ThereIsARun : Type 0
ThereIsARun =
    (workload : Workload) →
    ((run : List Step) × IsRunOf workload run × (length run ≤ max_steps)) ⊎ IsTooLong workload

-- and not both
abbrev pub TooLongIsLonger : Type 0
TooLongIsLonger =
    (workload : Workload) (run : List Step) → IsTooLong workload → IsRunOf workload run →
    max_steps < length run
