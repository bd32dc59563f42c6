-- How far the run of a workload was made.
use Rattle.std.specs.Prelude.{◌≡◌, ◌≤◌, ◌+◌, ◌-◌, ℕ, List, length, All, Option, Some, None, option_and_then, option_map, if◌then◌else◌}
use Rattle.std.specs.List.{filter_map}
use Rattle.bench_types.specs.declared.step.Step.{Step}
use Rattle.bench_types.specs.Limits.{max_steps}
use Rattle.bench_types.specs.Step.{settings_of, IsCheckedStep}
use Rattle.bench_model.specs.Equal.{StandsFor}
use Rattle.bench_model.specs.Table.{Table}
use Rattle.settled_runs.specs.Settled.{is_timely}
use Rattle.task_programs.specs.declared.workload.Workload.{Workload}
use Rattle.task_programs.specs.Workloads.{IsCheckedWorkload}
use Rattle.workload_runs.specs.Courses.{Course}
use Rattle.workload_runs.specs.Rule.{call_on, AreNext}
use Rattle.workload_runs.specs.Situations.{Situation, after_steps, course_at, first_situation, is_working}
use Rattle.simulating.specs.Progress.{Keeps}
use Rattle.simulating.specs.declared.simulation.Simulation.{Simulation}

-- where the run stands behind the steps that were made
abbrev pub now_in : Workload → Simulation → Situation
now_in workload simulation =
    after_steps workload (first_situation workload) simulation.steps.items

-- the units that are left of the work of a user task that works
abbrev pub left_of : Table → List Course → ℕ → ℕ
left_of table courses user =
    if is_working table (table.settings.cores + user) then (course_at courses user).left else 0

-- the call that comes next on a core, where it is not refused with E1 to E5
abbrev pub timely_on : Workload → Situation → ℕ → Option Step
timely_on workload now core =
    option_and_then (λ step. if is_timely now.table step then Some step else None)
    (call_on workload now core)

-- the units that are left until each interrupt comes
abbrev pub waits_from : ℕ → List (Option ℕ) → List ℕ
waits_from time arrivals =
    filter_map (λ arrival. option_map (λ at. at - time) arrival) arrivals

-- each step was the next one, and the simulation keeps where the run stands
pub record IsAt (workload : Workload) (simulation : Simulation) : Type 0 where
  pub checked : IsCheckedWorkload workload
  pub next : AreNext workload (first_situation workload) simulation.steps.items
  pub stands : StandsFor simulation.kernel (now_in workload simulation).table
  pub settings : simulation.kernel.settings ≡ settings_of workload.header
  pub steps : All (IsCheckedStep (settings_of workload.header)) simulation.steps.items
  pub keeps : Keeps (now_in workload simulation) simulation.progress
  pub room : length simulation.steps.items ≤ max_steps
