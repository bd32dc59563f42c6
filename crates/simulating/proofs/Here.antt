-- What is known where the run of a workload stands.
use Rattle.std.proofs.Common.{◌≡◌, ℕ, ◌+◌, ◌-◌, ◌<◌, ◌≤◌, List, [], length, refl, sym, ap, subst, ◌∙◌, arith}
use Rattle.bench_types.specs.declared.kernel_data.Settings.{Settings}
use Rattle.bench_types.specs.Step.{settings_of}
use Rattle.bench_model.specs.Lists.{View}
use Rattle.bench_model.specs.Table.{Table}
use Rattle.task_programs.specs.declared.workload.Workload.{Workload}
use Rattle.task_programs.specs.Laws.{IsSoundWorkload}
use Rattle.workload_runs.specs.Situations.{Situation}
use Rattle.workload_runs.proofs.Keeps.{keeps_along, Keeps}
use Rattle.workload_runs.proofs.Workloads.{workload_sound}
use Rattle.simulating.specs.declared.simulation.Simulation.{Simulation}
use Rattle.simulating.specs.Simulations.{now_in, IsAt}

module _ (workload : Workload) (simulation : Simulation) (here : IsAt workload simulation) where
  pub kept : Keeps workload (now_in workload simulation)
  kept = keeps_along workload here.checked simulation.steps.items here.next

  -- the settings of the kernel
  pub same_settings : (now_in workload simulation).table.settings ≡ simulation.kernel.settings
  same_settings = ap (λ (view : View). view.settings) here.stands.shows

  -- a course for each user task of the header
  pub many_courses : length simulation.progress.courses.items ≡ length workload.header.tasks
  many_courses = ap length here.keeps.courses ∙ kept.going.many

  pub many_programs : length workload.programs ≡ length simulation.progress.courses.items
  many_programs = (workload_sound workload here.checked).one_each ∙ sym many_courses

  pub many_tasks : simulation.kernel.settings.cores + length simulation.progress.courses.items ≡ simulation.kernel.settings.tasks
  many_tasks =
      let Many : Settings → Type 0 = λ settings. settings.cores + length simulation.progress.courses.items ≡ settings.tasks in
      subst Many (sym here.settings) (ap (λ n. workload.header.config.cores + n) many_courses)
