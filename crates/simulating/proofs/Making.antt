-- How the run of a workload is made further, and what it is in the end.
use Rattle.std.proofs.Common.{◌≡◌, ℕ, suc, ◌+◌, ◌-◌, ◌*◌, ◌^◌, ◌<◌, ◌≤◌, List, [], ◌∷◌, ◌++◌, length, take, Bool, Option, Some, None, refl, sym, ap, subst, ◌∙◌, arith}
use Rattle.std.specs.Prelude.{All, Ok}
use Rattle.std.proofs.lemmas.List.{length-append, take-append-le, take_all}
use Rattle.std.proofs.lemmas.List.Elements.{All-append, All-from_recursion}
use Rattle.std.proofs.lemmas.List.Sums.{fold-append}
use Rattle.bench_types.specs.declared.kernel_data.Settings.{Settings}
use Rattle.bench_types.specs.declared.step.Call.{Call}
use Rattle.bench_types.specs.declared.step.Step.{Step}
use Rattle.bench_types.specs.declared.step.Step.TheVariants as steps
use Rattle.bench_types.specs.Limits.{max_steps}
use Rattle.bench_types.specs.Step.{call_check, core_check, settings_of, step_check, task_check, ◌>>◌, IsCheckedStep}
use Rattle.bench_types.proofs.Passes.{both_pass, checked_task}
use Rattle.bench_model.specs.Equal.{StandsFor}
use Rattle.bench_model.specs.Session.{step_of}
use Rattle.bench_model.specs.Start.{start}
use Rattle.smp_kernel.specs.Counting.{meter_after, CountsUpTo}
use Rattle.smp_kernel.proofs.Counts.{counted_twice}
use Rattle.task_programs.specs.declared.workload.Workload.{Workload}
use Rattle.task_programs.specs.Limits.{max_ticks}
use Rattle.task_programs.specs.Workloads.{IsCheckedWorkload}
use Rattle.workload_runs.specs.Ends.{ends_in, ends_of}
use Rattle.workload_runs.specs.Laws.{EachRun}
use Rattle.workload_runs.specs.Rule.{next_step, AreNext, IsRunFrom}
use Rattle.workload_runs.specs.Situations.{Situation, after, after_steps, first_situation, situation_at, span_of, units_in}
use Rattle.workload_runs.proofs.Clocks.{no_fewer}
use Rattle.workload_runs.proofs.Keeps.{next_checked}
use Rattle.workload_runs.proofs.Workloads.{units_fit, workload_sound}
use Rattle.simulating.specs.declared.simulation.Simulation.{Simulation}
use Rattle.simulating.specs.Callers.{lone_caller, IsTooLongBy}
use Rattle.simulating.specs.Progress.{Keeps, MayGoBy}
use Rattle.simulating.specs.Simulations.{now_in, IsAt}
use Rattle.simulating.proofs.Here.{kept, many_programs, many_tasks}

-- ---- steps one behind another

are_more : (made : List Step) (workload : Workload) (now : Situation) (step : Step) → AreNext workload now made
    → next_step workload (after_steps workload now made) ≡ Some step → AreNext workload now (made ++ step ∷ [])
are_more [] workload now step next is = (is, tt)
are_more (first ∷ made) workload now step next is = (next.0, are_more made workload (after workload first now) step next.1 is)

pub run_ends : (made : List Step) (workload : Workload) (now : Situation) → AreNext workload now made
    → next_step workload (after_steps workload now made) ≡ None → IsRunFrom workload now made
run_ends [] workload now next none = none
run_ends (first ∷ made) workload now next none = (next.0, run_ends made workload (after workload first now) next.1 none)

-- what holds of each run holds of the steps of a run that was made to its end
pub each_made : (property : Workload → List Step → Type 0) → EachRun property → (workload : Workload) (simulation : Simulation) → IsAt workload simulation
    → next_step workload (now_in workload simulation) ≡ None → (steps : List Step) → steps ≡ simulation.steps.items → property workload steps
each_made property law workload simulation here none steps same =
    let run = run_ends simulation.steps.items workload (first_situation workload) here.next none in
    subst (property workload) (sym same) (law workload simulation.steps.items here.checked run)

after_more : (workload : Workload) (now : Situation) (made : List Step) (step : Step)
    → after_steps workload now (made ++ step ∷ []) ≡ after workload step (after_steps workload now made)
after_more workload now made step = fold-append (λ now step. after workload step now) now made (step ∷ [])

table_after : (workload : Workload) (step : Step) (now : Situation) → (step_of step now.table).1 ≡ (after workload step now).table
unfolding after
table_after workload step now = refl

-- ---- the start

table_at_start : (workload : Workload) → start workload.header ≡ (first_situation workload).table
unfolding first_situation
table_at_start workload = refl

pub at_start : (workload : Workload) (new : Simulation) → IsCheckedWorkload workload → StandsFor new.kernel (start workload.header)
    → new.kernel.settings ≡ settings_of workload.header → Keeps (first_situation workload) new.progress → new.steps.items ≡ [] → IsAt workload new
at_start workload new checked stands settings keeps none =
    let there = first_situation workload in
    let now : there ≡ now_in workload new = sym (ap (after_steps workload there) none) in
    record {
      checked = checked;
      next = subst (AreNext workload there) (sym none) tt;
      stands = subst (λ (now : Situation). StandsFor new.kernel now.table) now (subst (StandsFor new.kernel) (table_at_start workload) stands);
      settings = settings;
      steps = subst (All (IsCheckedStep (settings_of workload.header))) (sym none) (All-from_recursion (IsCheckedStep (settings_of workload.header)) [] tt);
      keeps = subst (λ now. Keeps now new.progress) now keeps;
      room = omega (arith, ap length none);
    }

-- ---- the next step

module _ (workload : Workload) (old : Simulation) (here : IsAt workload old) where
  pub may_go_by : MayGoBy workload old.kernel old.progress
  may_go_by =
      let keeps = kept workload old here in
      let units = units_fit workload here.checked in
      let ticks = (workload_sound workload here.checked).ticks in
      let most = no_fewer workload.ticks max_ticks (units_in workload) ticks in
      record {
        tasks = many_tasks workload old here;
        programs = many_programs workload old here;
        time = omega (arith, here.keeps.time, keeps.clock.within, most, units.1);
        ticks = omega (arith, here.keeps.ticks, keeps.clock.few, ticks);
      }

  module _ (step : Step) (next : next_step workload (now_in workload old) ≡ Some step) where
    step_checked : IsCheckedStep (settings_of workload.header) step
    step_checked = next_checked workload here.checked (now_in workload old) (kept workload old here) step next

    pub step_fits : step_check old.kernel.settings step ≡ Ok tt
    step_fits = (subst (λ settings. IsCheckedStep settings step) (sym here.settings) step_checked).passes

    -- a call is one of a user task
    pub caller_fits : (core task : ℕ) (call : Call) → step ≡ steps.Call core task call
        → (old.kernel.settings.cores ≤ task) × (task < old.kernel.settings.tasks)
    caller_fits core task call is =
        let settings = old.kernel.settings in
        let passes : step_check settings (steps.Call core task call) ≡ Ok tt = subst (λ step. step_check settings step ≡ Ok tt) is step_fits in
        let first = (both_pass (core_check settings core >> task_check settings task) (call_check settings call) passes).0 in
        checked_task settings task (both_pass (core_check settings core) (task_check settings task) first).1

    pub at_next : (new : Simulation) → StandsFor new.kernel (step_of step (now_in workload old).table).1
        → new.kernel.settings ≡ old.kernel.settings → Keeps (after workload step (now_in workload old)) new.progress
        → new.steps.items ≡ old.steps.items ++ step ∷ [] → length old.steps.items < max_steps → IsAt workload new
    at_next new stands settings keeps made room =
        let there = first_situation workload in
        let now : after workload step (now_in workload old) ≡ now_in workload new =
        sym (after_more workload there old.steps.items step) ∙ sym (ap (after_steps workload there) made) in
        record {
          checked = here.checked;
          next = subst (AreNext workload there) (sym made) (are_more old.steps.items workload there step here.next next);
          stands = subst (λ (now : Situation). StandsFor new.kernel now.table) now
              (subst (StandsFor new.kernel) (table_after workload step (now_in workload old)) stands);
          settings = settings ∙ here.settings;
          steps = subst (All (IsCheckedStep (settings_of workload.header))) (sym made)
              (All-append (IsCheckedStep (settings_of workload.header)) old.steps.items (step ∷ []) here.steps
              (All-from_recursion (IsCheckedStep (settings_of workload.header)) (step ∷ []) (step_checked, tt)));
          keeps = subst (λ now. Keeps now new.progress) now keeps;
          room = omega (arith, ap length made, length-append old.steps.items (step ∷ []), room);
        }

    -- where the steps fill a session the run is too long
    pub too_long : max_steps ≤ length old.steps.items → (caller : Option ℕ) → caller ≡ lone_caller old.steps.items → IsTooLongBy workload caller
    too_long long caller lone =
        let made = old.steps.items in
        let first : take max_steps (made ++ step ∷ []) ≡ made =
        take-append-le max_steps made (step ∷ []) long ∙ take_all max_steps made here.room in
        record {
          long = record {
            beginning = made ++ step ∷ [];
            next = are_more made workload (first_situation workload) step here.next next;
            longer = omega (arith, long, length-append made (step ∷ []));
          };
          lone = lone ∙ sym (ap lone_caller first);
        }

-- ---- the end

-- how far the run has come behind all its steps
at_last : (workload : Workload) (run : List Step) → after_steps workload (first_situation workload) run ≡ situation_at workload run (length run)
unfolding situation_at
at_last workload run = sym (ap (after_steps workload (first_situation workload)) (take_all (length run) run (omega arith)))

pub ends_there : (workload : Workload) (simulation : Simulation) (ends : List Bool) → ends ≡ ends_in workload (now_in workload simulation)
    → (steps : List Step) → steps ≡ simulation.steps.items → ends ≡ ends_of workload steps
ends_there workload simulation ends found steps same =
    found ∙ ap (ends_in workload) (at_last workload simulation.steps.items) ∙ sym (ap (ends_of workload) same)

-- ---- the count of the meter

pub counted_on : (made first middle last : ℕ) → made ≤ max_steps → middle ≡ meter_after made first → CountsUpTo (max_steps - made) middle last
    → CountsUpTo max_steps first last
counted_on made first middle last few counted more = (
  made + more.0,
  omega (arith, few, more.1),
  more.2 ∙ ap (meter_after more.0) counted ∙ counted_twice made more.0 first,
)
