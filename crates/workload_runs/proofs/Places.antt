-- The places of a run: what is kept there, which step is next, and what is behind it.
use Rattle.std.proofs.Common.{◌≡◌, ℕ, zero, suc, ◌+◌, List, [], ◌∷◌, length, take, get_or, Some, sym, ap, arith, ◌∙◌, add-one}
use Rattle.std.specs.Prelude.{slice_get}
use Rattle.std.proofs.lemmas.Option.{same_Some, slice_get-get_or, slice_get_past, slice_get_within}
use Rattle.bench_types.specs.declared.step.Step.{Step}
use Rattle.task_programs.specs.declared.workload.Workload.{Workload}
use Rattle.task_programs.specs.Workloads.{IsCheckedWorkload}
use Rattle.workload_runs.specs.Laws.{EachRun}
use Rattle.workload_runs.specs.Properties.{StepsAreChecked}
use Rattle.workload_runs.specs.Rule.{next_step, AreNext, IsRunFrom, IsRunOf}
use Rattle.workload_runs.specs.Situations.{Situation, after, after_steps, first_situation, situation_at}
use Rattle.workload_runs.proofs.Keeps.{keeps_along, next_checked, Keeps}
use Rattle.workload_runs.proofs.Origins.{none_next, origin, NoneIsNext, Origin}
use Rattle.workload_runs.proofs.Runs.{steps_are_next}

-- the steps up to a place are next
next_to : (run : List Step) (place : ℕ) (workload : Workload) (now : Situation) → IsRunFrom workload now run → AreNext workload now (take place run)
next_to [] zero workload now is = tt
next_to [] (suc place) workload now is = tt
next_to (step ∷ run) zero workload now is = tt
next_to (step ∷ run) (suc place) workload now is = (is.0, next_to run place workload (after workload step now) is.1)

-- the situation behind a step
step_on : (run : List Step) (place : ℕ) (workload : Workload) (now : Situation) (step : Step) → slice_get run place ≡ Some step
    → after_steps workload now (take (suc place) run) ≡ after workload step (after_steps workload now (take place run))
step_on [] place workload now step stands = absurd (cc stands)
step_on (other ∷ run) zero workload now step stands = ap (λ step. after workload step now) (same_Some other step stands)
step_on (other ∷ run) (suc place) workload now step stands = step_on run place workload (after workload other now) step stands

module _ (workload : Workload) (run : List Step) (is : IsRunOf workload run) where
  pub next_there : (place : ℕ) (step : Step) → slice_get run place ≡ Some step → next_step workload (situation_at workload run place) ≡ Some step
  next_there place step stands =
      let inside = slice_get_within run place step stands in sym (steps_are_next workload run place is (omega (arith, inside))) ∙ stands

  pub origin_there : (place : ℕ) (step : Step) → slice_get run place ≡ Some step → Origin workload (situation_at workload run place) step
  origin_there place step stands = origin workload (situation_at workload run place) step (next_there place step stands)

  pub none_there : NoneIsNext workload (situation_at workload run (length run))
  none_there =
      none_next workload (situation_at workload run (length run))
      (sym (steps_are_next workload run (length run) is (omega arith)) ∙ slice_get_past run (length run) (omega arith))

  pub behind : (place : ℕ) (step : Step) → slice_get run place ≡ Some step
      → situation_at workload run (place + 1) ≡ after workload step (situation_at workload run place)
  unfolding situation_at
  behind place step stands =
      ap (λ place. after_steps workload (first_situation workload) (take place run)) (add-one place)
      ∙ step_on run place workload (first_situation workload) step stands

  pub keeps_there : IsCheckedWorkload workload → (place : ℕ) → Keeps workload (situation_at workload run place)
  unfolding situation_at
  keeps_there checked place = keeps_along workload checked (take place run) (next_to run place workload (first_situation workload) is)

pub steps_are_checked : EachRun StepsAreChecked
steps_are_checked workload run checked is place default inside =
    let step = get_or run place default in
    let stands : slice_get run place ≡ Some step = slice_get-get_or run place default inside in
    next_checked workload checked (situation_at workload run place) (keeps_there workload run is checked place) step (next_there workload run is place step stands)
