-- How time goes on.
use Rattle.std.proofs.Common.{◌≡◌, ◌≢◌, ℕ, suc, ◌+◌, ◌-◌, ◌*◌, ◌^◌, ◌<◌, ◌≤◌, true, false, cond, eqb, leb, Some, None, sym, ap, ◌∙◌, arith}
use Rattle.std.proofs.lemmas.Bool.Decides.{nat_tests}
use Rattle.std.proofs.Math.Nat.{suc-mul}
use Rattle.bench_types.specs.declared.step.Step.{Step}
use Rattle.bench_types.specs.declared.step.Step.TheVariants.{Tick, Pass}
use Rattle.task_programs.specs.declared.workload.Workload.{Workload}
use Rattle.task_programs.specs.Workloads.{IsCheckedWorkload}
use Rattle.workload_runs.specs.Rule.{least, pass_units, tick_end, time_step, waits_left, works_left}
use Rattle.workload_runs.specs.Situations.{Situation, units_in}
use Rattle.workload_runs.proofs.Keeps.{Keeps}
use Rattle.workload_runs.proofs.Searches.{least_below}
use Rattle.workload_runs.proofs.Workloads.{units_fit}

module _ (workload : Workload) (now : Situation) where
  pub time_over : workload.ticks ≤ now.ticks → None ≡ time_step workload now
  unfolding time_step
  time_over over =
      let test : leb workload.ticks now.ticks ≡ true = grind (arith, nat_tests, over) in
      sym (ap (λ b. cond b None (cond (eqb (units_in workload) 1) (Some Tick) (Some (Pass (pass_units workload now))))) test)

  goes_on : now.ticks < workload.ticks → cond (eqb (units_in workload) 1) (Some Tick) (Some (Pass (pass_units workload now))) ≡ time_step workload now
  unfolding time_step
  goes_on fewer =
      let test : leb workload.ticks now.ticks ≡ false = grind (arith, nat_tests, fewer) in
      sym (ap (λ b. cond b None (cond (eqb (units_in workload) 1) (Some Tick) (Some (Pass (pass_units workload now))))) test)

  pub time_tick : now.ticks < workload.ticks → units_in workload ≡ 1 → Some Tick ≡ time_step workload now
  time_tick fewer one =
      let test : eqb (units_in workload) 1 ≡ true = grind (arith, nat_tests, one) in
      sym (ap (λ b. cond b (Some Tick) (Some (Pass (pass_units workload now)))) test) ∙ goes_on fewer

  pub time_pass : now.ticks < workload.ticks → units_in workload ≢ 1 → (units : ℕ) → units ≡ pass_units workload now
      → Some (Pass units) ≡ time_step workload now
  time_pass fewer many units is =
      let test : eqb (units_in workload) 1 ≡ false = grind (arith, nat_tests, many) in
      ap (λ units. Some (Pass units)) is ∙ sym (ap (λ b. cond b (Some Tick) (Some (Pass (pass_units workload now)))) test) ∙ goes_on fewer

  -- a pass is no longer than a tick
  pub pass_small : IsCheckedWorkload workload → Keeps workload now → pass_units workload now < 2 ^ 32
  pass_small checked keeps =
      let tick = tick_end workload now - now.time in
      let first = least_below (works_left now) tick in
      let second = least_below (waits_left now) (least tick (works_left now)) in
      let next = suc-mul now.ticks (units_in workload) in
      let units = units_fit workload checked in
      omega (arith, first, second, next, units.1, keeps.clock.from)
