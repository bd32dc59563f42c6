use Rattle.std.proofs.Common.{◌∙◌, ap, arith, subst, sym}
use Rattle.bench_types.specs.declared.kernel_data.Settings.{Settings}
use Rattle.bench_types.specs.Step.{IsCheckedStep}
use Rattle.workload_runs.specs.Situations.{Situation}
use Rattle.workload_runs.proofs.Keeps.{call_checked}
use Rattle.simulating.specs.Simulations.{now_in}
use Rattle.simulating.proofs.Here.{kept, same_settings}
use Rattle.simulating.proofs.simulation.Simulation.timely_call.Goals as goal

pub is_timely-requires : goal.is_timely-requires
is_timely-requires c =
    let workload = c.args.workload.now in
    let self = c.args.self.now in
    let here = c.requires.here in
    let cores = ap (λ (settings : Settings). settings.cores) (same_settings workload self here) in
    let checked =
    call_checked workload here.checked (now_in workload self) (kept workload self here) c.args.core (omega (arith, cores, c.requires.core))
    c.in_ok-step.step (sym c.call_on.ensures ∙ c.in_ok-step.was) in
    (subst (λ settings. IsCheckedStep settings c.in_ok-step.step) (sym here.settings) checked).passes
