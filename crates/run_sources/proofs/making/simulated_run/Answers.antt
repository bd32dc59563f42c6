use Rattle.std.proofs.Common.{◌+◌, ◌∙◌, ap, ap₂, length, sym, subst}
use Rattle.bench_types.specs.Session.{Session}
use Rattle.session_runs.specs.Run.{RunView}
use Rattle.simulating.specs.Simulated.{SimulatedView}
use Rattle.smp_kernel.proofs.Counts.{counted_twice}
use Rattle.smp_kernel.specs.Counting.{meter_after}
use Rattle.run_sources.specs.declared.fault.RunFault.{RunFault}
use Rattle.run_sources.specs.declared.source.Source.TheVariants as source
use Rattle.run_sources.specs.Sources.{IsFaultOf}
use Rattle.run_sources.proofs.TrueFaults.{true_fault}
use Rattle.run_sources.proofs.making.simulated_run.Goals as goal

pub returns-in_ok-of_session-in-Ok-clause-counted : goal.returns-in_ok-of_session-in-Ok-clause-counted
returns-in_ok-of_session-in-Ok-clause-counted c =
    let own : Session = c.simulated.inside.session in
    let told : Session = c.in-Ok.simulated.session in
    let same = ap (λ (v : SimulatedView). v.session) c.simulated.view_is in
    let kept = ap (λ (run : RunView). run.session) c.in_ok-of_session-in-Ok.ensures.run in
    c.in_ok-of_session-in-Ok.ensures.meter
    ∙ ap (meter_after (length own.steps)) c.in-Ok.ensures.counted
    ∙ counted_twice (length told.steps) (length own.steps) c.args.meter.now
    ∙ ap₂ (λ (one other : Session). meter_after (length one.steps + length other.steps) c.args.meter.now) (sym (kept ∙ same)) (sym kept)

pub returns-in-Err-clause-fault : goal.returns-in-Err-clause-fault
returns-in-Err-clause-fault c =
    subst (λ (fault : RunFault). IsFaultOf (source.Workload c.args.workload.now) fault) (sym c.fault_of.ensures)
    (true_fault c.args.workload.now c.simulate.result c.in-Err.fault c.simulate.ensures.long c.in-Err.is)
