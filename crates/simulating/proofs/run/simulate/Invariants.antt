use Rattle.std.proofs.Common.{◌≡◌, ◌-◌, length}
use Rattle.bench_types.specs.Limits.{max_steps}
use Rattle.smp_kernel.specs.Counting.{meter_after}
use Rattle.simulating.specs.Simulations.{IsAt}
use Rattle.simulating.proofs.run.simulate.Given as goal

abbrev pub invariant-loop-step : goal.invariant-loop-step
invariant-loop-step l = record {
  here : IsAt l.workload l.simulation;
  counted : l.meter ≡ meter_after (length l.simulation.steps.items) l.fn.meter;
}

abbrev pub decreases-loop-step : goal.decreases-loop-step
decreases-loop-step l = max_steps - length l.simulation.steps.items
