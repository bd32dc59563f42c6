use Rattle.run_columns.proofs.Timed.{TimesSoFar}
use Rattle.run_columns.proofs.times.times_of.Given as goal

abbrev pub invariant-loop-step : goal.invariant-loop-step
invariant-loop-step l = TimesSoFar l.units l.steps l.times.items l.time l.step-index
