use Rattle.run_comparisons.proofs.RefusalsFound.{NoneBefore}
use Rattle.run_comparisons.proofs.refusals.was_step_refused.Given as goal

abbrev pub invariant-loop-place : goal.invariant-loop-place
invariant-loop-place l = NoneBefore l.run.session l.place
