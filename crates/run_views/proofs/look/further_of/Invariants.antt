use Rattle.run_views.proofs.Shown.{AreFurther}
use Rattle.run_views.proofs.look.further_of.Given as goal

abbrev pub invariant-loop-above : goal.invariant-loop-above
invariant-loop-above l = AreFurther l.kernel l.further.items l.above
