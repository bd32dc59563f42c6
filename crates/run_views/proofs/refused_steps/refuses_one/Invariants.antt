use Rattle.run_views.proofs.Refusing.{NoneRefused}
use Rattle.run_views.proofs.refused_steps.refuses_one.Given as goal

abbrev pub invariant-loop-step : goal.invariant-loop-step
invariant-loop-step l = NoneRefused l.fn.kernel l.steps l.kernel l.step-index
