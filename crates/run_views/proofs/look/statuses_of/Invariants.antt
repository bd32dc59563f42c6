use Rattle.run_views.specs.Looks.{status_of}
use Rattle.run_views.proofs.Shown.{AreShown}
use Rattle.run_views.proofs.look.statuses_of.Given as goal

abbrev pub invariant-loop-task : goal.invariant-loop-task
invariant-loop-task l = AreShown l.kernel (status_of) l.tasks.items l.task
