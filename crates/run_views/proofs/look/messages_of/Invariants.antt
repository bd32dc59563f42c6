use Rattle.run_views.specs.Looks.{messages_in}
use Rattle.run_views.proofs.Shown.{AreShown}
use Rattle.run_views.proofs.look.messages_of.Given as goal

abbrev pub invariant-loop-queue : goal.invariant-loop-queue
invariant-loop-queue l = AreShown l.kernel messages_in l.messages.items l.queue
