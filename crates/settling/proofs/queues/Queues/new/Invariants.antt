use Rattle.settling.specs.Places.{AreLinked}
use Rattle.settling.proofs.queues.Queues.new.Given as goal

abbrev pub invariant-loop-place : goal.invariant-loop-place
invariant-loop-place l = AreLinked l.steps l.place l.tasks l.heads.items l.next.items

abbrev pub decreases-loop-place : goal.decreases-loop-place
decreases-loop-place l = l.place
