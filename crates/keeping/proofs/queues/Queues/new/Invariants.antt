use Rattle.keeping.specs.Queues.{AreLinked}
use Rattle.keeping.proofs.queues.Queues.new.Given as goal

abbrev pub invariant-loop-index : goal.invariant-loop-index
invariant-loop-index l = AreLinked l.calls l.index l.tasks l.heads.items l.next.items

abbrev pub decreases-loop-index : goal.decreases-loop-index
decreases-loop-index l = l.index
