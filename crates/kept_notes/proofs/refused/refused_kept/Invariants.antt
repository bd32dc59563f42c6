use Rattle.kept_notes.proofs.OnTheWay.{IsOnTheWay}
use Rattle.kept_notes.proofs.refused.refused_kept.Given as goal

abbrev pub invariant-loop-index : goal.invariant-loop-index
invariant-loop-index l = IsOnTheWay l.fn.session l.edits l.index l.now l.refused.items
