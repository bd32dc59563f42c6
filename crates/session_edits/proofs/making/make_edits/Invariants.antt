use Rattle.session_edits.proofs.Moving.{IsOnTheWay}
use Rattle.session_edits.proofs.making.make_edits.Given as goal

abbrev pub invariant-loop-edit : goal.invariant-loop-edit
invariant-loop-edit l = IsOnTheWay l.fn.session l.fn.origins.items l.edits l.made.session l.made.origins.items l.edit-index
