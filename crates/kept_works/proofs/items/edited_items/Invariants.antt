use Rattle.kept_works.proofs.Edited.{IsOnTheWay}
use Rattle.kept_works.proofs.items.edited_items.Given as goal

abbrev pub invariant-loop-edit : goal.invariant-loop-edit
invariant-loop-edit l = IsOnTheWay l.session l.edits l.edit-index l.items.items
