use Rattle.std.proofs.Common.{◌≡◌}
use Rattle.keeping.proofs.Lefts.{left_at}
use Rattle.keeping.proofs.works.Works.left.Given as goal

abbrev pub invariant-loop-index : goal.invariant-loop-index
invariant-loop-index l = l.left.items ≡ left_at l.self l.index
