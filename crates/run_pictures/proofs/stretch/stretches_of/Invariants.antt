use Rattle.std.proofs.Common.{vec_len}
use Rattle.run_pictures.proofs.Tiling.{Stretched}
use Rattle.run_pictures.proofs.stretch.stretches_of.Given as goal

abbrev pub decreases-loop-value : goal.decreases-loop-value
decreases-loop-value g l = vec_len l.left

abbrev pub invariant-loop-value : goal.invariant-loop-value
invariant-loop-value g l = Stretched g.T.StretchValue.same l.first l.fn.values.items l.left.items l.stretches.items
