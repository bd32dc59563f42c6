use Rattle.std.proofs.Common.{◌≡◌}
use Rattle.tallies.proofs.Inversions.{inverted_upto}
use Rattle.tallies.proofs.tallies.add_inversions.Given as goal

abbrev pub invariant-loop-priority : goal.invariant-loop-priority
invariant-loop-priority l = l.tasks ≡ inverted_upto l.kernel l.lowest l.priority l.fn.tasks
