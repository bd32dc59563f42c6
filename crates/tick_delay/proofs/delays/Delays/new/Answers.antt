use Rattle.std.proofs.Common.{arith}
use Rattle.tick_delay.proofs.Pair.{empty_shape}
use Rattle.tick_delay.proofs.delays.Delays.new.Goals as goal

pub invariant_of-result : goal.invariant_of-result
invariant_of-result c = rw c.in_ok-new.ensures (empty_shape c.args.tasks c.args.tick (omega (arith, c.ranges)))
