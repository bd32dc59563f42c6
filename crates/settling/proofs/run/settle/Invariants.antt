use Rattle.std.proofs.Common.{◌-◌}
use Rattle.settling.specs.Progress.{HasCounted, IsResting}
use Rattle.settling.proofs.run.settle.Given as goal

abbrev pub invariant-loop-settling : goal.invariant-loop-settling
invariant-loop-settling l = IsResting l.session l.settling × HasCounted l.fn.meter l.meter l.settling

abbrev pub decreases-loop-settling : goal.decreases-loop-settling
decreases-loop-settling l = l.count - l.settling.come
