use Rattle.std.proofs.Common.{◌≡◌, map, ◌++◌, take, drop}
use Rattle.smp_kernel.specs.Deadlines.{left_after}
use Rattle.smp_kernel.proofs.deadlines.count_anew.Given as goal

-- the deadlines that were looked at are what is left to them, and the others as they were
abbrev pub invariant-loop-end : goal.invariant-loop-end
invariant-loop-end l = l.end-items ≡ map (left_after l.passed) (take l.end-index l.initial.end-items) ++ drop l.end-index l.initial.end-items
