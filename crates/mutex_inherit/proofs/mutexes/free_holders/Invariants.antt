use Rattle.std.proofs.Common.{◌≡◌, replicate, None}
use Rattle.mutex_inherit.proofs.mutexes.free_holders.Given as goal

abbrev pub invariant-loop-mutex : goal.invariant-loop-mutex
invariant-loop-mutex l = l.holders.items ≡ replicate l._mutex None
