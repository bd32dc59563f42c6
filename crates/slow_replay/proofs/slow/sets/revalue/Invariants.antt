use Rattle.std.proofs.Common.{◌≡◌}
use Rattle.bench_model.specs.Waiters.{with_value}
use Rattle.slow_replay.proofs.SlowWaiters.{changed_to}
use Rattle.slow_replay.proofs.slow.sets.revalue.Given as goal

abbrev pub invariant-loop-waiter : goal.invariant-loop-waiter
invariant-loop-waiter l = l.waiters ≡ changed_to (with_value l.task l.value) l.waiter-index l.fn.waiters
