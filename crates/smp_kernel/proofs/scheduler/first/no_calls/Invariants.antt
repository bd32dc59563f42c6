use Rattle.std.proofs.Common.{◌≡◌, replicate, None}
use Rattle.smp_kernel.proofs.scheduler.first.no_calls.Given as goal

abbrev pub invariant-loop-task : goal.invariant-loop-task
invariant-loop-task l = l.calls.items ≡ replicate l._task None
