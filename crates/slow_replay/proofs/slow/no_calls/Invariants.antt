use Rattle.std.proofs.Common.{◌≡◌, replicate, None}
use Rattle.slow_replay.proofs.slow.no_calls.Given as goal

abbrev pub invariant-loop-task : goal.invariant-loop-task
invariant-loop-task l = l.calls.items ≡ replicate l._task None
