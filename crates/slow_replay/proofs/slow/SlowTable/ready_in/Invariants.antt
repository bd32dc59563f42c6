use Rattle.std.proofs.Common.{◌≡◌, ◌≤◌}
use Rattle.slow_replay.proofs.SlowSlices.{count_below, stands_in}
use Rattle.slow_replay.proofs.slow.SlowTable.ready_in.Given as goal

abbrev pub invariant-loop-task : goal.invariant-loop-task
invariant-loop-task l = (l.ready ≡ count_below (stands_in l.self l.priority) l.task) × (l.ready ≤ l.task)
