use Rattle.std.proofs.Common.{length}
use Rattle.bench_model.specs.Table.{due}
use Rattle.slow_replay.proofs.SlowTicks.{IsWaking}
use Rattle.slow_replay.proofs.slow.SlowTable.advance.Given as goal

abbrev pub invariant-loop-task : goal.invariant-loop-task
invariant-loop-task l = IsWaking l.fn.self l.self

abbrev pub decreases-loop-task : goal.decreases-loop-task
decreases-loop-task l = length (due l.self.orders)
