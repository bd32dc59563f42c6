use Rattle.slow_replay.proofs.SlowSlices.{IsSlicing}
use Rattle.slow_replay.proofs.slow.SlowTable.slice.Given as goal

abbrev pub invariant-loop-core : goal.invariant-loop-core
invariant-loop-core l = IsSlicing l.fn.self l.core l.self
