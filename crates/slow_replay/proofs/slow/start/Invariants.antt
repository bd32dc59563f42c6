use Rattle.slow_replay.proofs.SlowRuns.{IsStarting}
use Rattle.slow_replay.proofs.slow.start.Given as goal

abbrev pub invariant-loop-core : goal.invariant-loop-core
invariant-loop-core l = IsStarting l.header l.core l.table
