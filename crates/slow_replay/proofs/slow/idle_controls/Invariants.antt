use Rattle.std.proofs.Common.{◌≡◌, replicate}
use Rattle.bench_model.specs.Start.{idle_control}
use Rattle.slow_replay.proofs.slow.idle_controls.Given as goal

abbrev pub invariant-loop-core : goal.invariant-loop-core
invariant-loop-core l = l.controls.items ≡ replicate l._core (idle_control l.cores)
