use Rattle.std.proofs.Common.{◌≡◌, replicate}
use Rattle.bench_model.specs.Start.{idle_control}
use Rattle.ready_core.proofs.first.idle_controls.Given as goal

abbrev pub invariant-loop-core : goal.invariant-loop-core
invariant-loop-core l = l.tasks.items ≡ replicate l._core (idle_control l.cores)
