use Rattle.std.proofs.Common.{◌≡◌}
use Rattle.bench_model.specs.Start.{first_lists, unstarted}
use Rattle.smp_kernel.proofs.Firsts.{in_turn}
use Rattle.smp_kernel.proofs.scheduler.Scheduler.start.Given as goal

-- the cores so far have selected
abbrev pub invariant-loop-core : goal.invariant-loop-core
invariant-loop-core l = l.kernel ≡ in_turn (unstarted (first_lists l.header) l.header) l.core
