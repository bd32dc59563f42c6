use Rattle.bench_model.specs.Cores.{has_core}
use Rattle.smp_kernel.proofs.CoreMoves.{seek_shape}
use Rattle.smp_kernel.proofs.scheduler.Scheduler.seek.Goals as goal

pub invariant_of-self : goal.invariant_of-self
invariant_of-self c = rw c.yield_for.ensures (seek_shape _ c.self.invariant c.args.acting c.args.task (has_core c.mask.result))
