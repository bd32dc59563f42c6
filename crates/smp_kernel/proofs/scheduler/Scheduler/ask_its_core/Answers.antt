use Rattle.smp_kernel.proofs.CoreMoves.{ask_its_core_shape}
use Rattle.smp_kernel.proofs.scheduler.Scheduler.ask_its_core.Goals as goal

pub invariant_of-self : goal.invariant_of-self
invariant_of-self c = rw c.ask_its_core.ensures (ask_its_core_shape _ c.self.invariant c.args.acting c.args.task)
