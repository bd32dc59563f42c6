use Rattle.std.proofs.Common.{true}
use Rattle.smp_kernel.proofs.CoreMoves.{valued_shape}
use Rattle.smp_kernel.proofs.scheduler.Scheduler.set_list_value.Goals as goal

pub invariant_of-self : goal.invariant_of-self
invariant_of-self c = rw c.set_list_value.ensures (valued_shape _ c.self.invariant true c.args.task c.args.value)
