use Rattle.std.proofs.Common.{ap, ◌∙◌}
use Rattle.bench_model.specs.Lists.{list_queues}
use Rattle.bench_model.specs.Seek.{wake}
use Rattle.smp_kernel.proofs.CoreMoves.{wake_seen, wake_shape}
use Rattle.smp_kernel.proofs.scheduler.Scheduler.wake.Goals as goal

pub invariant_of-self : goal.invariant_of-self
invariant_of-self c = rw (c.make_ready.ensures, c.cancel.ensures, c.leave.ensures) (wake_shape _ c.self.invariant c.args.acting c.args.task)

pub returns : goal.returns
returns c = rw (c.make_ready.ensures, c.cancel.ensures, c.leave.ensures)
    (wake_seen _ c.self.invariant c.args.acting c.args.task ∙ ap (wake list_queues c.args.acting c.args.task) c.self.view_is)
