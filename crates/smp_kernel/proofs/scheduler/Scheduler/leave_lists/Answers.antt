use Rattle.std.proofs.Common.{ap, ◌∙◌}
use Rattle.bench_model.specs.Lists.{View, suspend}
use Rattle.smp_kernel.proofs.Suspended.{away_seen, away_shape}
use Rattle.smp_kernel.proofs.scheduler.Scheduler.leave_lists.Goals as goal

pub invariant_of-self : goal.invariant_of-self
invariant_of-self c = rw (c.unready.ensures, c.cancel.ensures, c.leave.ensures) (away_shape _ c.self.invariant c.args.task)

pub returns : goal.returns
returns c =
    rw (c.unready.ensures, c.cancel.ensures, c.leave.ensures)
    (away_seen _ c.self.invariant c.args.task ∙ ap (λ (view : View). record view { orders = suspend c.args.task view.orders }) c.self.view_is)
