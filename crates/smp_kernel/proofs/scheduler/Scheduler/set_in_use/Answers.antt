use Rattle.std.proofs.Common.{◌∙◌, ap}
use Rattle.list_orders.specs.Search.{has}
use Rattle.bench_model.specs.Lists.{View, list_queues}
use Rattle.bench_model.specs.ControlFields.{with_in_use, in_use_set}
use Rattle.smp_kernel.proofs.Apart.{ready_queued}
use Rattle.smp_kernel.proofs.CoreMoves.{in_use_cores, in_use_seen, in_use_shape}
use Rattle.smp_kernel.proofs.scheduler.Scheduler.set_in_use.Goals as goal

pub invariant_of-self : goal.invariant_of-self
invariant_of-self c = rw c.set_in_use.ensures (in_use_shape _ c.self.invariant c.args.task c.args.priority)

pub returns-clause-set : goal.returns-clause-set
returns-clause-set c = rw c.set_in_use.ensures (in_use_seen _ c.self.invariant c.args.task c.args.priority ∙ ap
    (in_use_set list_queues c.args.task c.args.priority) c.self.view_is)

pub returns-clause-ready : goal.returns-clause-ready
returns-clause-ready c =
    rw (c.set_in_use.ensures, in_use_cores c.args.task c.args.priority c.self.inside.cores)
    (ready_queued c.args.task (with_in_use c.args.task c.args.priority c.self.inside.cores.control) c.self.inside.cores.ready ∙ ap
    (λ (view : View). has c.args.task view.orders.ready) c.self.view_is)

pub returns-clause-settings : goal.returns-clause-settings
returns-clause-settings c = ap (λ (view : View). view.settings) c.self.view_is
