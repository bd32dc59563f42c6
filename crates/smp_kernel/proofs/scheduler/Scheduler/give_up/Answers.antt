use Rattle.std.proofs.Common.{None, ap, ◌∙◌}
use Rattle.std.specs.Prelude.{slice_set}
use Rattle.bench_model.specs.Lists.{View, list_queues}
use Rattle.bench_model.specs.Mutexes.{disinherited}
use Rattle.smp_kernel.proofs.Owing.{give_seen, give_shape}
use Rattle.smp_kernel.proofs.scheduler.Scheduler.give_up.Goals as goal

pub invariant_of-self : goal.invariant_of-self
invariant_of-self c = rw (c.give.ensures.part, c.give.ensures.cores) (give_shape _ c.self.invariant c.args.core c.args.task c.args.mutex)

pub returns-clause-given : goal.returns-clause-given
returns-clause-given c =
    rw (c.give.ensures.part, c.give.ensures.cores)
    (give_seen _ c.self.invariant c.args.core c.args.task c.args.mutex
    ∙ ap (λ (view : View). disinherited list_queues c.args.core c.args.task (record view { holders = slice_set view.holders c.args.mutex None }))
    c.self.view_is)
