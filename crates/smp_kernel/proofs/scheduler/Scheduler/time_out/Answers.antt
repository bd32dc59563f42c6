use Rattle.std.proofs.Common.{true, ap, ◌∙◌}
use Rattle.bench_model.specs.Lists.{View, list_queues}
use Rattle.bench_model.specs.Mutexes.{timed_out}
use Rattle.mutex_inherit.specs.Parts.{holder_of}
use Rattle.smp_kernel.proofs.Owing.{lower_where_shape, timed_out_seen}
use Rattle.smp_kernel.proofs.scheduler.Scheduler.time_out.Goals as goal

pub invariant_of-self : goal.invariant_of-self
invariant_of-self c = rw (c.after_timeout.ensures.part, c.after_timeout.ensures.cores) (lower_where_shape _ c.self.invariant _ c.args.core (holder_of c.self.inside.mutexes.holders c.args.mutex) _)

pub returns-then-mark : goal.returns-then-mark
returns-then-mark c =
    rw (c.after_timeout.ensures.part, c.after_timeout.ensures.cores, c.if-mark.true)
    (timed_out_seen _ c.self.invariant c.args.core c.args.task c.args.mutex (holder_of c.self.inside.mutexes.holders c.args.mutex)
    ∙ ap (λ (view : View). timed_out list_queues c.args.core c.args.task c.args.mutex true (holder_of view.holders c.args.mutex) view) c.self.view_is)
