use Rattle.std.proofs.Common.{ap, ◌∙◌}
use Rattle.bench_model.specs.Lists.{View}
use Rattle.bench_model.specs.Suspending.{without_waits}
use Rattle.smp_kernel.proofs.Suspended.{quiet_seen, quiet_shape}
use Rattle.smp_kernel.proofs.scheduler.Scheduler.stop_waiting.Goals as goal

pub invariant_of-self : goal.invariant_of-self
invariant_of-self c = rw c.stop_waiting.ensures (quiet_shape _ c.self.invariant c.args.task)

pub returns : goal.returns
returns c =
    rw c.stop_waiting.ensures
    (quiet_seen _ c.self.invariant c.args.task ∙ ap
    (λ (view : View). record view { notes = without_waits view.settings.notes c.args.task view.notes }) c.self.view_is)
