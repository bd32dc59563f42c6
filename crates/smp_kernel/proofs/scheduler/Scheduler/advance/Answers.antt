use Rattle.std.proofs.Common.{ap, ◌∙◌}
use Rattle.bench_model.specs.Lists.{View, advance}
use Rattle.smp_kernel.proofs.Ticks.{advance_seen, advance_shape}
use Rattle.smp_kernel.proofs.scheduler.Scheduler.advance.Goals as goal

pub invariant_of-self : goal.invariant_of-self
invariant_of-self c = rw (c.advance.ensures, c.age.ensures) (advance_shape _ c.self.invariant)

pub returns : goal.returns
returns c = rw (c.advance.ensures, c.age.ensures) (advance_seen _ c.self.invariant ∙ ap (λ (view : View). record view { orders = advance view.orders })
    c.self.view_is)
