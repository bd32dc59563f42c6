use Rattle.std.proofs.Common.{ap, ◌∙◌}
use Rattle.bench_model.specs.Lists.{due_tasks}
use Rattle.tick_delay.specs.Parts.{DelayView, advanced}
use Rattle.tick_delay.proofs.Pair.{shape_wraps, shape_goes_on, seen_wraps, seen_goes_on}
use Rattle.tick_delay.proofs.delays.Delays.advance.Goals as goal

pub invariant_of-self : goal.invariant_of-self
invariant_of-self c = shape_wraps _ _ _ _ c.self.invariant (ap (λ (view : DelayView). due_tasks view.delayed) c.self.view_is ∙ c.requires) c.if-self-eq0.true

pub invariant_of-self-else-self-eq0 : goal.invariant_of-self-else-self-eq0
invariant_of-self-else-self-eq0 c = shape_goes_on _ _ _ _ c.self.invariant (ap (λ (view : DelayView). due_tasks view.delayed) c.self.view_is ∙ c.requires)
    c.if-self-eq0.false

pub returns-then-self-eq0 : goal.returns-then-self-eq0
returns-then-self-eq0 c = seen_wraps _ _ _ _ c.self.invariant (ap (λ (view : DelayView). due_tasks view.delayed) c.self.view_is ∙ c.requires) c.if-self-eq0.true
    ∙ ap advanced c.self.view_is

pub returns-else-self-eq0 : goal.returns-else-self-eq0
returns-else-self-eq0 c = seen_goes_on _ _ _ _ c.self.invariant (ap (λ (view : DelayView). due_tasks view.delayed) c.self.view_is ∙ c.requires)
    c.if-self-eq0.false ∙ ap advanced c.self.view_is
