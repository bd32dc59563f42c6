use Rattle.std.proofs.Common.{◌≡◌, ◌∷◌, Some, ap, sym, subst, ◌∙◌}
use Rattle.std.proofs.lemmas.Option.{same_Some}
use Rattle.bench_model.specs.Lists.{without_delay, due_tasks}
use Rattle.bench_model.specs.Looks.{left_in}
use Rattle.tick_delay.specs.Parts.{DelayView}
use Rattle.tick_delay.proofs.Turns.{due_empty, due_first, due_later}
use Rattle.tick_delay.proofs.delays.Delays.first_due.Goals as goal

pub returns-in_err-task-clause-first : goal.returns-in_err-task-clause-first
returns-in_err-task-clause-first c =
    rw c.from_residual.ensures (ap (λ (view : DelayView). due_tasks view.delayed) (sym c.self.view_is) ∙ due_empty _ _ _ _ c.self.invariant.tick_low
    c.self.invariant.turns (sym c.first.ensures.first ∙ c.in_err-task.was))

pub returns-in-Some-eq0-clause-first : goal.returns-in-Some-eq0-clause-first
returns-in-Some-eq0-clause-first c =
    subst (λ (view : DelayView). due_tasks view.delayed ≡ c.in_ok-task.task ∷ due_tasks (without_delay c.in_ok-task.task view.delayed)) c.self.view_is
    (due_first _ _ _ _ c.self.invariant.tick_low c.self.invariant.turns c.in_ok-task.task (sym c.in_ok-task.ensures.first)
    (ap (λ (view : DelayView). left_in c.in_ok-task.task view.delayed) c.self.view_is ∙ sym c.left.ensures ∙ c.in-Some-eq0.is ∙ ap Some
    c.in-Some-eq0.field-0-test))

pub returns-in_default-clause-first : goal.returns-in_default-clause-first
returns-in_default-clause-first c =
    ap (λ (view : DelayView). due_tasks view.delayed) (sym c.self.view_is)
    ∙ due_later _ _ _ _ c.self.invariant.tick_low c.self.invariant.turns c.in_ok-task.task (sym c.in_ok-task.ensures.first)
    (λ is. c.in_default.field-0-test.1 (same_Some _ _
    (c.in_default.ensures ∙ ap (λ (view : DelayView). left_in c.in_ok-task.task view.delayed) (sym c.self.view_is) ∙ is)))
