use Rattle.std.proofs.Common.{◌≡◌, ◌∷◌, ◌∙◌, ap, subst}
use Rattle.bench_model.specs.Lists.{View, without_delay, due_tasks}
use Rattle.tick_delay.specs.Parts.{DelayView}
use Rattle.smp_kernel.proofs.Ticks.{settled_from, ticked_first, ticked_more, due_fewer, popped_shape, popped_wake}
use Rattle.smp_kernel.proofs.scheduler.Scheduler.tick.Goals as goal

pub loop-task-init : goal.loop-task-init
loop-task-init c = ticked_first c.args.self.now c.advance.new.self c.advance.ensures

pub invariant_of-self : goal.invariant_of-self
invariant_of-self c = rw c.in-Some.ensures.entry (popped_shape _ c.self.invariant c.in-Some.task)

pub loop-task-smaller : goal.loop-task-smaller
loop-task-smaller c =
    let task = c.in-Some.task in
    let first = subst (λ (view : View). due_tasks view.orders.delayed ≡ task ∷ due_tasks (without_delay task view.orders.delayed)) c.self.view_is
    (c.in-Some.ensures.first ∙ ap (λ (view : DelayView). task ∷ due_tasks view.delayed) c.in-Some.ensures.entry) in
    let woken = popped_wake _ c.loop-task.self c.wake.new.self task c.self.view_is (rw c.in-Some.ensures.entry at c.wake.ensures) in
    due_fewer c.loop-task.self c.wake.new.self task first woken

pub loop-task-preserved : goal.loop-task-preserved
loop-task-preserved c =
    let task = c.in-Some.task in
    let first = subst (λ (view : View). due_tasks view.orders.delayed ≡ task ∷ due_tasks (without_delay task view.orders.delayed)) c.self.view_is
    (c.in-Some.ensures.first ∙ ap (λ (view : DelayView). task ∷ due_tasks view.delayed) c.in-Some.ensures.entry) in
    let woken = popped_wake _ c.loop-task.self c.wake.new.self task c.self.view_is (rw c.in-Some.ensures.entry at c.wake.ensures) in
    ap settled_from woken ∙ ticked_more c.loop-task.self task first ∙ c.loop-task.invariant
