use Rattle.std.proofs.Common.{◌∙◌, sym}
use Rattle.keeping.proofs.Going.{kernel_here, next_at_due, next_at_outside, next_at_quiet}
use Rattle.keeping.proofs.keeping.Keeping.next_step.Goals as goal

pub returns-in-Some : goal.returns-in-Some
returns-in-Some c now holds =
    next_at_quiet now c.in-Some.step (c.in-Some.ensures now.table (kernel_here c.args.self.now now holds c.kernel.result.now c.kernel.ensures.stands))

pub returns-in-Some-due_call : goal.returns-in-Some-due_call
returns-in-Some-due_call c now holds =
    next_at_due now c.in-Some-due_call.step
    (sym c.in_default.is ∙ c.quiet_work.ensures now.table (kernel_here c.args.self.now now holds c.kernel.result.now c.kernel.ensures.stands))
    (c.in-Some-due_call.ensures now holds)

pub returns : goal.returns
returns c now holds =
    next_at_outside now c.outside_step.result
    (sym c.in_default.is ∙ c.quiet_work.ensures now.table (kernel_here c.args.self.now now holds c.kernel.result.now c.kernel.ensures.stands))
    (sym c.in_default-due_call.is ∙ c.due_call.ensures now holds) (c.outside_step.ensures now holds)
