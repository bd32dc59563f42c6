use Rattle.std.proofs.Common.{◌∙◌, arith, sym}
use Rattle.keeping.proofs.Going.{gone_call, gone_idle, head_low, task_low}
use Rattle.keeping.proofs.keeping.Keeping.go_on.Goals as goal

pub make_call-requires-clause-worked : goal.make_call-requires-clause-worked
make_call-requires-clause-worked c =
    let low = task_low c.args.self.now c.requires.now c.requires.holds c.args.step.now c.requires.is c.in-Some.task c.in-Some.ensures in
    omega (arith, low, c.requires.holds.fit.worked_each)

pub make_call-requires-clause-task : goal.make_call-requires-clause-task
make_call-requires-clause-task c =
    let low = task_low c.args.self.now c.requires.now c.requires.holds c.args.step.now c.requires.is c.in-Some.task c.in-Some.ensures in
    omega (arith, low, c.requires.holds.fit.rows.head_each)

pub make_call-requires-clause-call : goal.make_call-requires-clause-call
make_call-requires-clause-call c =
    let low = head_low c.args.self.now c.requires.now c.requires.holds c.args.step.now c.requires.is c.in-Some.task c.in-Some.ensures in
    omega (arith, low, c.requires.holds.fit.rows.next_each)

pub returns-in-Some-clause-gone : goal.returns-in-Some-clause-gone
returns-in-Some-clause-gone c now holds next =
    let made = c.make_call.ensures in
    gone_call c.args.self.now now holds c.args.step.now next c.in-Some.task c.in-Some.ensures c.make_call.new.self made.calls made.heads made.next made.worked
    (sym c.comes_from_outside.ensures ∙ c.if-comes_from_outside.false)

pub returns-in_default-clause-gone : goal.returns-in_default-clause-gone
returns-in_default-clause-gone c now holds next =
    gone_idle c.args.self.now now holds c.args.step.now next (sym c.comes_from_outside.ensures ∙ c.if-comes_from_outside.false)
    (sym c.in_default.is ∙ c.caller.ensures)
