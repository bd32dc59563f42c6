use Rattle.std.proofs.Common.{◌∙◌, sym}
use Rattle.settling.specs.Places.{waiting_at}
use Rattle.settling.proofs.Finds.{next_at_call, next_at_finish, next_at_switch}
use Rattle.settling.proofs.searches.next_piece.Goals as goal

pub returns-in-Some : goal.returns-in-Some
returns-in-Some c table stands =
    next_at_switch table (waiting_at c.args.queues.now.heads.items c.args.steps.now c.args.come) c.in-Some.step (c.in-Some.ensures table stands)

pub returns-in-Some-open_finish : goal.returns-in-Some-open_finish
returns-in-Some-open_finish c table stands =
    next_at_finish table (waiting_at c.args.queues.now.heads.items c.args.steps.now c.args.come) c.in-Some-open_finish.step
    (sym c.in_default.is ∙ c.due_switch.ensures table stands) (c.in-Some-open_finish.ensures table stands)

pub returns : goal.returns
returns c table stands =
    next_at_call table (waiting_at c.args.queues.now.heads.items c.args.steps.now c.args.come) c.first_call.result
    (sym c.in_default.is ∙ c.due_switch.ensures table stands) (sym c.in_default-open_finish.is ∙ c.open_finish.ensures table stands)
    (c.first_call.ensures table stands)
