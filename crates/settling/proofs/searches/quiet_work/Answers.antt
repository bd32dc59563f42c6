use Rattle.std.proofs.Common.{◌∙◌, [], sym}
use Rattle.settling.proofs.Finds.{next_at_rest, next_at_switch}
use Rattle.settling.proofs.searches.quiet_work.Goals as goal

pub returns-in-Some : goal.returns-in-Some
returns-in-Some c table stands = next_at_switch table [] c.in-Some.step (c.in-Some.ensures table stands)

pub returns-in-None : goal.returns-in-None
returns-in-None c table stands =
    next_at_rest table c.open_finish.result (sym c.in-None.is ∙ c.due_switch.ensures table stands) (c.open_finish.ensures table stands)
