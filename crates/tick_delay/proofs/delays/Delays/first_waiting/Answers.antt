use Rattle.std.proofs.Common.{sym, subst}
use Rattle.list_orders.specs.Listings.{IsListing}
use Rattle.std.proofs.Common.{map}
use Rattle.tick_delay.specs.Parts.{DelayView}
use Rattle.tick_delay.proofs.Turns.{tasks_seen}
use Rattle.tick_delay.proofs.Waits.{task_of}
use Rattle.tick_delay.proofs.delays.Delays.first_waiting.Goals as goal

pub returns-in-Some-clause-each : goal.returns-in-Some-clause-each
returns-in-Some-clause-each c =
    subst (λ (view : DelayView). IsListing view.tasks (map task_of view.delayed)) c.self.view_is
    (subst (IsListing c.self.inside.tasks) (sym (tasks_seen _ _)) c.self.invariant.turns.waiting_tasks)

pub returns-in-None-clause-each : goal.returns-in-None-clause-each
returns-in-None-clause-each c =
    subst (λ (view : DelayView). IsListing view.tasks (map task_of view.delayed)) c.self.view_is
    (subst (IsListing c.self.inside.tasks) (sym (tasks_seen _ _)) c.self.invariant.turns.waiting_tasks)
