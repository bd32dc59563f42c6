use Rattle.std.proofs.Common.{◌∙◌, ap, map, sym}
use Rattle.std.specs.List.{find}
use Rattle.settled_runs.specs.Settled.{is_timely, on_its_core}
use Rattle.kept_runs.specs.Rule.{in_order}
use Rattle.keeping.specs.Works.{worked_calls}
use Rattle.keeping.proofs.Going.{due_known, kernel_here, no_due}
use Rattle.keeping.proofs.keeping.Keeping.due_call.Goals as goal

pub returns-then-is_within_tick : goal.returns-then-is_within_tick
returns-then-is_within_tick c now holds = no_due now (sym (c.is_within_tick.ensures now holds) ∙ c.if-is_within_tick.true)

pub returns : goal.returns
returns c now holds =
    let stands = kernel_here c.args.self.now now holds c.kernel.result.now c.kernel.ensures.stands in
    c.next_call.ensures now stands holds.rest.works (c.is_before_time-timed.ensures now holds)
    ∙ ap (λ order. find (is_timely now.table) (map (on_its_core now.table) (in_order order now.table (worked_calls now)))) holds.rest.order
    ∙ due_known now (sym (c.is_within_tick.ensures now holds) ∙ c.if-is_within_tick.false)
