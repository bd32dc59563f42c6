use Rattle.std.proofs.Common.{◌∙◌, sym}
use Rattle.keeping.proofs.FirstEnds.{else_found, none_within}
use Rattle.keeping.proofs.Going.{kernel_here}
use Rattle.keeping.proofs.keeping.Keeping.task_at_end.Goals as goal

pub returns-then-is_within_tick : goal.returns-then-is_within_tick
returns-then-is_within_tick c now holds = none_within now (sym (c.is_within_tick.ensures now holds) ∙ c.if-is_within_tick.true)

pub returns : goal.returns
returns c now holds =
    let stands = kernel_here c.args.self.now now holds c.kernel.result.now c.kernel.ensures.stands in
    c.task_at_end.ensures now stands holds.rest.works (c.is_before_time-timed.ensures now holds)
    ∙ else_found now (sym (c.is_within_tick.ensures now holds) ∙ c.if-is_within_tick.false)
