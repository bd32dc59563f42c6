use Rattle.std.proofs.Common.{ap, ◌∙◌}
use Rattle.run_comparisons.specs.declared.rows.Row.{Row}
use Rattle.run_comparisons.specs.SideBySide.{past}
use Rattle.run_comparisons.proofs.Walks.{event_row_on}
use Rattle.run_comparisons.proofs.side_by_side.side_by_side.Goals as goal

pub loop-event-preserved : goal.loop-event-preserved
loop-event-preserved c =
    let window = c.in_ok-push_event.ensures in
    let behind = c.past-at.ensures ∙ ap (λ (row : Row). past row c.loop-event.at) c.row_of.ensures in
    event_row_on c.args.before.now c.args.after.now c.args.events.now c.loop-event.event-index _ c.loop-event.at c.past-at.result c.loop-event.rows.items
    c.push_event.new.rows.items window.0 c.loop-event-test.true c.loop-event.invariant window.1 window.2 behind
