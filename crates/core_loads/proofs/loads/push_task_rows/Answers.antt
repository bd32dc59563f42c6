use Rattle.std.proofs.Common.{string_bytes}
use Rattle.report_figures.proofs.Ranges.{next_items}
use Rattle.core_loads.specs.Loads.{task_row}
use Rattle.core_loads.proofs.loads.push_task_rows.Goals as goal

pub loop-user-preserved : goal.loop-user-preserved
loop-user-preserved c =
    next_items (task_row c.args.header.now c.args.figures.now) (string_bytes c.args.text.now) (string_bytes c.loop-user.text) _ c.loop-user.user
    c.loop-user.invariant c.in_ok-push_task_row.ensures
