use Rattle.std.proofs.Common.{string_bytes}
use Rattle.report_figures.specs.Table.{pair_line}
use Rattle.report_figures.proofs.Ranges.{next_items}
use Rattle.report_figures.proofs.table.push_pair_lines.Goals as goal

pub loop-index-preserved : goal.loop-index-preserved
loop-index-preserved c =
    next_items (pair_line c.args.header.now c.args.before.now c.args.after.now) (string_bytes c.args.text.now) (string_bytes c.loop-index.text) _
    c.loop-index.index c.loop-index.invariant c.in_ok-push_pair_line.ensures
