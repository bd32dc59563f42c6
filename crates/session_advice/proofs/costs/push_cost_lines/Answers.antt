use Rattle.std.proofs.Common.{string_bytes}
use Rattle.report_figures.proofs.Ranges.{next_items}
use Rattle.session_advice.specs.Basis.{basis_of}
use Rattle.session_advice.specs.Costs.{cost_line}
use Rattle.session_advice.proofs.costs.push_cost_lines.Goals as goal

pub loop-index-preserved : goal.loop-index-preserved
loop-index-preserved c =
    next_items (cost_line (basis_of c.args.base.now) c.args.after.now) (string_bytes c.args.text.now) (string_bytes c.loop-index.text) _ c.loop-index.index
    c.loop-index.invariant c.in_ok-push_cost_line.ensures
