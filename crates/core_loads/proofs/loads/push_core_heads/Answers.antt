use Rattle.std.proofs.Common.{string_bytes}
use Rattle.report_figures.proofs.Ranges.{next_items}
use Rattle.core_loads.specs.Loads.{core_head}
use Rattle.core_loads.proofs.loads.push_core_heads.Goals as goal

pub loop-core-preserved : goal.loop-core-preserved
loop-core-preserved c =
    next_items core_head (string_bytes c.args.text.now) (string_bytes c.loop-core.text) _ c.loop-core.core c.loop-core.invariant
    c.in_ok-push_core_head.ensures
