use Rattle.serde_json.specs.Data.{no_members}
use Rattle.report_figures.specs.Objects.{with_change}
use Rattle.report_figures.proofs.Ranges.{next_folded}
use Rattle.report_figures.proofs.objects.changes_value.Goals as goal

pub loop-index-preserved : goal.loop-index-preserved
loop-index-preserved c =
    next_folded (with_change c.args.header.now c.args.before.now c.args.after.now) no_members _ _ c.loop-index.index c.loop-index.invariant
    c.in_ok-put_change.ensures
