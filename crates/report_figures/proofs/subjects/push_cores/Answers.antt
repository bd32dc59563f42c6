use Rattle.report_figures.specs.Subjects.{core_subjects}
use Rattle.report_figures.proofs.Ranges.{next_items}
use Rattle.report_figures.proofs.subjects.push_cores.Goals as goal

pub loop-core-preserved : goal.loop-core-preserved
loop-core-preserved c =
    next_items core_subjects c.args.subjects.now.items c.loop-core.subjects.items _ c.loop-core.core c.loop-core.invariant c.in_ok-push_core.ensures
