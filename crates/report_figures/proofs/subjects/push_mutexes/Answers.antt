use Rattle.report_figures.specs.Subjects.{mutex_subjects}
use Rattle.report_figures.proofs.Ranges.{next_items}
use Rattle.report_figures.proofs.subjects.push_mutexes.Goals as goal

pub loop-mutex-preserved : goal.loop-mutex-preserved
loop-mutex-preserved c =
    next_items mutex_subjects c.args.subjects.now.items c.loop-mutex.subjects.items _ c.loop-mutex.mutex c.loop-mutex.invariant c.in_ok-push_mutex.ensures
