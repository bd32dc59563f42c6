use Rattle.run_numbers.specs.declared.subject.Cause.TheVariants.{Mutex}
use Rattle.std.proofs.Common.{ap, ◌++◌, ◌∙◌}
use Rattle.report_figures.specs.Subjects.{calls_for}
use Rattle.report_figures.proofs.Ranges.{next_items}
use Rattle.report_figures.proofs.subjects.push_takes.Goals as goal

pub loop-mutex-preserved : goal.loop-mutex-preserved
loop-mutex-preserved c =
    next_items (λ mutex. calls_for c.args.task (Mutex mutex)) c.args.subjects.now.items c.loop-mutex.subjects.items _ c.loop-mutex.mutex c.loop-mutex.invariant
    (c.in_ok-push_all.ensures ∙ ap (λ all. c.loop-mutex.subjects.items ++ all) c.calls_for.ensures)
