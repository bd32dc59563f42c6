use Rattle.run_numbers.specs.declared.subject.Cause.TheVariants.{Mutex}
use Rattle.run_numbers.specs.declared.subject.Condition.TheVariants.{Blocked}
use Rattle.run_numbers.specs.declared.subject.Subject.TheVariants.{Time}
use Rattle.std.proofs.Common.{◌++◌, ◌∷◌, [], ap, ◌∙◌}
use Rattle.report_figures.proofs.Ranges.{next_item}
use Rattle.report_figures.proofs.subjects.push_blocked.Goals as goal

pub loop-mutex-preserved : goal.loop-mutex-preserved
loop-mutex-preserved c =
    next_item (λ mutex. Time (Blocked c.args.task (Mutex mutex))) c.args.subjects.now.items c.loop-mutex.subjects.items _ c.loop-mutex.mutex
    c.loop-mutex.invariant
    (c.in_ok-push.ensures.items ∙ ap (λ blocked. c.loop-mutex.subjects.items ++ Time blocked ∷ []) c.blocked.ensures)
