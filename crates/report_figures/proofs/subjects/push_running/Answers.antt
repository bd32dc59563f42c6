use Rattle.run_numbers.specs.declared.subject.Condition.TheVariants.{Running, RunningOn}
use Rattle.run_numbers.specs.declared.subject.Subject.TheVariants.{Time}
use Rattle.report_figures.proofs.Ranges.{next_item_after}
use Rattle.report_figures.proofs.subjects.push_running.Goals as goal

pub loop-core-preserved : goal.loop-core-preserved
loop-core-preserved c =
    next_item_after (λ core. Time (RunningOn c.args.task core)) c.args.subjects.now.items (Time (Running c.args.task)) c.loop-core.subjects.items _
    c.loop-core.core c.loop-core.invariant c.in_ok-push-2.ensures.items
