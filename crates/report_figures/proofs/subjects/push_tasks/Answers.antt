use Rattle.std.proofs.Common.{◌+◌}
use Rattle.report_figures.specs.Subjects.{task_subjects}
use Rattle.report_figures.proofs.Ranges.{next_items}
use Rattle.report_figures.proofs.subjects.push_tasks.Goals as goal

pub loop-user-preserved : goal.loop-user-preserved
loop-user-preserved c =
    next_items (λ user. task_subjects c.args.config c.args.queues c.args.suspends (c.args.config.cores + user)) c.args.subjects.now.items c.loop-user.subjects.items _ c.loop-user.user
    c.loop-user.invariant c.in_ok-push_task.ensures
