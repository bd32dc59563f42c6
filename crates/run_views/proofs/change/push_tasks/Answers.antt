use Rattle.std.proofs.Common.{ap, ◌∙◌}
use Rattle.run_views.specs.declared.change.Change.TheVariants.{Task}
use Rattle.run_views.specs.Changes.{task_changes}
use Rattle.run_views.proofs.Each.{item_missing, item_named}
use Rattle.run_views.proofs.change.push_tasks.Goals as goal
use Rattle.run_views.proofs.change.push_tasks.Goals.{then-task-news+in_ok-push_task, else-task-news}

pub loop-task-preserved : goal.loop-task-preserved
loop-task-preserved c =
    let i = c.loop-task.task in
    let olds = c.args.olds.now in
    let news = c.args.news.now in
    elim c.if-task-news.branch [
      | then-task-news+in_ok-push_task w ↦
          item_named Task task_changes i olds news _ _ c.loop-task.changes.items c.if-task-news.changes.items _ c.loop-task-test.true w.if-task-news.true
          (ap (λ changes. changes.items) w.changes-is ∙ w.in_ok-push_task.ensures) c.loop-task.invariant
      | else-task-news w ↦
          item_missing Task task_changes i olds news c.loop-task.changes.items c.if-task-news.changes.items _ w.if-task-news.false
          (ap (λ changes. changes.items) w.changes-is) c.loop-task.invariant
    ]
