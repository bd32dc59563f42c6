use Rattle.std.proofs.Common.{◌≡◌, ◌++◌, drop}
use Rattle.run_views.specs.declared.change.Change.TheVariants.{Task}
use Rattle.run_views.specs.Changes.{changes_each, task_changes}
use Rattle.run_views.proofs.change.push_tasks.Given as goal

abbrev pub invariant-loop-task : goal.invariant-loop-task
invariant-loop-task l = l.changes.items ++ changes_each Task task_changes l.task (drop l.task l.olds) (drop l.task l.news) ≡ l.initial.changes.items ++
    changes_each Task task_changes 0 l.olds l.news
