use Rattle.std.proofs.Common.{◌≡◌, ◌++◌, drop}
use Rattle.run_views.specs.declared.change.Change.TheVariants.{Queue}
use Rattle.run_views.specs.Changes.{changes_each, queue_changes}
use Rattle.run_views.proofs.change.push_queues.Given as goal

abbrev pub invariant-loop-queue : goal.invariant-loop-queue
invariant-loop-queue l = l.changes.items ++ changes_each Queue queue_changes l.queue (drop l.queue l.olds) (drop l.queue l.news) ≡ l.initial.changes.items ++
    changes_each Queue queue_changes 0 l.olds l.news
