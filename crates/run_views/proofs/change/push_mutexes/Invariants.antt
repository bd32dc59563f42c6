use Rattle.std.proofs.Common.{◌≡◌, ◌++◌, drop}
use Rattle.run_views.specs.declared.change.Change.TheVariants.{Mutex}
use Rattle.run_views.specs.Changes.{changes_each, mutex_changes}
use Rattle.run_views.proofs.change.push_mutexes.Given as goal

abbrev pub invariant-loop-mutex : goal.invariant-loop-mutex
invariant-loop-mutex l = l.changes.items ++ changes_each Mutex mutex_changes l.mutex (drop l.mutex l.olds) (drop l.mutex l.news) ≡ l.initial.changes.items ++
    changes_each Mutex mutex_changes 0 l.olds l.news
