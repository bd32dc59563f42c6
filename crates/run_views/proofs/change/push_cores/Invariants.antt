use Rattle.std.proofs.Common.{◌≡◌, ◌++◌, drop}
use Rattle.run_views.specs.declared.change.Change.TheVariants.{Core}
use Rattle.run_views.specs.Changes.{changes_each, core_changes}
use Rattle.run_views.proofs.change.push_cores.Given as goal

abbrev pub invariant-loop-core : goal.invariant-loop-core
invariant-loop-core l = l.changes.items ++ changes_each Core core_changes l.core (drop l.core l.olds) (drop l.core l.news) ≡ l.initial.changes.items ++
    changes_each Core core_changes 0 l.olds l.news
