use Rattle.std.proofs.Common.{◌≡◌, ◌++◌, drop}
use Rattle.run_views.specs.declared.change.Change.TheVariants.{Further}
use Rattle.run_views.specs.Changes.{changes_each, note_changes}
use Rattle.run_views.proofs.change.push_notes.Given as goal

abbrev pub invariant-loop-task : goal.invariant-loop-task
invariant-loop-task l = l.changes.items ++ changes_each (Further l.index) note_changes l.task (drop l.task l.olds) (drop l.task l.news) ≡
    l.initial.changes.items ++ changes_each (Further l.index) note_changes 0 l.olds l.news
