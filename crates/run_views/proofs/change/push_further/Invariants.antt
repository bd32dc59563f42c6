use Rattle.std.proofs.Common.{◌≡◌, ◌++◌}
use Rattle.run_views.specs.Changes.{further_changes}
use Rattle.run_views.proofs.Each.{further_from}
use Rattle.run_views.proofs.change.push_further.Given as goal

abbrev pub invariant-loop-above : goal.invariant-loop-above
invariant-loop-above l = l.changes.items ++ further_from l.above l.olds l.news ≡ l.initial.changes.items ++ further_changes 1 l.olds l.news
