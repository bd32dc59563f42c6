use Rattle.std.proofs.Common.{◌≡◌, take}
use Rattle.kept_runs.specs.Items.{items_from}
use Rattle.kept_works.proofs.items.items_of.Given as goal

abbrev pub invariant-loop-index : goal.invariant-loop-index
invariant-loop-index l = l.items.items ≡ items_from 0 (take l.index l.steps)
