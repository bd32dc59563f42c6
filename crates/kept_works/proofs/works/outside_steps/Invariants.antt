use Rattle.std.proofs.Common.{◌≡◌, take}
use Rattle.kept_works.specs.Works.{outsides}
use Rattle.kept_works.proofs.works.outside_steps.Given as goal

abbrev pub invariant-loop-item : goal.invariant-loop-item
invariant-loop-item l = l.outside.items ≡ outsides l.settled l.places (take l.item-index l.items)
