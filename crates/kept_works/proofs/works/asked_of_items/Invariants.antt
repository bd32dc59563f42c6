use Rattle.std.proofs.Common.{◌≡◌, map, take}
use Rattle.kept_works.specs.Works.{asked_item}
use Rattle.kept_works.proofs.works.asked_of_items.Given as goal

abbrev pub invariant-loop-item : goal.invariant-loop-item
invariant-loop-item l = l.asked.items ≡ map (asked_item l.places) (take l.item-index l.items)
