use Rattle.std.proofs.Common.{◌≡◌, ◌^◌, map}
use Rattle.list_orders.specs.Search.{numbers}
use Rattle.ranked_changes.proofs.masks.single_masks.Given as goal

abbrev pub invariant-loop-core : goal.invariant-loop-core
invariant-loop-core l = l.masks.items ≡ map (λ core. 2 ^ core) (numbers l.core)
