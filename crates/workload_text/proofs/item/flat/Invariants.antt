use Rattle.std.proofs.Common.{◌≡◌, take}
use Rattle.workload_text.specs.Items.{flat}
use Rattle.workload_text.proofs.item.flat.Given as goal

abbrev pub invariant-loop-item : goal.invariant-loop-item
invariant-loop-item l = l.instructions.items ≡ flat (take l.item-index l.items)
