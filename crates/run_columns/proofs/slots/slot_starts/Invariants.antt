use Rattle.std.proofs.Common.{◌≡◌, map}
use Rattle.list_orders.specs.Search.{numbers}
use Rattle.run_columns.specs.SlotColumns.{slot_column}
use Rattle.run_columns.proofs.slots.slot_starts.Given as goal

abbrev pub invariant-loop-slot : goal.invariant-loop-slot
invariant-loop-slot l = (l.starts.items ≡ map (slot_column l.slots l.later) (numbers l.slot)) × (l.start ≡ slot_column l.slots l.later l.slot)
