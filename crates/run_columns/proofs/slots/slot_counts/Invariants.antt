use Rattle.run_columns.specs.SlotColumns.{places_with}
use Rattle.run_columns.proofs.LinedUp.{AreEach}
use Rattle.run_columns.proofs.slots.slot_counts.Given as goal

abbrev pub invariant-loop-slot : goal.invariant-loop-slot
invariant-loop-slot l = AreEach (places_with l.slots l.slot-index) l.count l.counts.items
