use Rattle.run_columns.proofs.LinedUp.{ColumnsSoFar}
use Rattle.run_columns.proofs.slots.columns_of_run.Given as goal

abbrev pub invariant-loop-slot : goal.invariant-loop-slot
invariant-loop-slot l = ColumnsSoFar l.slots l.later l.run l.columns.items l.next.items l.slot-index
