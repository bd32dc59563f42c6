use Rattle.std.proofs.Common.{◌≡◌, length, map}
use Rattle.list_orders.specs.Search.{numbers}
use Rattle.run_pictures.proofs.RowStretches.{row_from}
use Rattle.run_pictures.proofs.row_stretches.all_row_stretches.Given as goal

abbrev pub invariant-loop-index : goal.invariant-loop-index
invariant-loop-index l = l.rows.items ≡ map (row_from l.first l.looks l.header.config.cores l.index) (numbers (length l.header.tasks))
