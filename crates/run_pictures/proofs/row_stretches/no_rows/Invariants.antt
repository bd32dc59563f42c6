use Rattle.std.proofs.Common.{◌≡◌, map}
use Rattle.list_orders.specs.Search.{numbers}
use Rattle.run_pictures.specs.RowStretches.{empty_row}
use Rattle.run_pictures.proofs.row_stretches.no_rows.Given as goal

abbrev pub invariant-loop : goal.invariant-loop
invariant-loop l = l.rows.items ≡ map (λ user. empty_row) (numbers l.counter)
