use Rattle.std.proofs.Common.{◌≡◌, ◌++◌, drop}
use Rattle.run_comparisons.specs.Rows.{rows_from}
use Rattle.run_comparisons.proofs.rows.push_rows.Given as goal

abbrev pub invariant-loop-place : goal.invariant-loop-place
invariant-loop-place l = l.rows.items ++ rows_from l.fn.count l.next l.place (drop l.place l.origins) ≡ l.fn.rows.items ++ rows_from l.fn.count 0 0 l.origins
