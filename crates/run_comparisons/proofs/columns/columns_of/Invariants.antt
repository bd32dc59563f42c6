use Rattle.std.proofs.Common.{◌≡◌, ◌++◌, drop}
use Rattle.run_comparisons.specs.Columns.{columns_from, columns_of}
use Rattle.run_comparisons.proofs.columns.columns_of.Given as goal

abbrev pub invariant-loop-column : goal.invariant-loop-column
invariant-loop-column l = l.columns.items ++ columns_from l.side l.column (drop l.column l.rows) ≡ columns_of l.side l.rows
