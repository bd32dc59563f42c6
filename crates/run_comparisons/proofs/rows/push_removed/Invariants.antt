use Rattle.std.proofs.Common.{◌≡◌, ◌++◌, map}
use Rattle.std.specs.List.{range_with_len}
use Rattle.run_comparisons.specs.declared.rows.Row.TheVariants.{Removed}
use Rattle.run_comparisons.proofs.rows.push_removed.Given as goal

abbrev pub invariant-loop-count : goal.invariant-loop-count
invariant-loop-count l = l.rows.items ≡ l.initial.rows.items ++ map Removed (range_with_len l.from l.count)
