use Rattle.std.proofs.Common.{◌≡◌, map}
use Rattle.list_orders.specs.Search.{numbers}
use Rattle.run_comparisons.specs.declared.rows.Row.TheVariants.{Both}
use Rattle.run_comparisons.proofs.comparison.rows_of_both.Given as goal

abbrev pub invariant-loop-place : goal.invariant-loop-place
invariant-loop-place l = l.rows.items ≡ map (λ place. Both place place) (numbers l.place)
