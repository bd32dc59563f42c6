use Rattle.std.proofs.Common.{◌≡◌, ◌++◌, flat_map, string_bytes}
use Rattle.list_orders.specs.Search.{numbers}
use Rattle.run_comparisons.specs.Gains.{gains_line}
use Rattle.run_comparisons.proofs.gains.push_gains.Given as goal

abbrev pub invariant-loop-task : goal.invariant-loop-task
invariant-loop-task l = string_bytes l.text ≡ string_bytes l.fn.text ++ flat_map (gains_line l.header l.before l.after) (numbers l.task)
