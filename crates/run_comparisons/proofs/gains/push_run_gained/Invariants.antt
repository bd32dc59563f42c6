use Rattle.std.proofs.Common.{◌≡◌, ◌++◌, flat_map, string_bytes}
use Rattle.list_orders.specs.Search.{numbers}
use Rattle.bench_model.specs.Tallied.{run_at, tally_at}
use Rattle.run_comparisons.specs.Gains.{run_gain}
use Rattle.run_comparisons.proofs.gains.push_run_gained.Given as goal

abbrev pub invariant-loop-core : goal.invariant-loop-core
invariant-loop-core l =
    string_bytes l.text ≡ string_bytes l.fn.text ++ flat_map (λ core. run_gain core (run_at (tally_at l.before l.task) core)
    (run_at (tally_at l.after l.task) core)) (numbers l.core)
