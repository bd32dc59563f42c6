use Rattle.std.proofs.Common.{◌≡◌, ℕ, ◌<◌, length}
use Rattle.std.specs.Prelude.{slice_index}
use Rattle.bench_model.specs.Control.{current}
use Rattle.run_numbers.proofs.run.first_row.Given as goal

abbrev pub invariant-loop-core : goal.invariant-loop-core
invariant-loop-core l = record {
  size : length l.row.items ≡ l.core;
  each : (core : ℕ) → core < l.core → slice_index l.row.items core ≡ current l.kernel.control core;
}
