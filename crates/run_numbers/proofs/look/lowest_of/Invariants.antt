use Rattle.std.proofs.Common.{ℕ, ◌<◌, ◌≤◌}
use Rattle.bench_model.specs.Control.{current}
use Rattle.bench_model.specs.Seek.{effective}
use Rattle.run_numbers.proofs.look.lowest_of.Given as goal

abbrev pub invariant-loop-core : goal.invariant-loop-core
invariant-loop-core l = record {
  task : l.lowest < l.kernel.settings.tasks;
  least : (core : ℕ) → core < l.core → effective l.kernel.control l.lowest ≤ effective l.kernel.control (current l.kernel.control core);
}
