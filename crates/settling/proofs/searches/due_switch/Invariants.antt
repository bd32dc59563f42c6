use Rattle.std.proofs.Common.{◌≡◌, ℕ, ◌<◌, false}
use Rattle.bench_types.specs.declared.step.Step.TheVariants.{Switch}
use Rattle.bench_model.specs.Equal.{StandsFor}
use Rattle.bench_model.specs.Table.{Table}
use Rattle.settled_runs.specs.Settled.{is_open}
use Rattle.settling.proofs.searches.due_switch.Given as goal

abbrev pub invariant-loop-core : goal.invariant-loop-core
invariant-loop-core l = (table : Table) → StandsFor l.kernel table → (k : ℕ) → k < l.core → is_open table (Switch k) ≡ false
