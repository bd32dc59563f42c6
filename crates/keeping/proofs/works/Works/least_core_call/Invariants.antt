use Rattle.std.proofs.Common.{◌≡◌, ℕ, ◌<◌, None}
use Rattle.bench_model.specs.Equal.{StandsFor}
use Rattle.bench_model.specs.Table.{Table}
use Rattle.keeping.specs.Works.{due_on}
use Rattle.keeping.proofs.works.Works.least_core_call.Given as goal

abbrev pub invariant-loop-core : goal.invariant-loop-core
invariant-loop-core l = (table : Table) → StandsFor l.kernel table → (k : ℕ) → k < l.core → due_on table l.self l.timed k ≡ None
