use Rattle.bench_model.specs.Equal.{StandsFor}
use Rattle.bench_model.specs.Table.{Table}
use Rattle.std.proofs.Common.{◌≤◌}
use Rattle.keeping.proofs.Lefts.{IsLeast}
use Rattle.keeping.proofs.works.Works.least_left.Given as goal

abbrev pub invariant-loop-core : goal.invariant-loop-core
invariant-loop-core l = record {
  within : l.least ≤ l.units;
  is : (table : Table) → StandsFor l.kernel table → IsLeast table l.self l.units l.core l.least;
}
