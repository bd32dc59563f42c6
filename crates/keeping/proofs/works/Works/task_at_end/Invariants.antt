use Rattle.bench_model.specs.Equal.{StandsFor}
use Rattle.bench_model.specs.Table.{Table}
use Rattle.keeping.specs.Works.{end_on}
use Rattle.keeping.proofs.Dues.{IsSearched}
use Rattle.keeping.proofs.works.Works.task_at_end.Given as goal

abbrev pub invariant-loop-core : goal.invariant-loop-core
invariant-loop-core l = (table : Table) → StandsFor l.kernel table → IsSearched table l.self (end_on table l.self l.timed) l.core l.first l.found
