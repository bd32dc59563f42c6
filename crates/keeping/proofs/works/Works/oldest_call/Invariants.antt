use Rattle.bench_model.specs.Equal.{StandsFor}
use Rattle.bench_model.specs.Table.{Table}
use Rattle.keeping.specs.Works.{due_on}
use Rattle.keeping.proofs.Dues.{IsSearched}
use Rattle.keeping.proofs.works.Works.oldest_call.Given as goal

abbrev pub invariant-loop-core : goal.invariant-loop-core
invariant-loop-core l = (table : Table) → StandsFor l.kernel table → IsSearched table l.self (due_on table l.self l.timed) l.core l.first l.found
