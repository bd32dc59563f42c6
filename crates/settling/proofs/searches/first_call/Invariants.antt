use Rattle.bench_model.specs.Equal.{StandsFor}
use Rattle.bench_model.specs.Table.{Table}
use Rattle.settling.specs.Places.{IsSearched}
use Rattle.settling.proofs.searches.first_call.Given as goal

abbrev pub invariant-loop-core : goal.invariant-loop-core
invariant-loop-core l = (table : Table) → StandsFor l.kernel table → IsSearched table l.queues.heads.items l.steps l.come l.core l.first l.found
