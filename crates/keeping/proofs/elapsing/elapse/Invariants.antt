use Rattle.std.proofs.Common.{◌≡◌, length}
use Rattle.bench_model.specs.Equal.{StandsFor}
use Rattle.bench_model.specs.Table.{Table}
use Rattle.keeping.proofs.Elapses.{AreElapsed}
use Rattle.keeping.proofs.elapsing.elapse.Given as goal

abbrev pub invariant-loop-core : goal.invariant-loop-core
invariant-loop-core l = record {
  many : length l.worked ≡ length l.fn.worked;
  is : (table : Table) → StandsFor l.kernel table → AreElapsed table l.time l.core l.fn.worked l.worked;
}
