use Rattle.std.proofs.Common.{◌≡◌, take}
use Rattle.bench_model.specs.Control.{current}
use Rattle.bench_model.specs.Equal.{StandsFor}
use Rattle.bench_model.specs.Session.{state_after}
use Rattle.bench_model.specs.Table.{Table}
use Rattle.session_segments.proofs.segment.Segment.current.Given as goal

abbrev pub invariant-loop-index : goal.invariant-loop-index
invariant-loop-index l = (table : Table) → StandsFor l.self.kernel table → l.task ≡ current (state_after table (take l.index l.self.steps)).control l.core
