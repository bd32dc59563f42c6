use Rattle.std.proofs.Common.{◌≡◌, Some, length}
use Rattle.bench_model.specs.Equal.{StandsFor}
use Rattle.bench_model.specs.Table.{Table}
use Rattle.segment_laws.specs.Segments.{running_after}
use Rattle.session_segments.proofs.segment.Segment.row.Given as goal

abbrev pub invariant-loop-index : goal.invariant-loop-index
invariant-loop-index l = record {
  row : (table : Table) → StandsFor l.self.kernel table → running_after table l.self.steps l.index ≡ Some l.row.items;
  cores : length l.row.items ≡ l.self.kernel.settings.cores;
}
