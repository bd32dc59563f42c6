use Rattle.std.proofs.Common.{◌≡◌, ◌*◌, take}
use Rattle.bench_model.specs.Equal.{StandsFor}
use Rattle.bench_model.specs.Session.{state_after}
use Rattle.bench_model.specs.Table.{Table}
use Rattle.session_segments.specs.Counting.{meter_after}
use Rattle.session_store.specs.Replays.{AreSpans}
use Rattle.session_store.proofs.opening.push_spans.Given as goal

abbrev pub invariant-loop-segment : goal.invariant-loop-segment
invariant-loop-segment g l = record {
  spans : (table : Table) → StandsFor l.fn.kernel table → AreSpans table l.span l.segment l.steps l.segments.items;
  state : (table : Table) → StandsFor l.fn.kernel table → StandsFor l.kernel (state_after table (take (l.segment * l.span) l.steps));
  settings : l.kernel.settings ≡ l.fn.kernel.settings;
  meter : l.meter ≡ meter_after (l.segment * l.span) l.fn.meter;
}
