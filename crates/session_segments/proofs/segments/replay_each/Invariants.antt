use Rattle.std.proofs.Common.{◌≡◌, ◌-◌, length, take, drop}
use Rattle.std.specs.Prelude.{IfSome}
use Rattle.bench_model.specs.Equal.{StandsFor}
use Rattle.bench_model.specs.Table.{Table}
use Rattle.segment_laws.specs.Segments.{all_steps}
use Rattle.session_segments.specs.Counting.{meter_after}
use Rattle.session_segments.specs.Meetings.{IsUnreadFrom}
use Rattle.session_segments.proofs.Replaying.{IsReplaying}
use Rattle.session_segments.proofs.segments.replay_each.Given as goal

abbrev pub invariant-loop-index : goal.invariant-loop-index
invariant-loop-index g l = record {
  replaying : (table : Table) → StandsFor l.fn.kernel table → IsReplaying table l.first l.fn.segments l.segments l.index l.kernel;
  settings : l.kernel.settings ≡ l.fn.kernel.settings;
  meter : l.meter ≡ meter_after (length (all_steps (take (l.index - l.first) (drop l.first l.fn.segments)))) l.fn.meter;
  known : IfSome l.known (IsUnreadFrom l.segments);
}
