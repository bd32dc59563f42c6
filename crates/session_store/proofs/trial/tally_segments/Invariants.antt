use Rattle.std.proofs.Common.{◌≡◌, ◌+◌, ◌-◌, ◌^◌, length, take}
use Rattle.std.specs.Prelude.{IfSome}
use Rattle.bench_model.specs.Equal.{StandsFor}
use Rattle.bench_model.specs.Table.{Table}
use Rattle.bench_model.specs.Tallied.{shape, shape_of, tallied_after, AllCountsBelow}
use Rattle.tallies.specs.Tops.{HasTops}
use Rattle.segment_laws.specs.Segments.{all_steps}
use Rattle.session_segments.specs.Counting.{meter_after}
use Rattle.session_segments.specs.Meetings.{IsUnreadFrom}
use Rattle.session_store.proofs.Retraces.{IsPast}
use Rattle.session_store.proofs.trial.tally_segments.Given as goal

abbrev pub invariant-loop-count : goal.invariant-loop-count
invariant-loop-count l = record {
  past : (table : Table) → StandsFor l.fn.kernel table → IsPast table l.after l.count l.kernel;
  counted : (table : Table) → StandsFor l.fn.kernel table → l.tallies ≡ tallied_after table (all_steps (take l.count l.after)) l.fn.tallies;
  settings : l.kernel.settings ≡ l.fn.kernel.settings;
  sizes : shape l.tallies ≡ shape_of l.fn.kernel.settings;
  room : AllCountsBelow (2 ^ 32 - length (all_steps l.after) + length (all_steps (take l.count l.after))) l.tallies;
  tops : HasTops l.kernel.control l.tallies;
  known : IfSome l.known (IsUnreadFrom l.after);
  meter : l.meter ≡ meter_after (length (all_steps (take l.count l.after))) l.fn.meter;
}
