use Rattle.std.proofs.Common.{◌≡◌}
use Rattle.std.specs.Vec.{vec_capacity, vec_len}
use Rattle.bench_model.specs.Table.{Table}
use Rattle.bench_model.specs.Equal.{StandsFor}
use Rattle.tallies.specs.Tops.{HasTops}
use Rattle.session_segments.specs.Counting.{meter_after}
use Rattle.session_segments.proofs.Replays.{IsReplayed}
use Rattle.session_segments.proofs.Tallied.{IsTallied}
use Rattle.session_segments.proofs.replay.push_outcomes.Given as goal

abbrev pub invariant-loop-step : goal.invariant-loop-step
invariant-loop-step l = record {
  so_far : (table : Table) → StandsFor l.fn.kernel table → IsReplayed table l.steps l.step-index l.kernel l.replies.items l.currents.items;
  counted : (table : Table) → StandsFor l.fn.kernel table → IsTallied l.fn.kernel.settings table l.steps l.step-index l.tallies;
  settings : l.kernel.settings ≡ l.fn.kernel.settings;
  tops : HasTops l.kernel.control l.tallies;
  replied : vec_len l.replies ≡ l.step-index;
  reply_room : vec_capacity l.replies ≡ vec_capacity l.fn.replies;
  left : vec_len l.currents ≡ l.step-index;
  current_room : vec_capacity l.currents ≡ vec_capacity l.fn.currents;
  meter : l.meter ≡ meter_after l.step-index l.fn.meter;
}
