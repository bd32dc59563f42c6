use Rattle.std.proofs.Common.{◌≡◌, ◌≤◌, false, drop, length}
use Rattle.bench_model.specs.Shifted.{some_delays_until}
use Rattle.segment_laws.specs.Segments.{all_steps}
use Rattle.session_segments.proofs.meeting.unread_from.Given as goal

abbrev pub invariant-loop-from : goal.invariant-loop-from
invariant-loop-from g l = record {
  within : l.from ≤ length l.segments;
  unread : some_delays_until (all_steps (drop l.from l.segments)) ≡ false;
}

abbrev pub decreases-loop-from : goal.decreases-loop-from
decreases-loop-from g l = l.from
