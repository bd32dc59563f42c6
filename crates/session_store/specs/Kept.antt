-- What the fields of a store keep.
use Rattle.std.specs.Prelude.{◌≡◌, ℕ, ◌≤◌, List, length, true}
use Rattle.bench_types.specs.declared.header.Header.{Header}
use Rattle.bench_types.specs.Limits.{max_span, max_steps}
use Rattle.bench_types.specs.Name.{is_within}
use Rattle.bench_types.specs.Session.{Session, IsSession}
use Rattle.bench_model.specs.Meeting.{CheckpointedSession}
use Rattle.bench_model.specs.Start.{start}
use Rattle.meeting_laws.specs.CheckpointLaws.{AreCheckpoints}
use Rattle.segment_laws.specs.Segments.{SegmentView, all_steps, lengths, starts, Follow}

abbrev pub session_of : Header → List SegmentView → Session
session_of header segments = record { header = header; steps = all_steps segments }

-- the session of the segments, with a checkpoint where each begins
abbrev pub kept_of : Header → ℕ → List SegmentView → CheckpointedSession
kept_of header span segments = record {
  session = session_of header segments;
  span = span;
  checkpoints = starts 0 (lengths segments);
}

-- a session that is not too long, and its replay from the start in segments
pub record IsKept (header : Header) (span : ℕ) (segments : List SegmentView) : Type 0 where
  pub session : IsSession (session_of header segments)
  pub few_steps : length (all_steps segments) ≤ max_steps
  pub span_fits : is_within 1 max_span span ≡ true
  pub checkpoints :
      AreCheckpoints span (length (all_steps segments)) (starts 0 (lengths segments))
  pub follow : Follow (start header) segments
