-- Sums of the tallies of a session's segments, which are made once for many trials.
use Rattle.std.specs.Prelude.{◌≡◌, ℕ, ◌*◌, ◌<◌, ◌≤◌, List, ◌++◌, length, take, drop, Some, slice_get}
use Rattle.bench_types.specs.declared.header.Header.{Header}
use Rattle.bench_types.specs.Session.{Session}
use Rattle.bench_types.specs.Step.{settings_of}
use Rattle.bench_model.specs.Meeting.{CheckpointedSession}
use Rattle.bench_model.specs.Session.{state_at}
use Rattle.bench_model.specs.Tallied.{part_tallies}
use Rattle.bench_model.specs.Tally.{TaskTally, tallies}
use Rattle.segment_laws.specs.Segments.{SegmentView}
use Rattle.session_store.specs.Trials.{AreTallied, AreTalliedFrom, IsReplay}

-- from one checkpoint of which there are sums to the next there are so many
abbrev pub block : ℕ
block = 16

-- how the tasks fared up to some checkpoints, and from each of them on
pub record CheckpointSums : Type 0 where
  pub before : List (List TaskTally)
  pub after : List (List TaskTally)

-- how each task fares in the steps from the place on
abbrev pub tallies_from : Session → ℕ → List TaskTally
tallies_from session place =
    part_tallies (settings_of session.header) (state_at session.header session.steps place)
    (drop place session.steps)

-- At the first checkpoint, which is the start, and at each one that comes so many checkpoints after
-- another of these, there are two sums: of the steps before it, and of those after it.
pub record AreSumsOf (kept : CheckpointedSession) (sums : CheckpointSums) : Type 0 where
  pub before :
      (k place : ℕ) (sum : List TaskTally) → slice_get kept.checkpoints (k * block) ≡ Some place
      → slice_get sums.before k ≡ Some sum
      → sum ≡ tallies kept.session.header (take place kept.session.steps)
  pub after :
      (k place : ℕ) (sum : List TaskTally) → slice_get kept.checkpoints (k * block) ≡ Some place
      → slice_get sums.after k ≡ Some sum → sum ≡ tallies_from kept.session place
  pub all :
      (k : ℕ) → k * block < length kept.checkpoints
      → (k < length sums.before) × (k < length sums.after)

-- the sums before checkpoints, by the segments of the replay that they are of
pub record AreSumsBefore (header : Header) (segments : List SegmentView)
    (sums : List (List TaskTally)) : Type 0 where
  pub each :
      (k : ℕ) (sum : List TaskTally) → k * block < length segments → slice_get sums k ≡ Some sum
      → AreTallied header (take (k * block) segments) sum
  pub all : (k : ℕ) → k * block < length segments → k < length sums

-- the sums after checkpoints
pub record AreSumsAfter (header : Header) (segments : List SegmentView)
    (sums : List (List TaskTally)) : Type 0 where
  pub each :
      (k : ℕ) (sum : List TaskTally) → k * block < length segments → slice_get sums k ≡ Some sum
      → AreTalliedFrom header (take (k * block) segments) (drop (k * block) segments) sum
  pub all : (k : ℕ) → k * block < length segments → k < length sums

pub record AreSums (header : Header) (segments : List SegmentView)
    (sums : CheckpointSums) : Type 0 where
  pub before : AreSumsBefore header segments sums.before
  pub after : AreSumsAfter header segments sums.after

-- the segments of some replay, with sums of it
pub record HasSums (segments : List SegmentView) (sums : CheckpointSums) : Type 0 where
  pub header : Header
  pub replay : IsReplay header segments
  pub are_sums : AreSums header segments sums

-- some first segments of a replay, with sums of it before checkpoints among them
pub record HasSumsInFront (front : List SegmentView) (sums : CheckpointSums) : Type 0 where
  pub header : Header
  pub rest : List SegmentView
  pub replay : IsReplay header (front ++ rest)
  pub are_sums : AreSumsBefore header front sums.before

-- the tallies of some replay's segments from an index on, which is not before this one
pub record IsSumFrom (segments : List SegmentView) (from : ℕ) (sum : List TaskTally)
    (next : ℕ) : Type 0 where
  pub header : Header
  pub replay : IsReplay header segments
  pub order : from ≤ next
  pub within : next < length segments
  pub tallied : AreTalliedFrom header (take next segments) (drop next segments) sum
