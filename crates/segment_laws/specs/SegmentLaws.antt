-- The laws of segments. Each is a clause of a public function.
use Rattle.std.specs.Prelude.{◌≡◌, ◌⊎◌, ℕ, ◌+◌, ◌-◌, ◌*◌, ◌<◌, ◌≤◌, List, [], ◌∷◌, ◌++◌, length, take, drop, replicate, Some, Ok, slice_get, All, false}
use Rattle.bench_types.specs.declared.edit.Edit.{Edit}
use Rattle.bench_types.specs.declared.step.Step.{Step}
use Rattle.bench_types.specs.declared.reply.Reply.{Reply}
use Rattle.bench_types.specs.Edit.{IsEditOfWords}
use Rattle.bench_types.specs.Session.{Session, IsSession}
use Rattle.bench_types.specs.Step.{IsCheckedStep}
use Rattle.bench_model.specs.Edits.{accepted, edited}
use Rattle.bench_model.specs.Equal.{StandsFor}
use Rattle.bench_model.specs.Lists.{View}
use Rattle.bench_model.specs.Meeting.{CheckpointedSession, last_place, first_checkpoints, place_of, replayed_from, met, kept_after}
use Rattle.bench_model.specs.Session.{state_after, state_at, reply_at, running_at}
use Rattle.bench_model.specs.Shifted.{shifted, some_delays_until}
use Rattle.bench_model.specs.Table.{Table}
use Rattle.bench_model.specs.Tally.{TaskTally}
use Rattle.meeting_laws.specs.CheckpointLaws.{AreCheckpoints}
use Rattle.segment_laws.specs.EditedSegments.{IsSplitAt, AreSplit, AreUnmet, AreReplayed}
use Rattle.segment_laws.specs.Segments.{SegmentView, all_steps, later_segments, starts, Follow, AreSegments, IsIndexOf, AreResults, reply_after, running_after}

-- the segment from the last checkpoint before a place tells what the session has at the place
pub record IsReadAt (session : Session) (place from : ℕ) (segment : SegmentView) : Type 0 where
  pub stands : StandsFor segment.kernel (state_at session.header session.steps from)
  pub state :
      state_at session.header session.steps place
      ≡ state_after (state_at session.header session.steps from) (take (place - from) segment.steps)
  pub step : slice_get session.steps place ≡ slice_get segment.steps (place - from)
  pub reply :
      reply_at session.header session.steps place
      ≡ reply_after (state_at session.header session.steps from) segment.steps (place - from)
  pub row :
      running_at session.header session.steps place
      ≡ running_after (state_at session.header session.steps from) segment.steps (place - from)
  pub within : place ≤ last_place session → place - from ≤ length segment.steps
  pub past : last_place session < place → length segment.steps < place - from

abbrev pub PlacesAreRead : Type 0
PlacesAreRead =
    (kept : CheckpointedSession) (segments : List SegmentView) (place index from : ℕ)
    (segment : SegmentView) → AreSegments kept segments
    → IsIndexOf kept.checkpoints place index from → slice_get segments index ≡ Some segment
    → IsReadAt kept.session place from segment

-- the kernel of a segment stands for the table after the steps of those before it
abbrev pub SegmentFollows : Type 0
SegmentFollows =
    (table : Table) (segments : List SegmentView) (index : ℕ) (segment : SegmentView)
    → Follow table segments → slice_get segments index ≡ Some segment
    → StandsFor segment.kernel (state_after table (all_steps (take index segments)))

-- what steps on a kernel led to, they lead to so many ticks later, where none reads the tick count
abbrev pub ResultsStayLater : Type 0
ResultsStayLater =
    (by : ℕ) (kernel : View) (steps : List Step) (table : Table) (replies : List Reply)
    (currents : List ℕ) (tallies : List TaskTally) → StandsFor kernel table
    → All (IsCheckedStep kernel.settings) steps → some_delays_until steps ≡ false
    → AreResults kernel steps replies currents tallies
    → AreResults (shifted by kernel) steps replies currents tallies

-- a session that is opened is cut at each span before its last place
abbrev pub OpenedPlacesAreFirst : Type 0
OpenedPlacesAreFirst =
    (span : ℕ) (session : Session) (full rest : ℕ) → 1 ≤ span → rest ≤ span
    → ((1 ≤ rest) ⊎ (full ≡ 0)) → full * span + rest ≡ last_place session
    → starts 0 (replicate full span ++ rest ∷ []) ≡ first_checkpoints span session

-- the segment from the last checkpoint before an edit is the one with its place
pub record IsFoundPart (edit : Edit) (segments : List SegmentView) (index from : ℕ)
    (part : SegmentView) : Type 0 where
  pub split : IsSplitAt edit segments (take index segments) part (drop (index + 1) segments)
  pub begins : length (all_steps (take index segments)) ≡ from

abbrev pub PartsAreFound : Type 0
PartsAreFound =
    (kept : CheckpointedSession) (segments : List SegmentView) (edit : Edit) (index from : ℕ)
    (part : SegmentView) → AreSegments kept segments
    → IsIndexOf kept.checkpoints (place_of edit) index from → slice_get segments index ≡ Some part
    → IsFoundPart edit segments index from part

-- where an edit leaves the header, the kernel of its segment stands for the edited session too
abbrev pub PartStandsStill : Type 0
PartStandsStill =
    (kept : CheckpointedSession) (edit : Edit) (segments before : List SegmentView)
    (part : SegmentView) (after : List SegmentView) → AreSegments kept segments
    → accepted kept.session edit ≡ Ok tt
    → (edited edit kept.session).header ≡ kept.session.header
    → IsSplitAt edit segments before part after →
    StandsFor part.kernel
    (state_at (edited edit kept.session).header (edited edit kept.session).steps
    (length (all_steps before)))

-- the segments after an edit, of which those that were made were replayed
pub record IsEdited (kept : CheckpointedSession) (edit : Edit)
    (before made rest : List SegmentView) : Type 0 where
  pub segments : AreSegments (kept_after edit kept) (before ++ made ++ rest)
  pub from : length (all_steps before) ≡ replayed_from kept edit
  pub met : length (all_steps before) + length (all_steps made) ≡ met kept edit

abbrev pub EditedSegmentsStand : Type 0
EditedSegmentsStand =
    (kept : CheckpointedSession) (edit : Edit) (segments before : List SegmentView)
    (steps : List Step) (after made : List SegmentView) (count by : ℕ) → IsSession kept.session
    → IsEditOfWords edit → accepted kept.session edit ≡ Ok tt → 1 ≤ kept.span
    → AreCheckpoints kept.span (last_place kept.session) kept.checkpoints
    → AreSegments kept segments → AreSplit edit segments before steps after →
    AreReplayed kept.span
    (state_at (edited edit kept.session).header (edited edit kept.session).steps
    (length (all_steps before))) steps after made count by
    → IsEdited kept edit before made (later_segments by (drop count after))

-- a replay ends no earlier than after the segments that it doesn't meet
abbrev pub UnmetAreReplayed : Type 0
UnmetAreReplayed =
    (kept : CheckpointedSession) (edit : Edit) (segments before : List SegmentView)
    (steps : List Step) (after : List SegmentView) (count : ℕ)
    → accepted kept.session edit ≡ Ok tt → 1 ≤ kept.span
    → AreCheckpoints kept.span (last_place kept.session) kept.checkpoints
    → AreSegments kept segments → AreSplit edit segments before steps after →
    AreUnmet
    (state_at (edited edit kept.session).header (edited edit kept.session).steps
    (length (all_steps before))) steps after count
    → length (all_steps before) + length steps + length (all_steps (take count after))
    ≤ met kept edit
