-- What replays of segments lead to.
use Rattle.std.specs.Prelude.{◌≡◌, ℕ, ◌+◌, ◌*◌, ◌<◌, ◌≤◌, ⊤, List, ◌++◌, length, map, take, drop, replicate}
use Rattle.bench_types.specs.declared.edit.Edit.{Edit}
use Rattle.bench_types.specs.declared.edit.Edit.TheVariants.{Insert, Remove, Replace, ChangeTask}
use Rattle.bench_types.specs.declared.step.Step.{Step}
use Rattle.bench_types.specs.Session.{Session}
use Rattle.bench_types.specs.Step.{settings_of}
use Rattle.bench_model.specs.Edits.{edited}
use Rattle.bench_model.specs.Equal.{StandsFor}
use Rattle.bench_model.specs.Lists.{View}
use Rattle.bench_model.specs.Meeting.{CheckpointedSession}
use Rattle.bench_model.specs.Session.{state_at}
use Rattle.bench_model.specs.Table.{Table}
use Rattle.segment_laws.specs.EditedSegments.{AreSplit}
use Rattle.segment_laws.specs.Segments.{SegmentView, steps_of, all_steps, later_segments, lengths, Follow}
use Rattle.segment_laws.specs.SegmentLaws.{IsEdited}

-- segments of these steps, each from the state that the one before it left
pub record AreMade (table : Table) (parts : List (List Step))
    (made : List SegmentView) : Type 0 where
  pub parts_are : map steps_of made ≡ parts
  pub follow : Follow table made

-- the first so many spans of the steps, a segment each
pub record AreSpans (table : Table) (span full : ℕ) (steps : List Step)
    (made : List SegmentView) : Type 0 where
  pub steps_are : all_steps made ≡ take (full * span) steps
  pub lengths_are : lengths made ≡ replicate full span
  pub follow : Follow table made

-- the edit is of a step of a part with this place and length
abbrev pub IsEditAmong : Edit → ℕ → ℕ → Type 0
IsEditAmong (Insert at step) from count = (from ≤ at) × (at ≤ from + count)
IsEditAmong (Remove at) from count = (from ≤ at) × (at < from + count)
IsEditAmong (Replace at step) from count = (from ≤ at) × (at < from + count)
IsEditAmong (ChangeTask task priority mask) from count = ⊤

abbrev pub IsStepEdit : Edit → Type 0
IsStepEdit (Insert at step) = ⊤
IsStepEdit (Remove at) = ⊤
IsStepEdit (Replace at step) = ⊤
IsStepEdit (ChangeTask task priority mask) = ⊥

abbrev pub IsTaskEdit : Edit → Type 0
IsTaskEdit (Insert at step) = ⊥
IsTaskEdit (Remove at) = ⊥
IsTaskEdit (Replace at step) = ⊥
IsTaskEdit (ChangeTask task priority mask) = ⊤

-- The edited steps of the segment with the place of an edit, which has the index before; the
-- segments from the index after on are those after it. The kernel stands for the state of the
-- edited session where that segment begins.
pub record IsEditedSegment (session : Session) (edit : Edit) (segments : List SegmentView)
    (kernel : View) (steps : List Step) (before after : ℕ) : Type 0 where
  pub order : before ≤ after
  pub within : after ≤ length segments
  pub split : AreSplit edit segments (take before segments) steps (drop after segments)
  pub stands :
      StandsFor kernel
      (state_at (edited edit session).header (edited edit session).steps
      (length (all_steps (take before segments))))
  pub settings : kernel.settings ≡ settings_of session.header

-- the segments that take the place of those between the two indices; those behind are so many ticks
-- later
pub record IsEditReplay (kept : CheckpointedSession) (edit : Edit)
    (segments made : List SegmentView) (before after by : ℕ) : Type 0 where
  pub order : before ≤ after
  pub within : after ≤ length segments
  pub edited :
      IsEdited kept edit (take before segments) made (later_segments by (drop after segments))

-- the segments of an edited session: those that stay, and the ones that were replayed
pub record AreRemade (kept : CheckpointedSession) (edit : Edit) (old new : List SegmentView)
    : Type 0 where
  pub made : List SegmentView
  pub before : ℕ
  pub after : ℕ
  pub by : ℕ
  pub whole : new ≡ take before old ++ made ++ later_segments by (drop after old)
  pub replay : IsEditReplay kept edit old made before after by
