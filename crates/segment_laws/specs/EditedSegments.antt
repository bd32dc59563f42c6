-- Segments of an edited session: one is split from the others, edited and cut, and those after it
-- are replayed up to the first whose kernel the replay comes to, but for a tick count that no later
-- step reads.
use Rattle.std.specs.Prelude.{◌≡◌, ℕ, ◌+◌, ◌-◌, ◌*◌, ◌<◌, ◌≤◌, List, [], ◌∷◌, ◌++◌, length, map, take, drop, insert, remove, Bool, true, false, not, ◌&&◌}
use Rattle.std.specs.Prelude.{nat_le, if◌then◌else◌, slice_set, slice_get, Some}
use Rattle.bench_types.specs.declared.edit.Edit.{Edit}
use Rattle.bench_types.specs.declared.edit.Edit.TheVariants.{Insert, Remove, Replace, ChangeTask}
use Rattle.bench_types.specs.declared.step.Step.{Step}
use Rattle.bench_model.specs.Equal.{StandsFor}
use Rattle.bench_model.specs.Meeting.{place_of}
use Rattle.bench_model.specs.Session.{state_after}
use Rattle.bench_model.specs.Shifted.{is_met}
use Rattle.bench_model.specs.Table.{Table}
use Rattle.meeting_laws.specs.RunLaws.{MeetBy}
use Rattle.segment_laws.specs.Segments.{SegmentView, steps_of, all_steps, Follow}

-- the steps of a segment that begins at the place, after an edit of one of them
abbrev pub edited_part : Edit → ℕ → List Step → List Step
edited_part (Insert at step) from steps = insert steps (at - from) step
edited_part (Remove at) from steps = remove steps (at - from)
edited_part (Replace at step) from steps = slice_set steps (at - from) step
edited_part (ChangeTask task priority mask) from steps = steps

-- the segment is the one with the place of the edit
pub record IsSplitAt (edit : Edit) (segments before : List SegmentView) (part : SegmentView)
    (after : List SegmentView) : Type 0 where
  pub whole : segments ≡ before ++ part ∷ after
  pub from : length (all_steps before) ≤ place_of edit
  pub within :
      (next : SegmentView) (rest : List SegmentView) → after ≡ next ∷ rest
      → place_of edit < length (all_steps before) + length part.steps

-- The segments before the edit, the edited steps and the segments after them; where a task is
-- changed, all segments are after the edit.
abbrev pub AreSplit :
    Edit → List SegmentView → List SegmentView → List Step → List SegmentView → Type 0
AreSplit (ChangeTask task priority mask) segments before steps after =
    (before ≡ []) × (steps ≡ []) × (after ≡ segments)
AreSplit (Insert at step) segments before steps after =
    (part : SegmentView) × IsSplitAt (Insert at step) segments before part after
    × (steps ≡ edited_part (Insert at step) (length (all_steps before)) part.steps)
AreSplit (Remove at) segments before steps after =
    (part : SegmentView) × IsSplitAt (Remove at) segments before part after
    × (steps ≡ edited_part (Remove at) (length (all_steps before)) part.steps)
AreSplit (Replace at step) segments before steps after =
    (part : SegmentView) × IsSplitAt (Replace at step) segments before part after
    × (steps ≡ edited_part (Replace at step) (length (all_steps before)) part.steps)

abbrev pub is_empty : List Step → Bool
is_empty [] = true
is_empty (step ∷ steps) = false

abbrev pub has_none : List SegmentView → Bool
has_none [] = true
has_none (segment ∷ segments) = false

-- Two spans or more are cut after the first span. No steps are a segment only where no other comes
-- after them.
abbrev pub cut : ℕ → Bool → List Step → List (List Step)
cut span is_last steps =
    if nat_le (2 * span) (length steps) then take span steps ∷ drop span steps ∷ []
    else if is_empty steps && not is_last then [] else steps ∷ []

-- after the steps from a table on, none of the first so many segments begins with a kernel that the
-- replay meets
abbrev pub AreUnmet : Table → List Step → List SegmentView → ℕ → Type 0
AreUnmet table steps after count =
    (i : ℕ) (segment : SegmentView) (old : Table) → i < count → slice_get after i ≡ Some segment
    → StandsFor segment.kernel old →
    is_met old (state_after table (steps ++ all_steps (take i after))) (all_steps (drop i after))
    ≡ false

-- the segment at the index, if there is one, begins with a kernel that the replay meets, so many
-- ticks later
abbrev pub IsMetAt : Table → List Step → List SegmentView → ℕ → ℕ → Type 0
IsMetAt table steps after count by =
    (segment : SegmentView) (old : Table) → slice_get after count ≡ Some segment
    → StandsFor segment.kernel old →
    MeetBy by old (state_after table (steps ++ all_steps (take count after)))
    (all_steps (drop count after))

-- The segments that a replay of the steps from a table on made, with the steps of so many of the
-- segments after them: it ended at the first that begins with a kernel which it meets, so many
-- ticks later, or at the last.
pub record AreReplayed (span : ℕ) (table : Table) (steps : List Step)
    (after made : List SegmentView) (count by : ℕ) : Type 0 where
  pub within : count ≤ length after
  pub parts :
      map steps_of made ≡ cut span (has_none after) steps ++ map steps_of (take count after)
  pub follow : Follow table made
  pub unmet : AreUnmet table steps after count
  pub met : IsMetAt table steps after count by
