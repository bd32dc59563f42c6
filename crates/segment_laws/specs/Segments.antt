-- Segments of a session: the steps from one checkpoint to the next, with the kernel at the first.
use Rattle.std.specs.Prelude.{◌≡◌, ℕ, ◌+◌, ◌<◌, ◌≤◌, ⊤, List, [], ◌∷◌, ◌==◌, length, map, take, Option, Some, None, nat_le, if◌then◌else◌, option_map}
use Rattle.std.specs.Prelude.{slice_get}
use Rattle.std.specs.List.{flat_map}
use Rattle.bench_types.specs.declared.kernel_data.Settings.{Settings}
use Rattle.bench_types.specs.declared.reply.Reply.{Reply}
use Rattle.bench_types.specs.declared.step.Step.{Step}
use Rattle.bench_types.specs.Step.{core_of}
use Rattle.bench_model.specs.Control.{current, running}
use Rattle.bench_model.specs.Equal.{StandsFor}
use Rattle.bench_model.specs.Lists.{View}
use Rattle.bench_model.specs.Meeting.{CheckpointedSession}
use Rattle.bench_model.specs.Session.{step_of, state_after, run_results}
use Rattle.bench_model.specs.Shifted.{shifted}
use Rattle.bench_model.specs.Start.{start}
use Rattle.bench_model.specs.Table.{Table}
use Rattle.bench_model.specs.Tallied.{part_tallies, shape, shape_of}
use Rattle.bench_model.specs.Tally.{TaskTally}

pub record SegmentView : Type 0 where
  -- what can be seen of the kernel at the checkpoint
  pub kernel : View
  pub steps : List Step

abbrev pub steps_of : SegmentView → List Step
steps_of segment = segment.steps

-- the steps of the segments, one segment after another
abbrev pub all_steps : List SegmentView → List Step
all_steps segments = flat_map steps_of segments

abbrev pub lengths : List SegmentView → List ℕ
lengths segments = map (λ segment. length segment.steps) segments

-- the segment with a kernel that is so many ticks later
abbrev pub later_segment : ℕ → SegmentView → SegmentView
later_segment by segment = record segment { kernel = shifted by segment.kernel }

-- the segments so many ticks later, or as they are
abbrev pub later_segments : ℕ → List SegmentView → List SegmentView
later_segments by segments = if by == 0 then segments else map (later_segment by) segments

-- the places where parts of these lengths begin, the first of them at the place
abbrev pub starts : ℕ → List ℕ → List ℕ
starts place [] = []
starts place (steps ∷ lengths) = place ∷ starts (place + steps) lengths

-- each segment's kernel stands for the table that those before it left
abbrev pub Follow : Table → List SegmentView → Type 0
Follow table [] = ⊤
Follow table (segment ∷ segments) =
    StandsFor segment.kernel table × Follow (state_after table segment.steps) segments

-- the segments are those of the session between its checkpoints
pub record AreSegments (kept : CheckpointedSession) (segments : List SegmentView) : Type 0 where
  pub steps : all_steps segments ≡ kept.session.steps
  pub places : starts 0 (lengths segments) ≡ kept.checkpoints
  pub follow : Follow (start kept.session.header) segments

-- the checkpoint at the index is the last that is not after the place
pub record IsIndexOf (checkpoints : List ℕ) (place index from : ℕ) : Type 0 where
  pub there : slice_get checkpoints index ≡ Some from
  pub before : from ≤ place
  pub last : (next : ℕ) → slice_get checkpoints (index + 1) ≡ Some next → place < next

-- the reply of the step after so many, from a table on; none past the last
abbrev pub reply_after : Table → List Step → ℕ → Option Reply
reply_after table steps count =
    option_map (λ step. (step_of step (state_after table (take count steps))).0)
    (slice_get steps count)

-- for each step the current task of the core that made it, after it, from a table on
abbrev pub currents_after : Table → List Step → List ℕ
currents_after table [] = []
currents_after table (step ∷ steps) =
    let next = (step_of step table).1 in
    current next.control (core_of step) ∷ currents_after next steps

-- the tasks that run after so many steps from a table on, core by core; none past the last
abbrev pub running_after : Table → List Step → ℕ → Option (List ℕ)
running_after table steps count = let after = state_after table (take count steps) in
    if nat_le count (length steps) then Some (running after.control) else None

-- the replies of the steps from a table on, the current task of each step's core after it, and the
-- tallies of the steps
pub record IsReplayedFrom (table : Table) (settings : Settings) (steps : List Step)
    (replies : List Reply) (currents : List ℕ) (tallies : List TaskTally) : Type 0 where
  pub replies_are : replies ≡ map (λ outcome. outcome.0) (run_results table steps)
  pub currents_are : currents ≡ currents_after table steps
  pub tallies_are : tallies ≡ part_tallies settings table steps

-- what steps on a kernel led to
pub record AreResults (kernel : View) (steps : List Step) (replies : List Reply) (currents : List ℕ)
    (tallies : List TaskTally) : Type 0 where
  pub sizes : shape tallies ≡ shape_of kernel.settings
  pub outcomes :
      (table : Table) → StandsFor kernel table
      → IsReplayedFrom table kernel.settings steps replies currents tallies
