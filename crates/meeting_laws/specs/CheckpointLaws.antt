-- The laws of checkpoints. Each is a clause of a public function.
use Rattle.std.specs.Prelude.{◌≡◌, ◌⊎◌, ◌↔◌, ℕ, ◌+◌, ◌-◌, ◌*◌, ◌<◌, ◌≤◌, List, true, All, Some, Ok, slice_get}
use Rattle.std.specs.List.Sorted.{IsStrictlyIncreasing}
use Rattle.bench_types.specs.declared.edit.Edit.{Edit}
use Rattle.bench_types.specs.Session.{Session}
use Rattle.list_orders.specs.Search.{has}
use Rattle.bench_model.specs.Edits.{accepted, edited}
use Rattle.bench_model.specs.Meeting.{CheckpointedSession, last_place, checkpoint_before, first_checkpoints, place_of, moved_place, is_compared, replayed_from}
use Rattle.bench_model.specs.Meeting.{met, moved_checkpoints, segment_end, next_checkpoints}

-- they begin with the start and ascend to the last place at most, and each segment is shorter than
-- two spans
pub record AreCheckpoints (span last : ℕ) (checkpoints : List ℕ) : Type 0 where
  pub start : slice_get checkpoints 0 ≡ Some 0
  pub ascend : IsStrictlyIncreasing checkpoints
  pub within : All (λ checkpoint. checkpoint ≤ last) checkpoints
  pub short :
      (checkpoint : ℕ) → has checkpoint checkpoints ≡ true
      → segment_end last checkpoints checkpoint < checkpoint + 2 * span

-- those of a session that is opened
abbrev pub FirstCheckpointsFit : Type 0
FirstCheckpointsFit =
    (span : ℕ) (session : Session) → 1 ≤ span
    → AreCheckpoints span (last_place session) (first_checkpoints span session)

-- and those after an edit
abbrev pub NextCheckpointsFit : Type 0
NextCheckpointsFit =
    (kept : CheckpointedSession) (edit : Edit) → 1 ≤ kept.span
    → accepted kept.session edit ≡ Ok tt
    → AreCheckpoints kept.span (last_place kept.session) kept.checkpoints
    → AreCheckpoints kept.span (last_place (edited edit kept.session)) (next_checkpoints kept edit)

-- so each place is fewer than two spans after the last checkpoint before it
abbrev pub PlacesAreNear : Type 0
PlacesAreNear =
    (span last : ℕ) (checkpoints : List ℕ) (place : ℕ) → 1 ≤ span
    → AreCheckpoints span last checkpoints → place ≤ last →
    place < checkpoint_before checkpoints place + 2 * span

-- a checkpoint of the session has moved to the place
abbrev pub IsMoved : CheckpointedSession → Edit → ℕ → Type 0
IsMoved kept edit place =
    (checkpoint : ℕ) × (has checkpoint kept.checkpoints ≡ true)
    × (moved_place edit checkpoint ≡ place)

-- the place is a span after the begin of the replay, whose segment has come to two spans
abbrev pub IsAdded : CheckpointedSession → Edit → ℕ → Type 0
IsAdded kept edit place = let from = replayed_from kept edit in
    (place ≡ from + kept.span)
    × (from + 2 * kept.span
    ≤ segment_end (last_place (edited edit kept.session)) (moved_checkpoints kept edit) from)

-- the checkpoints of the edited session are just these
abbrev pub NextAreThese : Type 0
NextAreThese =
    (kept : CheckpointedSession) (edit : Edit) (place : ℕ) → 1 ≤ kept.span
    → accepted kept.session edit ≡ Ok tt
    → AreCheckpoints kept.span (last_place kept.session) kept.checkpoints →
    (has place (next_checkpoints kept edit) ≡ true)
    ↔ (IsMoved kept edit place ⊎ IsAdded kept edit place)

-- a checkpoint that is added lies a span or more before the end of the replay
abbrev pub AddedIsReplayed : Type 0
AddedIsReplayed =
    (kept : CheckpointedSession) (edit : Edit) (place : ℕ) → 1 ≤ kept.span
    → accepted kept.session edit ≡ Ok tt
    → AreCheckpoints kept.span (last_place kept.session) kept.checkpoints
    → IsAdded kept edit place → place + kept.span ≤ met kept edit

-- two lists of ascending places that have the same places are one
abbrev pub AscendingAreOne : Type 0
AscendingAreOne =
    (xs ys : List ℕ) → IsStrictlyIncreasing xs → IsStrictlyIncreasing ys
    → ((place : ℕ) → (has place xs ≡ true) ↔ (has place ys ≡ true)) → xs ≡ ys

-- the last of the checkpoints that are not after the place
pub record IsLastBefore (checkpoints : List ℕ) (place checkpoint : ℕ) : Type 0 where
  pub listed : has checkpoint checkpoints ≡ true
  pub before : checkpoint ≤ place
  pub last : (other : ℕ) → has other checkpoints ≡ true → other ≤ place → other ≤ checkpoint

-- where one of the checkpoints is the start, there is a last one before each place
abbrev pub CheckpointBeforeIsLast : Type 0
CheckpointBeforeIsLast =
    (checkpoints : List ℕ) (place : ℕ) → has 0 checkpoints ≡ true
    → IsLastBefore checkpoints place (checkpoint_before checkpoints place)

-- later places stay as far after a compared one as they were
abbrev pub LaterPlacesMoveAlike : Type 0
LaterPlacesMoveAlike =
    (edit : Edit) (place later : ℕ) → is_compared edit place ≡ true → place ≤ later
    → moved_place edit later ≡ moved_place edit place + (later - place)

-- the replay ends after it begins, and within the edited session
abbrev pub ReplayIsWithin : Type 0
ReplayIsWithin =
    (kept : CheckpointedSession) (edit : Edit) → accepted kept.session edit ≡ Ok tt
    → (replayed_from kept edit ≤ met kept edit)
    × (met kept edit ≤ last_place (edited edit kept.session))

-- a place where both sessions are compared lies in the edited session after the edit, or on it
abbrev pub MovedPlacesAreWithin : Type 0
MovedPlacesAreWithin =
    (session : Session) (edit : Edit) (place : ℕ) → accepted session edit ≡ Ok tt
    → place ≤ last_place session → is_compared edit place ≡ true →
    (place_of edit ≤ moved_place edit place)
    × (moved_place edit place ≤ last_place (edited edit session))
