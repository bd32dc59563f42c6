-- What an edit makes of the checkpoints of a session, the places whose kernels are kept, and which
-- steps are replayed for it: from a checkpoint before the edit to the first one after it from which
-- the edited session goes on as the session did, its tick count aside where no step reads it.
use Rattle.std.specs.Prelude.{ℕ, suc, ◌+◌, ◌-◌, ◌*◌, ◌%◌, List, length, map, filter, fold, drop, min, max, Bool, true, ◌&&◌, ◌||◌, ◌==◌, nat_lt, nat_le}
use Rattle.std.specs.Prelude.{if◌then◌else◌}
use Rattle.std.specs.List.{list_any}
use Rattle.bench_types.specs.declared.edit.Edit.{Edit}
use Rattle.bench_types.specs.declared.edit.Edit.TheVariants.{Insert, Remove, Replace, ChangeTask}
use Rattle.bench_types.specs.Session.{Session}
use Rattle.list_orders.specs.Search.{numbers, has}
use Rattle.bench_model.specs.Edits.{edited}
use Rattle.bench_model.specs.Session.{state_at}
use Rattle.bench_model.specs.Shifted.{is_met}
use Rattle.bench_model.specs.Tally.{greatest}

-- a session with its checkpoints, in ascending order; the span says about how many steps lie
-- between two of them
pub record CheckpointedSession : Type 0 where
  pub session : Session
  pub span : ℕ
  pub checkpoints : List ℕ

-- the last place of a session
abbrev pub last_place : Session → ℕ
last_place session = length session.steps

-- the least of the places, and at most the last one
abbrev pub least : ℕ → List ℕ → ℕ
least last places = fold min last places

-- at the opening: the start, and the multiples of the span before the last place
abbrev pub first_checkpoints : ℕ → Session → List ℕ
first_checkpoints span session =
    filter (λ place. place % span == 0) (numbers (max 1 (last_place session)))

abbrev pub first_kept : ℕ → Session → CheckpointedSession
first_kept span session =
    record { session = session; span = span; checkpoints = first_checkpoints span session }

-- the last checkpoint that is not after a place
unfoldable pub checkpoint_before : List ℕ → ℕ → ℕ
checkpoint_before checkpoints place =
    greatest (filter (λ checkpoint. nat_le checkpoint place) checkpoints)

-- the place before the step that is edited; a task is changed at the start
abbrev pub place_of : Edit → ℕ
place_of (Insert at step) = at
place_of (Remove at) = at
place_of (Replace at step) = at
place_of (ChangeTask task priority mask) = 0

-- where a place of the session lies in the edited one: those after the edit move with their steps
abbrev pub moved_place : Edit → ℕ → ℕ
moved_place (Insert at step) place = if nat_lt at place then place + 1 else place
moved_place (Remove at) place = if nat_lt at place then place - 1 else place
moved_place (Replace at step) place = place
moved_place (ChangeTask task priority mask) place = place

-- the places where the two sessions may go on alike: those after the edited step, and all where a
-- task is changed
abbrev pub is_compared : Edit → ℕ → Bool
is_compared (Insert at step) place = nat_lt at place
is_compared (Remove at) place = nat_lt at place
is_compared (Replace at step) place = nat_lt at place
is_compared (ChangeTask task priority mask) place = true

-- from the place of the session, and from where it lies in the edited one, both go on alike
abbrev pub goes_on_alike : Session → Edit → ℕ → Bool
goes_on_alike session edit place =
    let next = edited edit session in
    is_met (state_at session.header session.steps place)
    (state_at next.header next.steps (moved_place edit place))
    (drop (moved_place edit place) next.steps)

-- Where the replay begins: at the last checkpoint that is not after the edit.
abbrev pub replayed_from : CheckpointedSession → Edit → ℕ
replayed_from kept edit = checkpoint_before kept.checkpoints (place_of edit)

-- the checkpoints where both sessions are compared and go on alike
abbrev pub meetings : CheckpointedSession → Edit → List ℕ
meetings kept edit =
    filter (λ place. is_compared edit place && goes_on_alike kept.session edit place)
    kept.checkpoints

-- Where the replay ends, as a place of the edited session: at the first of these, or at the end.
unfoldable pub met : CheckpointedSession → Edit → ℕ
met kept edit =
    least (last_place (edited edit kept.session)) (map (moved_place edit) (meetings kept edit))

-- how many steps are replayed
abbrev pub replayed : CheckpointedSession → Edit → ℕ
replayed kept edit = met kept edit - replayed_from kept edit

-- the places of the edited session where checkpoints lie now
abbrev pub moved_checkpoints : CheckpointedSession → Edit → List ℕ
moved_checkpoints kept edit =
    filter (λ place. list_any (λ checkpoint. moved_place edit checkpoint == place) kept.checkpoints)
    (numbers (suc (last_place (edited edit kept.session))))

-- the next checkpoint, or the last place
abbrev pub segment_end : ℕ → List ℕ → ℕ → ℕ
segment_end last checkpoints place = least last (filter (λ next. nat_lt place next) checkpoints)

-- a place is a span after a checkpoint that has no other for two spans
abbrev pub is_added : ℕ → ℕ → List ℕ → ℕ → Bool
is_added span last checkpoints place =
    list_any (λ checkpoint. checkpoint + span == place
    && nat_le (checkpoint + 2 * span) (segment_end last checkpoints checkpoint)) checkpoints

-- the checkpoints with those that are added to them
abbrev pub with_added : ℕ → ℕ → List ℕ → List ℕ
with_added span last checkpoints =
    filter (λ place. has place checkpoints || is_added span last checkpoints place)
    (numbers (suc last))

-- the checkpoints of the edited session
abbrev pub next_checkpoints : CheckpointedSession → Edit → List ℕ
next_checkpoints kept edit =
    with_added kept.span (last_place (edited edit kept.session)) (moved_checkpoints kept edit)

-- an accepted edit of the session
abbrev pub kept_after : Edit → CheckpointedSession → CheckpointedSession
kept_after edit kept = record kept {
  session = edited edit kept.session;
  checkpoints = next_checkpoints kept edit;
}
