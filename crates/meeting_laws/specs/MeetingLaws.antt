-- The laws of edits that are replayed from one checkpoint to another. Each is a clause of a public
-- function.
use Rattle.std.specs.Prelude.{◌≡◌, ◌⊎◌, ℕ, ◌<◌, ◌≤◌, true, take, drop, Ok}
use Rattle.bench_types.specs.declared.edit.Edit.{Edit}
use Rattle.bench_types.specs.Edit.{IsEditOfWords}
use Rattle.bench_types.specs.Session.{Session, IsSession}
use Rattle.list_orders.specs.Search.{has}
use Rattle.bench_model.specs.Edits.{accepted, edited}
use Rattle.bench_model.specs.Meeting.{CheckpointedSession, last_place, place_of, moved_place, is_compared, goes_on_alike, met}
use Rattle.bench_model.specs.Session.{state_at, reply_at, running_at}
use Rattle.shift_laws.specs.Shifts.{IsShifted}
use Rattle.meeting_laws.specs.RunLaws.{ticks_between}

-- the steps before an edit are those of the session
abbrev pub StepsBeforeStay : Type 0
StepsBeforeStay =
    (session : Session) (edit : Edit) (place : ℕ) → accepted session edit ≡ Ok tt
    → place ≤ place_of edit → take place (edited edit session).steps ≡ take place session.steps

-- and those after a place where both are compared are the same steps
abbrev pub StepsAfterMove : Type 0
StepsAfterMove =
    (session : Session) (edit : Edit) (place : ℕ) → accepted session edit ≡ Ok tt
    → is_compared edit place ≡ true →
    drop (moved_place edit place) (edited edit session).steps ≡ drop place session.steps

-- up to the place of an edit the edited session is as the session was
pub record IsUntouchedAt (session : Session) (edit : Edit) (place : ℕ) : Type 0 where
  pub state :
      state_at (edited edit session).header (edited edit session).steps place
      ≡ state_at session.header session.steps place
  pub row :
      running_at (edited edit session).header (edited edit session).steps place
      ≡ running_at session.header session.steps place
  pub reply :
      place < place_of edit
      → reply_at (edited edit session).header (edited edit session).steps place
      ≡ reply_at session.header session.steps place

-- an edit that leaves the header touches nothing before it
abbrev pub BeforeIsUntouched : Type 0
BeforeIsUntouched =
    (session : Session) (edit : Edit) (place : ℕ) → accepted session edit ≡ Ok tt
    → (edited edit session).header ≡ session.header → place ≤ place_of edit
    → IsUntouchedAt session edit place

-- the two sessions go on alike from a place and where it lies in the edited one
abbrev pub MeetAt : Session → Edit → ℕ → Type 0
MeetAt session edit place = goes_on_alike session edit place ≡ true

-- the ticks that the edited session is later at the place
abbrev pub ticks_later : Session → Edit → ℕ → ℕ
ticks_later session edit place =
    ticks_between (state_at session.header session.steps place)
    (state_at (edited edit session).header (edited edit session).steps (moved_place edit place))

-- what the session has at a place, the edited one has so many ticks later where the place lies in
-- it
pub record IsKeptAt (by : ℕ) (session : Session) (edit : Edit) (place : ℕ) : Type 0 where
  pub state :
      IsShifted by (state_at session.header session.steps place)
      (state_at (edited edit session).header (edited edit session).steps (moved_place edit place))
  pub reply :
      reply_at (edited edit session).header (edited edit session).steps (moved_place edit place)
      ≡ reply_at session.header session.steps place
  pub row :
      running_at (edited edit session).header (edited edit session).steps (moved_place edit place)
      ≡ running_at session.header session.steps place

-- from a place where both are compared and go on alike, all is as it was, moved, and as many ticks
-- later as there
abbrev pub MeetingLasts : Type 0
MeetingLasts =
    (session : Session) (edit : Edit) (meeting place : ℕ) → IsSession session → IsEditOfWords edit
    → accepted session edit ≡ Ok tt → meeting ≤ last_place session
    → is_compared edit meeting ≡ true → MeetAt session edit meeting → meeting ≤ place
    → IsKeptAt (ticks_later session edit meeting) session edit place

-- a checkpoint where both sessions are compared and go on alike
pub record IsMeeting (kept : CheckpointedSession) (edit : Edit) (checkpoint : ℕ) : Type 0 where
  pub listed : has checkpoint kept.checkpoints ≡ true
  pub compared : is_compared edit checkpoint ≡ true
  pub alike : MeetAt kept.session edit checkpoint

-- the replay may end there: at the last place, or where a meeting lies in the edited session
abbrev pub MayEnd : CheckpointedSession → Edit → ℕ → Type 0
MayEnd kept edit place =
    (place ≡ last_place (edited edit kept.session))
    ⊎ ((checkpoint : ℕ) × IsMeeting kept edit checkpoint × (moved_place edit checkpoint ≡ place))

-- the first place where the replay may end
pub record IsFirstEnd (kept : CheckpointedSession) (edit : Edit) (place : ℕ) : Type 0 where
  pub ends : MayEnd kept edit place
  pub first : (other : ℕ) → MayEnd kept edit other → place ≤ other

abbrev pub MetIsFirstEnd : Type 0
MetIsFirstEnd = (kept : CheckpointedSession) (edit : Edit) → IsFirstEnd kept edit (met kept edit)

-- and no other place is so
abbrev pub FirstEndIsMet : Type 0
FirstEndIsMet =
    (kept : CheckpointedSession) (edit : Edit) (place : ℕ) → IsFirstEnd kept edit place
    → place ≡ met kept edit
