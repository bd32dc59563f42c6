-- What is untouched before an edit, what is as it was after a meeting, and the first meeting.
use Rattle.std.proofs.Common.{◌≡◌, inl, inr, ⊎_elim, ℕ, suc, ◌+◌, ◌-◌, ◌<◌, ◌≤◌, Bool, true, ◌&&◌, List, length, map, take, drop, Some, None, Ok, sym, ap, ap₂}
use Rattle.std.proofs.Common.{subst, ◌∙◌, arith}
use Rattle.std.specs.Prelude.{filter, option_map, slice_get, nat_le, if◌then◌else◌}
use Rattle.std.proofs.lemmas.Bool.{and_parts}
use Rattle.std.proofs.lemmas.Bool.Decides.{nat_tests}
use Rattle.bench_types.specs.declared.edit.Edit.{Edit}
use Rattle.bench_types.specs.declared.header.Header.{Header}
use Rattle.bench_types.specs.declared.step.Step.{Step}
use Rattle.bench_types.specs.Edit.{IsEditOfWords}
use Rattle.bench_types.specs.Session.{Session, IsSession}
use Rattle.list_orders.specs.Search.{has}
use Rattle.bench_model.specs.Control.{running}
use Rattle.bench_model.specs.Edits.{accepted, edited}
use Rattle.bench_model.specs.Lists.{view_of}
use Rattle.bench_model.specs.Meeting.{CheckpointedSession, last_place, least, place_of, moved_place, is_compared, goes_on_alike, met}
use Rattle.bench_model.specs.Session.{step_of, state_after, state_at, reply_at, running_at}
use Rattle.bench_model.specs.Shifted.{shifted}
use Rattle.bench_model.specs.Start.{start}
use Rattle.session_laws.proofs.EditedSessions.{edited_session}
use Rattle.meeting_laws.specs.MeetingLaws.{IsUntouchedAt, MeetAt, IsKeptAt, IsMeeting, MayEnd, IsFirstEnd, ticks_later}
use Rattle.meeting_laws.specs.RunLaws.{MeetBy}
use Rattle.meeting_laws.proofs.Going.{go_on_alike}
use Rattle.meeting_laws.proofs.Meets.{meetings_decided}
use Rattle.meeting_laws.proofs.Places.{last_taken, least_from, least_each, least_reached, least_within, moved_found, moved_has}
use Rattle.meeting_laws.proofs.Moves.{moved_later, moved_within, moved_from, edit_within, edit_there, steps_before_stay, steps_after_move}

-- ---- before the edit

module _ (session : Session) (edit : Edit) (place : ℕ) (accepts : accepted session edit ≡ Ok tt) (header : (edited edit session).header ≡ session.header)
    (before : place ≤ place_of edit) where
  state_untouched : state_at (edited edit session).header (edited edit session).steps place ≡ state_at session.header session.steps place
  unfolding state_at
  state_untouched = ap₂ (λ (header : Header) steps. state_after (start header) steps) header (steps_before_stay session edit place accepts before)

  row_untouched : running_at (edited edit session).header (edited edit session).steps place ≡ running_at session.header session.steps place
  unfolding running_at
  row_untouched =
      let within : nat_le place (length (edited edit session).steps) ≡ true = grind (arith, nat_tests, before, edit_within session edit accepts) in
      let there : nat_le place (length session.steps) ≡ true = grind (arith, nat_tests, before, edit_there session edit accepts) in
      ap (λ (b : Bool). if b then Some (running (state_at (edited edit session).header (edited edit session).steps place).control) else None) within
      ∙ ap (λ table. Some (running table.control)) state_untouched
      ∙ sym (ap (λ (b : Bool). if b then Some (running (state_at session.header session.steps place).control) else None) there)

  reply_untouched : place < place_of edit → reply_at (edited edit session).header (edited edit session).steps place ≡ reply_at session.header session.steps
      place
  unfolding reply_at
  reply_untouched early =
      let next = edited edit session in
      let step = same_step next.steps session.steps place (steps_before_stay session edit (suc place) accepts (omega (arith, early))) in
      ap₂ (λ table found. option_map (λ step. (step_of step table).0) found) state_untouched step
    where
      same_step : (xs ys : List Step) (n : ℕ) → take (suc n) xs ≡ take (suc n) ys → slice_get xs n ≡ slice_get ys n
      same_step xs ys n same = sym (last_taken xs n) ∙ ap (λ zs. slice_get zs n) same ∙ last_taken ys n

pub before_is_untouched : (session : Session) (edit : Edit) (place : ℕ) → accepted session edit ≡ Ok tt → (edited edit session).header ≡ session.header → place
    ≤ place_of edit → IsUntouchedAt session edit place
before_is_untouched session edit place accepts header before = record {
  state = state_untouched session edit place accepts header before;
  row = row_untouched session edit place accepts header before;
  reply = reply_untouched session edit place accepts header before;
}

-- ---- from a meeting on

pub meeting_lasts : (session : Session) (edit : Edit) (meeting place : ℕ) → IsSession session → IsEditOfWords edit → accepted session edit ≡ Ok tt → meeting ≤
    last_place session → is_compared edit meeting ≡ true → MeetAt session edit meeting → meeting ≤ place → IsKeptAt (ticks_later session edit meeting) session
    edit place
meeting_lasts session edit meeting place is words accepts within compared alike later =
    let next = edited edit session in
    let there = moved_place edit meeting in
    let by = ticks_later session edit meeting in
    let same_steps = steps_after_move session edit meeting accepts compared in
    let meet = (meetings_decided (state_at session.header session.steps meeting) (state_at next.header next.steps there) (drop there next.steps)).0 alike in
    let on = go_on_alike by session next meeting there is (edited_session session edit is words accepts) within
    (moved_within session edit meeting accepts within) (subst
    (MeetBy by (state_at session.header session.steps meeting) (state_at next.header next.steps there)) same_steps meet) (sym same_steps) in
    let k : ℕ = place - meeting in
    let old : meeting + k ≡ place = omega (arith, later) in
    let new : there + k ≡ moved_place edit place = sym (moved_later edit meeting place compared later) in
    record {
      state = subst (λ p. view_of (state_at next.header next.steps (moved_place edit place)) ≡ shifted by (view_of (state_at session.header session.steps p)))
          old (subst (λ q. view_of (state_at next.header next.steps q) ≡ shifted by (view_of (state_at session.header session.steps (meeting + k)))) new
          (on.states k));
      reply = sym (sym (ap (reply_at session.header session.steps) old) ∙ on.replies k ∙ ap (reply_at next.header next.steps) new);
      row = sym (sym (ap (running_at session.header session.steps) old) ∙ on.rows k ∙ ap (running_at next.header next.steps) new);
    }

-- ---- the first meeting

-- the test of a meeting
abbrev is_meeting : CheckpointedSession → Edit → ℕ → Bool
is_meeting kept edit place = is_compared edit place && goes_on_alike kept.session edit place

passes_meeting : (kept : CheckpointedSession) (edit : Edit) (place : ℕ) → IsMeeting kept edit place → is_meeting kept edit place ≡ true
passes_meeting kept edit place meeting = ap₂ (λ a b. a && b) meeting.compared meeting.alike

is_one : (kept : CheckpointedSession) (edit : Edit) (place : ℕ) → has place kept.checkpoints ≡ true → is_meeting kept edit place ≡ true → IsMeeting kept edit
    place
is_one kept edit place listed passes =
    let parts = and_parts (is_compared edit place) (goes_on_alike kept.session edit place) passes in
    record { listed = listed; compared = parts.0; alike = parts.1 }

-- where meetings lie in the edited session
abbrev moved_meetings : CheckpointedSession → Edit → List ℕ
moved_meetings kept edit = map (moved_place edit) (filter (is_meeting kept edit) kept.checkpoints)

pub met_within : (kept : CheckpointedSession) (edit : Edit) → met kept edit ≤ last_place (edited edit kept.session)
unfolding met
met_within kept edit = least_within (last_place (edited edit kept.session)) (moved_meetings kept edit)

-- it is not before a place that no meeting lies before
pub met_after : (kept : CheckpointedSession) (edit : Edit) (place : ℕ) → place ≤ last_place (edited edit kept.session) →
    ((checkpoint : ℕ) → has checkpoint kept.checkpoints ≡ true → is_compared edit checkpoint ≡ true → place ≤ moved_place edit checkpoint) → place ≤ met kept
    edit
unfolding met
met_after kept edit place within each =
    least_from place (last_place (edited edit kept.session)) (moved_meetings kept edit) within
    (λ moved found.
    let from = moved_found (moved_place edit) (is_meeting kept edit) kept.checkpoints moved found in
    let compared = (and_parts (is_compared edit from.0) (goes_on_alike kept.session edit from.0) from.2).0 in
    subst (λ n. place ≤ n) from.3 (each from.0 from.1 compared))

pub met_from : (kept : CheckpointedSession) (edit : Edit) → accepted kept.session edit ≡ Ok tt → place_of edit ≤ met kept edit
met_from kept edit accepts =
    met_after kept edit (place_of edit) (edit_within kept.session edit accepts) (λ checkpoint listed compared. moved_from edit checkpoint compared)

may_end : (kept : CheckpointedSession) (edit : Edit) (place : ℕ) → has place (moved_meetings kept edit) ≡ true → MayEnd kept edit place
may_end kept edit place found =
    let from = moved_found (moved_place edit) (is_meeting kept edit) kept.checkpoints place found in
    inr (from.0, is_one kept edit from.0 from.1 from.2, from.3)

pub met_is_first : (kept : CheckpointedSession) (edit : Edit) → IsFirstEnd kept edit (met kept edit)
unfolding met
met_is_first kept edit =
    let last = last_place (edited edit kept.session) in
    let places = moved_meetings kept edit in
    record {
      ends = ⊎_elim (λ same. inl same) (may_end kept edit (least last places)) (least_reached last places);
      first = λ other. ⊎_elim
          (λ same. omega (arith, same, least_within last places))
          (λ found. omega (
            arith,
            found.2,
            least_each last (moved_place edit found.0) places
                (moved_has (moved_place edit) (is_meeting kept edit) kept.checkpoints found.0 found.1.listed (passes_meeting kept edit found.0 found.1)),
          ));
    }

pub first_end_is_met : (kept : CheckpointedSession) (edit : Edit) (place : ℕ) → IsFirstEnd kept edit place → place ≡ met kept edit
first_end_is_met kept edit place first =
    let own = met_is_first kept edit in
    omega (arith, first.first (met kept edit) own.ends, own.first place first.ends)
