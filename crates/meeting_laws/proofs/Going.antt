-- Two sessions that meet at two places, and have the same steps after them, go on alike.
use Rattle.std.proofs.Common.{◌≡◌, ℕ, zero, suc, ◌+◌, ◌-◌, ◌≤◌, Bool, leb, List, [], ◌∷◌, length, take, drop, Option, Some, None, refl, sym, ap, subst, ◌∙◌}
use Rattle.std.proofs.Common.{arith, take-add, length-drop}
use Rattle.std.specs.Prelude.{All, fold, option_map, slice_get, if◌then◌else◌}
use Rattle.std.proofs.lemmas.List.Sums.{fold-append}
use Rattle.std.proofs.lemmas.List.Elements.{All-take, All-drop}
use Rattle.std.proofs.lemmas.Option.{slice_get_within, get_or_from_slice_get}
use Rattle.std.proofs.lemmas.Bool.Decides.{nat_tests}
use Rattle.bench_types.specs.declared.header.Header.{Header}
use Rattle.bench_types.specs.declared.kernel_data.Settings.{Settings}
use Rattle.bench_types.specs.declared.step.Step.{Step}
use Rattle.bench_types.specs.Session.{Session, IsSession}
use Rattle.bench_types.specs.Step.{settings_of, IsCheckedStep}
use Rattle.list_orders.specs.Search.{numbers}
use Rattle.bench_model.specs.Control.{Control, running}
use Rattle.bench_model.specs.Equal.{Same, StandsFor}
use Rattle.bench_model.specs.Lists.{View, view_of}
use Rattle.bench_model.specs.Meeting.{last_place}
use Rattle.bench_model.specs.Seek.{after_switch}
use Rattle.bench_model.specs.Session.{step_of, state_after, state_at, reply_at, running_at}
use Rattle.bench_model.specs.Shifted.{shifted}
use Rattle.bench_model.specs.Sound.{IsSound}
use Rattle.bench_model.specs.Start.{start, started, unstarted, first_stamps}
use Rattle.bench_model.specs.Table.{Table, stamp_queues}
use Rattle.step_laws.proofs.Along.{sound_along, settings_along, start_settings}
use Rattle.step_laws.proofs.Starts.{start_sound}
use Rattle.meeting_laws.specs.RunLaws.{GoOnAlike, MeetBy}
use Rattle.meeting_laws.proofs.Meets.{met_reply, met_run_alike, met_step}

-- ---- the state at a place of a session

-- the steps of a session are checked under the settings of its start
checked_from_start : (session : Session) → IsSession session → All (IsCheckedStep (start session.header).settings) session.steps
checked_from_start session is = subst (λ settings. All (IsCheckedStep settings) session.steps) (sym (start_settings session.header)) is.steps

pub sound_at : (session : Session) (place : ℕ) → IsSession session → IsSound (state_at session.header session.steps place)
unfolding state_at
sound_at session place is =
    sound_along (take place session.steps) (start session.header) (start_sound session.header is.header.passes)
    (All-take (IsCheckedStep (start session.header).settings) place session.steps (checked_from_start session is))

later_settings : (session : Session) (place : ℕ) → IsSession session → (state_at session.header session.steps place).settings ≡ (start session.header).settings
unfolding state_at
later_settings session place is =
    settings_along (take place session.steps) (start session.header) (start_sound session.header is.header.passes)
    (All-take (IsCheckedStep (start session.header).settings) place session.steps (checked_from_start session is))

-- and those after a place under the settings there
checked_from : (session : Session) (place : ℕ) → IsSession session → All (IsCheckedStep (state_at session.header session.steps place).settings)
    (drop place session.steps)
checked_from session place is =
    subst (λ settings. All (IsCheckedStep settings) (drop place session.steps)) (sym (later_settings session place is))
    (All-drop (IsCheckedStep (start session.header).settings) place session.steps (checked_from_start session is))

-- the state at a later place is that after the steps between
pub state_later : (header : Header) (steps : List Step) (place k : ℕ) → state_at header steps (place + k) ≡ state_after (state_at header steps place)
    (take k (drop place steps))
unfolding state_at
state_later header steps place k =
    ap (state_after (start header)) (take-add place k steps)
    ∙ fold-append (λ table step. (step_of step table).1) (start header) (take place steps) (take k (drop place steps))

slice_get-drop : {X : Type 0} (n : ℕ) (xs : List X) (k : ℕ) → slice_get xs (n + k) ≡ slice_get (drop n xs) k
slice_get-drop zero xs k =
    let same : 0 + k ≡ k = omega arith in
    ap (slice_get xs) same
slice_get-drop (suc n) [] k = refl
slice_get-drop (suc n) (x ∷ xs) k =
    let same : suc n + k ≡ suc (n + k) = omega arith in
    ap (slice_get (x ∷ xs)) same ∙ slice_get-drop n xs k

checked_item : (settings : Settings) (steps : List Step) (k : ℕ) (step : Step) → All (IsCheckedStep settings) steps → slice_get steps k ≡ Some step →
    IsCheckedStep settings step
checked_item settings steps k step all found =
    subst (IsCheckedStep settings) (get_or_from_slice_get steps k step step found) (all k step (slice_get_within steps k step found))

-- ---- two sessions

module _ (by : ℕ) (old new : Session) (p q : ℕ) (first : IsSession old) (second : IsSession new)
    (meet : MeetBy by (state_at old.header old.steps p) (state_at new.header new.steps q) (drop p old.steps)) (rest : drop p old.steps ≡ drop q new.steps) where
  states : (k : ℕ) → view_of (state_at new.header new.steps (q + k)) ≡ shifted by (view_of (state_at old.header old.steps (p + k)))
  states k =
      let a = state_at old.header old.steps p in
      let b = state_at new.header new.steps q in
      let alike = met_run_alike by a b (drop p old.steps) (sound_at old p first) (sound_at new q second) meet (checked_from old p first) in
      subst (λ table. view_of (state_at new.header new.steps (q + k)) ≡ shifted by (view_of table)) (sym (state_later old.header old.steps p k))
      (subst (λ table. view_of table ≡ shifted by (view_of (state_after a (take k (drop p old.steps)))))
      (sym (state_later new.header new.steps q k ∙ ap (λ steps. state_after b (take k steps)) (sym rest))) (alike.states k))

  step_there : (k : ℕ) → slice_get old.steps (p + k) ≡ slice_get new.steps (q + k)
  step_there k = slice_get-drop p old.steps k ∙ ap (λ steps. slice_get steps k) rest ∙ sym (slice_get-drop q new.steps k)

  replies : (k : ℕ) → reply_at old.header old.steps (p + k) ≡ reply_at new.header new.steps (q + k)
  unfolding reply_at
  replies k =
      at (slice_get old.steps (p + k)) refl
      ∙ ap (option_map (λ step. (step_of step b).0)) (step_there k)
    where
      a : Table
      a = state_at old.header old.steps (p + k)

      b : Table
      b = state_at new.header new.steps (q + k)

      settings : (state_at old.header old.steps (p + k)).settings ≡ (start old.header).settings
      settings = later_settings old (p + k) first

      at : (found : Option Step) → slice_get old.steps (p + k) ≡ found → option_map (λ step. (step_of step a).0) found ≡ option_map (λ step. (step_of step b).0)
          found
      at None is = refl
      at (Some step) is =
          let checked = checked_item a.settings old.steps (p + k) step (subst (λ s. All (IsCheckedStep s) old.steps) (sym settings)
          (checked_from_start old first)) is in
          let meets = met_step by a b (drop p old.steps) k step (sym (slice_get-drop p old.steps k) ∙ is) (states k) meet.unread in
          ap Some (met_reply by a b step (sound_at old (p + k) first) (sound_at new (q + k) second) meets checked)

  rows : p ≤ last_place old → q ≤ last_place new → (k : ℕ) → running_at old.header old.steps (p + k) ≡ running_at new.header new.steps (q + k)
  unfolding running_at
  rows within there k =
      let control = sym (ap (λ (view : View). view.control) (states k)) in
      let left : length old.steps - p ≡ length new.steps - q = sym (length-drop p old.steps) ∙ ap length rest ∙ length-drop q new.steps in
      let past : leb (p + k) (length old.steps) ≡ leb (q + k) (length new.steps) = grind (arith, nat_tests, left, within, there) in
      ap (λ (b : Bool). if b then Some (running (state_at old.header old.steps (p + k)).control) else None) past
      ∙ ap (λ (control : Control). if leb (q + k) (length new.steps) then Some (running control) else None) control

pub go_on_alike : (by : ℕ) (old new : Session) (p q : ℕ) → IsSession old → IsSession new → p ≤ last_place old → q ≤ last_place new → MeetBy by
    (state_at old.header old.steps p) (state_at new.header new.steps q) (drop p old.steps) → drop p old.steps ≡ drop q new.steps → GoOnAlike by old new p q
go_on_alike by old new p q first second within there meet rest = record {
  states = states by old new p q first second meet rest;
  replies = replies by old new p q first second meet rest;
  rows = rows by old new p q first second meet rest within there;
}

pub stand_alike : (view : View) (a b : Table) → StandsFor view a → Same a b → IsSound b → StandsFor view b
stand_alike view a b stands same sound = record { sound = sound; shows = sym same ∙ stands.shows }
