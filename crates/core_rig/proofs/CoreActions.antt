-- What a core's action comes to, from the seat before it to the seat after it.
use Rattle.std.proofs.Common.{◌≡◌, ℕ, ◌+◌, ◌<◌, ◌≤◌, ◌^◌, Bool, true, false, cond, eqb, List, [], ◌∷◌, ◌++◌, length, Some, None, Result, Ok, Err, refl, sym, ap}
use Rattle.std.proofs.Common.{subst, ◌∙◌, arith}
use Rattle.std.specs.Prelude.{⊤, ◌⊎◌, MatchResult, is_ok, nat_lt, not}
use Rattle.std.proofs.lemmas.Bool.Decides.{nat_tests}
use Rattle.std.proofs.lemmas.List.{length_push}
use Rattle.std.proofs.lemmas.List.Filters.{length-filter_both}
use Rattle.bench_types.specs.CoreAction.{core_action_check}
use Rattle.bench_types.specs.declared.core_action.CoreAction.{CoreAction}
use Rattle.bench_types.specs.declared.core_action.CoreAction.TheVariants as core_actions
use Rattle.bench_types.specs.declared.entry.Entry.{Entry}
use Rattle.bench_types.specs.declared.fault.Fault.{Fault}
use Rattle.bench_types.specs.declared.fault.Fault.TheVariants.{BadCore}
use Rattle.bench_types.specs.Header.{header_check}
use Rattle.bench_types.specs.Step.{core_of, settings_of}
use Rattle.bench_model.specs.History.{made_by, IsLegal}
use Rattle.bench_model.specs.Holds.{depth_of, depth_by, is_held_by}
use Rattle.history_laws.specs.SoundHistories.{IsSoundHistory}
use Rattle.history_laws.proofs.Parts.{made-push}
use Rattle.port_locks.specs.declared.view.Terms.{Terms}
use Rattle.port_locks.specs.Holds.{hold_after, own_hold}
use Rattle.port_locks.specs.Seats.{SeatView, HasTaken, owns}
use Rattle.port_locks.specs.Steps as locks
use Rattle.recordings.specs.declared.recording.Answer.{Answer}
use Rattle.recordings.specs.declared.recording.RecordRefusal.{RecordRefusal}
use Rattle.recordings.specs.RecordingView.{RecordingView, act_on, answer_to_core_action, entry_of, with_step}
use Rattle.core_rig.specs.declared.fault.RigRefusal.{RigRefusal}
use Rattle.core_rig.specs.declared.fault.RigRefusal.TheVariants as refusals
use Rattle.core_rig.specs.CoreActions.{Finds, HasActed, IsAnswered, IsAnsweredAtOnce, IsRefused, answered, entry_after}
use Rattle.core_rig.specs.Resting.{IsResting, core_view}
use Rattle.core_rig.specs.Seats.{CoreView, recording_of}
use Rattle.core_rig.specs.Stretches.{IsInHand, terms_of, entries_of, after_stretch, is_by_task, is_call}
use Rattle.core_rig.proofs.Stretches.{depth_of_own, own_none}

-- an action's entry is its core's
own_entry : (core : ℕ) (core_action : CoreAction) (view : RecordingView) → core_action_check (settings_of view.header) core core_action ≡ Ok tt → core_of
    (act_on core core_action view) ≡ core
own_entry core (core_actions.Call call) view checked = refl
own_entry core (core_actions.Interrupt note) view checked = refl
own_entry core (core_actions.QueueInterrupt queue direction) view checked = refl
own_entry core (core_actions.ResumeInterrupt task) view checked = refl
own_entry core core_actions.Tick view checked = at (eqb core 0) refl checked
  where
    at : (b : Bool) → eqb core 0 ≡ b → cond {A = Result ⊤ Fault} b (Ok tt) (Err BadCore) ≡ Ok tt → 0 ≡ core
    at true is none = grind (arith, nat_tests, is)
    at false is none = absurd (cc none)
own_entry core core_actions.Switch view checked = refl

module _ (old : CoreView) (core_action : CoreAction) (found : List Entry) (finds : Finds old found)
    (checked : core_action_check (settings_of old.terms.header) old.core core_action ≡ Ok tt) where
  abbrev view : RecordingView
  view = recording_of old.terms found

  abbrev entry : Entry
  entry = entry_after old core_action found

  -- the entries after the action
  abbrev later : Bool → List Entry
  later added = (cond added (with_step (act_on old.core core_action view) view) view).entries

  abbrev seat_after : Bool → CoreView
  seat_after added = record old { seen = later added; made = made_by old.core (later added) }

  one_more : made_by old.core (found ++ entry ∷ []) ≡ old.made ++ entry ∷ []
  one_more =
      let own = own_entry old.core core_action view checked in
      let is : eqb entry.core old.core ≡ true = grind (arith, nat_tests, own) in
      made-push old.core found entry
      ∙ ap (λ b. cond b (made_by old.core found ++ entry ∷ []) (made_by old.core found)) is
      ∙ ap (λ made. made ++ entry ∷ []) finds.own

  pub acts_as : IsLegal old.terms.header (later (is_ok (answer_to_core_action old.core core_action view))) → IsSoundHistory old.terms.header
      (later (is_ok (answer_to_core_action old.core core_action view))) → HasActed core_action old
      (seat_after (is_ok (answer_to_core_action old.core core_action view))) (answered (answer_to_core_action old.core core_action view))
  acts_as legal sound = at (answer_to_core_action old.core core_action view) refl legal sound
    where
      at : (r : Result Answer RecordRefusal) → answer_to_core_action old.core core_action view ≡ r → IsLegal old.terms.header (later (is_ok r)) → IsSoundHistory
          old.terms.header (later (is_ok r)) → HasActed core_action old (seat_after (is_ok r)) (answered r)
      at (Ok answer) is legal sound = record {
        found = found;
        finds = finds;
        answer = ap answered (sym is);
        made = ap (λ made. record old { seen = found ++ entry ∷ []; made = made }) one_more;
        refused = tt;
        legal = legal;
        sound = sound;
        own = refl;
      }
      at (Err why) is legal sound = record {
        found = found;
        finds = finds;
        answer = ap answered (sym is);
        made = tt;
        refused = ap (λ made. record old { seen = found; made = made }) finds.own;
        legal = legal;
        sound = sound;
        own = refl;
      }

pub made_few : (core : ℕ) (entries : List Entry) → length (made_by core entries) ≤ length entries
made_few core entries =
    let both = length-filter_both (λ (entry : Entry). eqb entry.core core) (λ entry. not (eqb entry.core core)) (λ entry. refl) entries in
    omega (arith, both)

-- what the stretch of an action came to
pub record Came (core_action : CoreAction) (old new : SeatView RecordingView) (answer : Result Answer RigRefusal) : Type 0 where
  pub acted : HasActed core_action (core_view old) (core_view new) answer
  pub terms : new.terms ≡ old.terms
  pub number : new.number ≡ old.number
  pub own : made_by new.number new.seen ≡ new.made

-- what a core finds of its hold is what it left
pub found_hold : (initial taken : SeatView RecordingView) → HasTaken terms_of entries_of initial taken → own_hold taken.number
    (hold_after taken.terms.header taken.seen) ≡ own_hold initial.number (hold_after initial.terms.header initial.seen)
found_hold initial taken has =
    ap (λ seat. own_hold seat.number (hold_after seat.terms.header seat.seen)) has.2 ∙ sym has.3.hold

core_finds : (initial : SeatView RecordingView) (value : RecordingView) → locks.Finds initial.terms initial.number (owns initial.task_depth) initial.seen
    initial.made (entries_of value) → Finds (core_view initial) (entries_of value)
core_finds initial value finds = record {
  legal = finds.legal;
  begins = finds.begins;
  own = finds.entries;
  depth =
      depth_of_own initial.number (hold_after initial.terms.header (entries_of value)) ∙ ap depth_of (sym finds.hold)
      ∙ sym (depth_of_own initial.number (hold_after initial.terms.header initial.seen));
}

module _ (old : SeatView RecordingView) (core_action : CoreAction) (checked : core_action_check (settings_of old.terms.header) old.number core_action ≡ Ok tt)
  where
    -- the seat with the recording in hand, and the one after the action
    abbrev in_hand : ℕ → List Entry → SeatView RecordingView
    in_hand task found = record old { task_depth = task; interrupt_depth = 1; seen = found; value = Some (recording_of old.terms found) }

    came_from : (task : ℕ) (found : List Entry) → Finds (core_view old) found → IsLegal old.terms.header (after_stretch core_action (in_hand task found)).seen →
        IsSoundHistory old.terms.header (after_stretch core_action (in_hand task found)).seen → Came core_action old
        (after_stretch core_action (in_hand task found)) (answered (answer_to_core_action old.number core_action (recording_of old.terms found)))
    came_from task found finds legal sound = record {
      acted = acts_as (core_view old) core_action found finds checked legal sound;
      terms = refl;
      number = refl;
      own = refl;
    }

    pub came : (task : ℕ) (taken new : SeatView RecordingView) (answer : Result Answer RigRefusal) → HasTaken terms_of entries_of
        (record old { task_depth = task }) taken → new ≡ after_stretch core_action taken → answer ≡ answered
        (answer_to_core_action taken.number core_action (recording_of taken.terms taken.seen)) → IsLegal new.terms.header new.seen → IsSoundHistory
        new.terms.header new.seen → Came core_action old new answer
    came task taken new answer has is answers legal sound =
        let value = has.0 in
        let found = entries_of value in
        let same : taken ≡ in_hand task found = has.2 ∙ ap (λ terms. record old
        { task_depth = task; interrupt_depth = 1; seen = found; value = Some (recording_of terms found) }) has.1 in
        let done : new ≡ after_stretch core_action (in_hand task found) = is ∙ ap (after_stretch core_action) same in
        let heard = answers ∙ ap (λ seat. answered (answer_to_core_action seat.number core_action (recording_of seat.terms seat.seen))) same in
        subst (λ seat. Came core_action old seat answer) (sym done)
        (subst (Came core_action old (after_stretch core_action (in_hand task found))) (sym heard)
        (came_from task found (core_finds (record old { task_depth = task }) value has.3) (subst (λ seat. IsLegal seat.terms.header seat.seen) done legal)
        (subst (λ seat. IsSoundHistory seat.terms.header seat.seen) done sound)))

-- the task word tells nothing of what a core saw and made
pub came_beside : (core_action : CoreAction) (old new later : SeatView RecordingView) (answer : Result Answer RigRefusal) (task : ℕ) → later ≡ record new
    { task_depth = task } → Came core_action old new answer → Came core_action old later answer
came_beside core_action old new later answer task same came =
    subst (λ seat. Came core_action old seat answer) (sym same)
    (record { acted = came.acted; terms = came.terms; number = came.number; own = came.own })

pub rests_again : (core_action : CoreAction) (old new : SeatView RecordingView) (answer : Result Answer RigRefusal) (made before count depth : ℕ) → IsResting
    old made before → Came core_action old new answer → IsLegal new.terms.header new.seen → depth ≡ depth_by new.number (hold_after new.terms.header new.seen) →
    (depth ≡ 0 → is_held_by new.number (hold_after new.terms.header new.seen) ≡ false) → count ≡ length new.made → new.interrupt_depth ≡ 0 → new.value ≡ None →
    new.task_depth ≡ cond (eqb depth 0) 0 1 → IsResting new count depth
rests_again core_action old new answer made before count depth resting came legal holds none is interrupt value task = record {
  passes = subst (λ (terms : Terms). header_check terms.header ≡ Ok tt) (sym came.terms) resting.passes;
  core =
      let below = resting.core in
      let cores = ap (λ (terms : Terms). terms.header.config.cores) came.terms in
      omega (arith, below, cores, came.number);
  interrupt = interrupt;
  value = value;
  task = task;
  holds = holds;
  none = λ at_none. own_none new.number (hold_after new.terms.header new.seen) (none at_none);
  legal = legal;
  own = came.own;
  count = is;
}

-- how many entries a core has made after its action
module _ (seat : SeatView RecordingView) (core_action : CoreAction) (hand : IsInHand seat)
    (checked : core_action_check (settings_of seat.terms.header) seat.number core_action ≡ Ok tt) where
  abbrev before : RecordingView
  before = recording_of seat.terms seat.seen

  abbrev added_to : Bool → List Entry
  added_to added = (cond added (with_step (act_on seat.number core_action before) before) before).entries

  count_of : (added : Bool) → length (made_by seat.number (added_to added)) ≡ length seat.made + cond added 1 0
  count_of true =
      let entry = entry_of (act_on seat.number core_action before) before in
      let own = own_entry seat.number core_action before checked in
      let is : eqb entry.core seat.number ≡ true = grind (arith, nat_tests, own) in
      ap length (made-push seat.number seat.seen entry)
      ∙ ap (λ b. length (cond b (made_by seat.number seat.seen ++ entry ∷ []) (made_by seat.number seat.seen))) is
      ∙ ap (λ made. length (made ++ entry ∷ [])) hand.own ∙ length_push seat.made entry
  count_of false = let same = ap length hand.own in omega (arith, same)

  pub count_after : (new : SeatView RecordingView) (added : Bool) (made more : ℕ) → new ≡ after_stretch core_action seat → added ≡ is_ok
      (answer_to_core_action seat.number core_action before) → made ≡ length seat.made → more ≡ cond added 1 0 → made + more ≡ length new.made
  count_after new added made more is heard count one =
      let its = count_of (is_ok (answer_to_core_action seat.number core_action before)) in
      let same = ap (λ seat. length seat.made) is in
      let how = ap (λ b. cond {A = ℕ} b 1 0) heard in
      omega (arith, its, same, how, count, one)

  pub count_fits : (new : SeatView RecordingView) (added : Bool) (made more : ℕ) → new ≡ after_stretch core_action seat → added ≡ is_ok
      (answer_to_core_action seat.number core_action before) → made ≡ length seat.made → more ≡ cond added 1 0 → length new.seen < 2 ^ 64 → made + more < 2 ^ 64
  count_fits new added made more is heard count one few =
      let all = count_after new added made more is heard count one in
      let most = made_few new.number new.seen in
      let own : length new.made ≡ length (made_by new.number new.seen) = ap (λ seat. length seat.made) is ∙ sym
      (ap (λ seat. length (made_by seat.number seat.seen)) is) in
      omega (arith, all, most, own, few)

-- an action that is not at fault is answered
module _ (core_action : CoreAction) (old new : SeatView RecordingView) (first : CoreView) (is : core_view old ≡ first) (result : Result Answer RigRefusal)
    (checked : core_action_check (settings_of old.terms.header) old.number core_action ≡ Ok tt) where
  pub is_answered : Came core_action old new result → IsAnswered core_action first (core_view new) result
  is_answered came =
      subst (λ first. IsAnswered core_action first (core_view new) result) is
      (subst (λ check. MatchResult check (λ _. HasActed core_action (core_view old) (core_view new) result)
      (λ fault. IsRefused (refusals.Fault fault) (core_view old) (core_view new) result)) (sym checked) came.acted)

  pub is_answered_at_once : IsRefused refusals.Busy (core_view old) (core_view new) result ⊎ HasActed core_action (core_view old) (core_view new) result →
      IsAnsweredAtOnce core_action first (core_view new) result
  is_answered_at_once acted =
      subst (λ first. IsAnsweredAtOnce core_action first (core_view new) result) is
      (subst (λ check. MatchResult check (λ _. IsRefused refusals.Busy (core_view old) (core_view new) result ⊎ HasActed core_action (core_view old)
      (core_view new) result) (λ fault. IsRefused (refusals.Fault fault) (core_view old) (core_view new) result)) (sym checked) acted)

-- while a core's action leaves the hold, its depth is what it was
pub depth_stays : (old taken new : SeatView RecordingView) (core_action : CoreAction) (made start depth : ℕ) → IsResting old made start → HasTaken terms_of
    entries_of old taken → new ≡ after_stretch core_action taken → hold_after new.terms.header new.seen ≡ hold_after taken.terms.header taken.seen → depth ≡
    depth_by new.number (hold_after new.terms.header new.seen) → depth ≡ start
depth_stays old taken new core_action made start depth resting has is stays holds =
    let same : own_hold new.number (hold_after new.terms.header new.seen) ≡ own_hold taken.number (hold_after taken.terms.header taken.seen) =
    ap (λ hold. own_hold new.number hold) stays ∙ ap (λ seat. own_hold seat.number (hold_after taken.terms.header taken.seen)) is in
    holds ∙ depth_of_own new.number (hold_after new.terms.header new.seen) ∙ ap depth_of (same ∙ found_hold old taken has)
    ∙ sym (depth_of_own old.number (hold_after old.terms.header old.seen)) ∙ sym resting.holds

pub task_stays : (old taken new : SeatView RecordingView) (core_action : CoreAction) (made start depth : ℕ) → IsResting old made start → HasTaken terms_of
    entries_of old taken → new ≡ after_stretch core_action taken → depth ≡ start → new.task_depth ≡ cond (eqb depth 0) 0 1
task_stays old taken new core_action made start depth resting has is same =
    ap (λ seat. seat.task_depth) is ∙ ap (λ seat. seat.task_depth) has.2 ∙ resting.task ∙ ap (λ depth. cond {A = ℕ} (eqb depth 0) 0 1) (sym same)

-- an interrupt and a tick are no calls
pub no_call : (core_action : CoreAction) → is_by_task core_action ≡ false → is_call core_action ≡ false
no_call (core_actions.Call call) none = absurd (cc none)
no_call (core_actions.Interrupt note) none = refl
no_call (core_actions.QueueInterrupt queue direction) none = refl
no_call (core_actions.ResumeInterrupt task) none = refl
no_call core_actions.Tick none = refl
no_call core_actions.Switch none = refl

-- and so it rests, with the task word or without it
pub rests_with : (core_action : CoreAction) (old new later : SeatView RecordingView) (answer : Result Answer RigRefusal) (made start count depth task : ℕ) →
    IsResting old made start → Came core_action old new answer → IsLegal new.terms.header new.seen → depth ≡ depth_by new.number
    (hold_after new.terms.header new.seen) → (depth ≡ 0 → is_held_by new.number (hold_after new.terms.header new.seen) ≡ false) → count ≡ length new.made →
    new.interrupt_depth ≡ 0 → new.value ≡ None → later ≡ record new { task_depth = task } → task ≡ cond (eqb depth 0) 0 1 → IsResting later count depth
rests_with core_action old new later answer made start count depth task resting came legal holds none is interrupt value same kept =
    subst (λ seat. IsResting seat count depth) (sym same)
    (rests_again core_action old (record new { task_depth = task }) answer made start count depth resting
    (came_beside core_action old new (record new { task_depth = task }) answer task refl came) legal holds none is interrupt value kept)

pub one_take : (held : Bool) (depth : ℕ) → held ≡ nat_lt 0 depth → cond {A = ℕ} held 1 0 ≡ cond (eqb depth 0) 0 1
one_take held depth is = by (eqb depth 0) refl
  where
    by : (b : Bool) → eqb depth 0 ≡ b → cond {A = ℕ} held 1 0 ≡ cond b 0 1
    by true none = ap (λ b. cond {A = ℕ} b 1 0) {y = false} (grind (arith, nat_tests, is, none))
    by false some = ap (λ b. cond {A = ℕ} b 1 0) {y = true} (grind (arith, nat_tests, is, some))
