-- A core's part of its script, from one action to the next.
use Rattle.std.proofs.Common.{inl, inr, ◌≡◌, ℕ, ◌+◌, ◌<◌, ◌≤◌, Bool, true, false, cond, ◌||◌, List, [], ◌∷◌, ◌++◌, length, take, get_or, suc, Option, Some, None, Result}
use Rattle.std.proofs.Common.{Ok, Err, refl, sym, ap, subst, ◌∙◌, arith}
use Rattle.std.specs.Prelude.{◌⊎◌, ◌≢◌, OnOk, OnErr, nat_lt, not}
use Rattle.std.specs.List.{cons_option, list_any}
use Rattle.std.proofs.lemmas.Bool.Decides.{nat_tests}
use Rattle.std.proofs.lemmas.List.{append-nil, length-append}
use Rattle.std.proofs.lemmas.List.Elements.{All-get_or, filter-append, filter_map-append}
use Rattle.std.proofs.lemmas.List.Folds.{list_any-append}
use Rattle.std.proofs.Math.Seq.{take-suc}
use Rattle.bench_types.specs.CoreAction.{core_action_check}
use Rattle.bench_types.specs.Step.{settings_of}
use Rattle.port_locks.specs.declared.view.Terms.{Terms}
use Rattle.bench_types.specs.declared.core_action.CoreAction.{CoreAction}
use Rattle.bench_types.specs.declared.core_action.CoreAction.TheVariants as core_actions
use Rattle.bench_types.specs.declared.entry.Entry.{Entry}
use Rattle.bench_types.specs.declared.kernel_data.Hold.{Hold}
use Rattle.bench_types.specs.declared.step.Call.{Call}
use Rattle.bench_types.specs.declared.step.Call.TheVariants.{HoldOpen, HoldClose}
use Rattle.bench_types.specs.declared.step.Step.{Step}
use Rattle.bench_types.specs.declared.step.Step.TheVariants as steps
use Rattle.bench_model.specs.Control.{current}
use Rattle.bench_model.specs.History.{end_of, places_for, places_of, StartsWith}
use Rattle.bench_model.specs.Holds.{depth_by, is_held_by}
use Rattle.bench_model.specs.Sound.{IsSound}
use Rattle.bench_model.specs.Session.{step_of}
use Rattle.bench_model.specs.Table.{Table}
use Rattle.history_laws.specs.SoundHistories.{IsSoundHistory}
use Rattle.history_laws.proofs.KeptOut.{start_free}
use Rattle.history_laws.proofs.Legal.{end_empty, end-push}
use Rattle.history_laws.proofs.Parts.{begins_longer, begins_through, begins_with_all, begins_with_first}
use Rattle.port_locks.specs.Seats.{PairView}
use Rattle.recordings.specs.declared.recording.Answer.{Answer}
use Rattle.recordings.specs.declared.recording.RecordRefusal.{RecordRefusal}
use Rattle.recordings.specs.declared.recording.RecordRefusal.TheVariants.{IdleHere, Full}
use Rattle.recordings.specs.RecordingView.{RecordingView, act_on, answer_in_room, answer_to, answer_to_core_action, call_on, hold_of, room_of, table_of}
use Rattle.recordings.specs.RecordingView.{task_on}
use Rattle.core_rig.specs.CoreActions.{HasActed, answered, entry_after}
use Rattle.core_rig.specs.declared.fault.RigRefusal.{RigRefusal}
use Rattle.core_rig.specs.Seats.{CoreView, IsSameSeat, IsSeatOf, depth_at, new_seat, recording_of}
use Rattle.core_rig.specs.Stretches.{is_by_task}
use Rattle.core_scripts.specs.Parts.{DoesAct, HasIdleOn, HasLessRoom, IsKept, IsUnderWay}
use Rattle.core_scripts.specs.Scripts.{IsPartOf, IsScriptOf, SwitchesAndHolds, core_action_of, core_actions_of, interrupts_of, is_switch, opens_hold}
use Rattle.core_scripts.proofs.Depths.{opens_none}
use Rattle.core_scripts.proofs.Sublists.{kept_more, passed_more}

-- what an action came to, by the answer of the recording
module _ (core_action : CoreAction) (old new : CoreView) (result : Result Answer RigRefusal) (acted : HasActed core_action old new result) where
  abbrev pub view : RecordingView
  view = recording_of old.terms acted.found

  abbrev pub entry : Entry
  entry = entry_after old core_action acted.found

  pub made_one : (answer : Answer) → answer_to_core_action old.core core_action view ≡ Ok answer → new ≡ record old
      { seen = acted.found ++ entry ∷ []; made = old.made ++ entry ∷ [] }
  made_one answer is = subst (λ r. OnOk r (new ≡ record old { seen = acted.found ++ entry ∷ []; made = old.made ++ entry ∷ [] }))
      (acted.answer ∙ ap answered is) acted.made

  pub made_none : (why : RecordRefusal) → answer_to_core_action old.core core_action view ≡ Err why → new ≡ record old { seen = acted.found }
  made_none why is = subst (λ r. OnErr r (new ≡ record old { seen = acted.found })) (acted.answer ∙ ap answered is) acted.refused

  -- the table that the core found is sound
  pub sound_there : IsSound (table_of view)
  sound_there = at (answer_to_core_action old.core core_action view) refl
    where
      at : (r : Result Answer RecordRefusal) → answer_to_core_action old.core core_action view ≡ r → IsSound (table_of view)
      at (Ok answer) is = subst (λ (seat : CoreView). IsSoundHistory seat.terms.header seat.seen) (made_one answer is) acted.sound acted.found
          (begins_with_first acted.found (entry ∷ []))
      at (Err why) is = subst (λ (seat : CoreView). IsSoundHistory seat.terms.header seat.seen) (made_none why is) acted.sound acted.found
          (begins_with_all acted.found)

-- the action of a step that an action makes is that action
core_action_made : (core : ℕ) (core_action : CoreAction) (found : RecordingView) → core_action_of (act_on core core_action found) ≡ Some core_action
core_action_made core (core_actions.Call call) found = refl
core_action_made core (core_actions.Interrupt note) found = refl
core_action_made core (core_actions.QueueInterrupt queue direction) found = refl
core_action_made core (core_actions.ResumeInterrupt task) found = refl
core_action_made core core_actions.Tick found = refl
core_action_made core core_actions.Switch found = refl

some_places : (hold : Option Hold) (core : ℕ) (call : Call) → places_for hold core call ≤ 2
some_places hold core HoldClose = at (is_held_by core hold)
  where
    at : (b : Bool) → cond b 0 1 ≤ 2
    at true = omega arith
    at false = omega arith
some_places hold core HoldOpen = omega arith
some_places hold core call = omega arith

-- G1 is a want of room
no_room : (step : Step) (from : RecordingView) (why : RecordRefusal) → answer_in_room step from ≡ Err why → room_of from < places_of (hold_of from) step
no_room step from why is = at (nat_lt (room_of from) (places_of (hold_of from) step)) refl is
  where
    at : (b : Bool) → nat_lt (room_of from) (places_of (hold_of from) step) ≡ b → cond {A = Result Answer RecordRefusal} b (Err Full) (Ok (answer_to step from))
        ≡ Err why → room_of from < places_of (hold_of from) step
    at true less none = grind (arith, nat_tests, less)
    at false more none = absurd (cc none)

-- G2 is an idle task, and else G1 is a want of room
call_refused : (core : ℕ) (call : Call) (from : RecordingView) (why : RecordRefusal) → answer_to_core_action core (core_actions.Call call) from ≡ Err why →
    (task_on core from < from.header.config.cores) ⊎ (room_of from < 2)
call_refused core call from why is = at (nat_lt (task_on core from) from.header.config.cores) refl is
  where
    at : (b : Bool) → nat_lt (task_on core from) from.header.config.cores ≡ b → cond {A = Result Answer RecordRefusal} b (Err IdleHere)
        (answer_in_room (call_on core call from) from) ≡ Err why → (task_on core from < from.header.config.cores) ⊎ (room_of from < 2)
    at true idle none = inl (grind (arith, nat_tests, idle))
    at false user none = inr (let less = no_room (call_on core call from) from why none in let most = some_places (hold_of from) core call in omega
        (arith, less, most))

-- no other act needs two places
core_action_refused : (core : ℕ) (core_action : CoreAction) (from : RecordingView) (why : RecordRefusal) → answer_to_core_action core core_action from ≡ Err why
    → (task_on core from < from.header.config.cores) ⊎ (room_of from < 2)
core_action_refused core (core_actions.Call call) from why is = call_refused core call from why is
core_action_refused core (core_actions.Interrupt note) from why is = inr (let less = no_room (steps.Interrupt core note) from why is in omega (arith, less))
core_action_refused core (core_actions.QueueInterrupt queue direction) from why is = inr
    (let less = no_room (steps.QueueInterrupt core queue direction) from why is in omega (arith, less))
core_action_refused core (core_actions.ResumeInterrupt task) from why is = inr
    (let less = no_room (steps.ResumeInterrupt core task) from why is in omega (arith, less))
core_action_refused core core_actions.Tick from why is = inr (let less = no_room steps.Tick from why is in omega (arith, less))
core_action_refused core core_actions.Switch from why is = inr (let less = no_room (steps.Switch core) from why is in omega (arith, less))

interrupt_refused : (core : ℕ) (core_action : CoreAction) (from : RecordingView) (why : RecordRefusal) → is_by_task core_action ≡ false → answer_to_core_action
    core core_action from ≡ Err why → room_of from < 1
interrupt_refused core (core_actions.Call call) from why none is = absurd (cc none)
interrupt_refused core (core_actions.Interrupt note) from why none is = no_room (steps.Interrupt core note) from why is
interrupt_refused core (core_actions.QueueInterrupt queue direction) from why none is =
    no_room (steps.QueueInterrupt core queue direction) from why is
interrupt_refused core (core_actions.ResumeInterrupt task) from why none is =
    no_room (steps.ResumeInterrupt core task) from why is
interrupt_refused core core_actions.Tick from why none is = no_room steps.Tick from why is
interrupt_refused core core_actions.Switch from why none is = absurd (cc none)

-- one action more of a script
or_right : (a : Bool) → (a || true) ≡ true
or_right true = refl
or_right false = refl

any_last : (p : CoreAction → Bool) (done : List CoreAction) (core_action : CoreAction) → p core_action ≡ true → list_any p (done ++ core_action ∷ []) ≡ true
any_last p done core_action is = list_any-append p done (core_action ∷ []) ∙ ap (λ b. list_any p done || (b || false)) is ∙ or_right (list_any p done)

any_longer : (p : CoreAction → Bool) (done : List CoreAction) (core_action : CoreAction) → list_any p done ≡ true → list_any p (done ++ core_action ∷ []) ≡ true
any_longer p done core_action is = list_any-append p done (core_action ∷ []) ∙ ap (λ b. b || list_any p (core_action ∷ [])) is

abbrev is_interrupt : CoreAction → Bool
is_interrupt core_action = not (is_by_task core_action)

interrupts_last : (done : List CoreAction) (core_action : CoreAction) → interrupts_of (done ++ core_action ∷ []) ≡ interrupts_of done ++ interrupts_of
    (core_action ∷ [])
interrupts_last done core_action = filter-append is_interrupt done (core_action ∷ [])

no_interrupt : (done : List CoreAction) (core_action : CoreAction) → is_by_task core_action ≡ true → interrupts_of (done ++ core_action ∷ []) ≡ interrupts_of
    done
no_interrupt done core_action by = interrupts_last done core_action ∙ ap (λ b. interrupts_of done ++ cond (not b) (core_action ∷ []) []) by ∙ append-nil
    (interrupts_of done)

-- what was so of a core's past is so when it has seen more
module _ (old new : CoreView) (terms : new.terms ≡ old.terms) (core : new.core ≡ old.core) (begins : StartsWith new.seen old.seen) where
  less_still : (places : ℕ) → HasLessRoom places old → HasLessRoom places new
  less_still places less = (
    less.0,
    begins_through new.seen old.seen less.0 begins less.1,
    subst (λ terms. room_of (recording_of terms less.0) < places)
        (sym terms) less.2,
  )

  idle_still : HasIdleOn old.terms.header old.core old.seen → HasIdleOn new.terms.header new.core new.seen
  idle_still idle = (
    idle.0,
    begins_through new.seen old.seen idle.0 begins idle.1,
    subst (λ core. current (end_of new.terms.header idle.0).control core < new.terms.header.config.cores) (sym core)
        (subst (λ terms. current (end_of terms.header idle.0).control old.core < terms.header.config.cores) (sym terms) idle.2),
  )

  -- no matter which actions it kept, these stand as they did
  pub kept_still : (script : List CoreAction) (kept : List Entry) → IsKept script kept old → IsKept script kept new
  kept_still script kept is = record {
    actions = is.actions;
    part = is.part;
    interrupts = at is.interrupts;
    all = at_all is.all;
  }
    where
      at : (interrupts_of (core_actions_of kept) ≡ interrupts_of script) ⊎ HasLessRoom 1 old → (interrupts_of (core_actions_of kept) ≡ interrupts_of script) ⊎
          HasLessRoom 1 new
      at (inl same) = inl same
      at (inr less) = inr (less_still 1 less)

      at_all : (core_actions_of kept ≡ script) ⊎ HasIdleOn old.terms.header old.core old.seen ⊎ HasLessRoom 2 old ⊎ SwitchesAndHolds script →
          (core_actions_of kept ≡ script) ⊎ HasIdleOn new.terms.header new.core new.seen ⊎ HasLessRoom 2 new ⊎ SwitchesAndHolds script
      at_all (inl same) = inl same
      at_all (inr (inl idle)) = inr (inl (idle_still idle))
      at_all (inr (inr (inl less))) = inr (inr (inl (less_still 2 less)))
      at_all (inr (inr (inr both))) = inr (inr (inr both))

-- an action more of the script, whose entry is the last of those kept, or which was passed over
module _ (done : List CoreAction) (core_action : CoreAction) (kept : List Entry) (seat : CoreView) (is : IsKept done kept seat) where
  both_more : SwitchesAndHolds done → SwitchesAndHolds (done ++ core_action ∷ [])
  both_more both = (any_longer is_switch done core_action both.0, any_longer opens_hold done core_action both.1)

  pub keeps : (entry : Entry) → core_action_of entry.step ≡ Some core_action → IsKept (done ++ core_action ∷ []) (kept ++ entry ∷ []) seat
  keeps entry its = record {
    actions = omega (arith, is.actions, ap length core_actions, length-append (core_actions_of kept) (core_action ∷ []), length-append kept (entry ∷ []));
    part = subst (IsPartOf (done ++ core_action ∷ [])) (sym core_actions) (kept_more done (core_actions_of kept) core_action is.part);
    interrupts = at is.interrupts;
    all = at_all is.all;
  }
    where
      core_actions : core_actions_of (kept ++ entry ∷ []) ≡ core_actions_of kept ++ core_action ∷ []
      core_actions = filter_map-append (λ (entry : Entry). core_action_of entry.step) kept (entry ∷ []) ∙ ap (λ made. core_actions_of kept ++ cons_option made [])
          its

      at : (interrupts_of (core_actions_of kept) ≡ interrupts_of done) ⊎ HasLessRoom 1 seat →
          (interrupts_of (core_actions_of (kept ++ entry ∷ [])) ≡ interrupts_of (done ++ core_action ∷ [])) ⊎ HasLessRoom 1 seat
      at (inl same) = inl (ap interrupts_of core_actions ∙ interrupts_last (core_actions_of kept) core_action ∙ ap
          (λ front. front ++ interrupts_of (core_action ∷ [])) same ∙ sym (interrupts_last done core_action))
      at (inr less) = inr less

      at_all : (core_actions_of kept ≡ done) ⊎ HasIdleOn seat.terms.header seat.core seat.seen ⊎ HasLessRoom 2 seat ⊎ SwitchesAndHolds done →
          (core_actions_of (kept ++ entry ∷ []) ≡ done ++ core_action ∷ []) ⊎ HasIdleOn seat.terms.header seat.core seat.seen ⊎ HasLessRoom 2 seat ⊎
          SwitchesAndHolds (done ++ core_action ∷ [])
      at_all (inl same) = inl (core_actions ∙ ap (λ front. front ++ core_action ∷ []) same)
      at_all (inr (inl idle)) = inr (inl idle)
      at_all (inr (inr (inl less))) = inr (inr (inl less))
      at_all (inr (inr (inr both))) = inr (inr (inr (both_more both)))

  pub passes : (is_by_task core_action ≡ true) ⊎ HasLessRoom 1 seat → HasIdleOn seat.terms.header seat.core seat.seen ⊎ HasLessRoom 2 seat ⊎ SwitchesAndHolds
      (done ++ core_action ∷ []) → IsKept (done ++ core_action ∷ []) kept seat
  passes one why = record {
    actions = is.actions;
    part = passed_more done (core_actions_of kept) core_action is.part;
    interrupts = at is.interrupts one;
    all = inr why;
  }
    where
      at : (interrupts_of (core_actions_of kept) ≡ interrupts_of done) ⊎ HasLessRoom 1 seat → (is_by_task core_action ≡ true) ⊎ HasLessRoom 1 seat →
          (interrupts_of (core_actions_of kept) ≡ interrupts_of (done ++ core_action ∷ [])) ⊎ HasLessRoom 1 seat
      at (inl same) (inl by) = inl (same ∙ sym (no_interrupt done core_action by))
      at (inl same) (inr less) = inr less
      at (inr less) one = inr less

-- the core under way, with one action more of its script
module _ (done : List CoreAction) (core_action : CoreAction) (old : CoreView) (under : IsUnderWay done old) where
  abbrev more : List CoreAction
  more = done ++ core_action ∷ []

  still_holds : depth_at old ≢ 0 → list_any opens_hold more ≡ true
  still_holds some = any_longer opens_hold done core_action (under.holds some)

  module _ (new : CoreView) (result : Result Answer RigRefusal) (acted : HasActed core_action old new result) where
    abbrev found : List Entry
    found = acted.found

    abbrev its : RecordingView
    its = recording_of old.terms acted.found

    abbrev last : Entry
    last = entry_after old core_action acted.found

    abbrev kept_seat : CoreView
    kept_seat = record old { seen = acted.found ++ last ∷ []; made = old.made ++ last ∷ [] }

    abbrev past_seat : CoreView
    past_seat = record old { seen = acted.found }

    holds_by : (b : Bool) → opens_hold core_action ≡ b → depth_by old.core (step_of (act_on old.core core_action its) (table_of its)).1.hold ≢ 0 → list_any
        opens_hold more ≡ true
    holds_by true opens some = any_last opens_hold done core_action opens
    holds_by false none some = still_holds (λ zero. opens_none old.core core_action its (sound_there core_action old new result acted) none some
        (acted.finds.depth ∙ zero))

    kept_one : IsUnderWay more kept_seat
    kept_one = record {
      kept =
          keeps done core_action old.made kept_seat
          (kept_still old kept_seat refl refl (begins_longer acted.found (last ∷ []) old.seen acted.finds.begins) done old.made under.kept) last
          (core_action_made old.core core_action its);
      holds = λ some. holds_by (opens_hold core_action) refl (λ none. some
          (ap (λ (table : Table). depth_by old.core table.hold) (end-push old.terms.header acted.found last) ∙ none));
    }

    one_by : (why : RecordRefusal) → answer_to_core_action old.core core_action its ≡ Err why → (b : Bool) → is_by_task core_action ≡ b →
        (is_by_task core_action ≡ true) ⊎ HasLessRoom 1 past_seat
    one_by why is true is_by = inl is_by
    one_by why is false none = inr (acted.found, begins_with_all acted.found, interrupt_refused old.core core_action its why none is)

    all_by : (task_on old.core its < its.header.config.cores) ⊎ (room_of its < 2) → HasIdleOn old.terms.header old.core acted.found ⊎ HasLessRoom 2 past_seat ⊎
        SwitchesAndHolds more
    all_by (inl idle) = inl (acted.found, begins_with_all acted.found, idle)
    all_by (inr less) = inr (inl (acted.found, begins_with_all acted.found, less))

    passed : (why : RecordRefusal) → answer_to_core_action old.core core_action its ≡ Err why → IsUnderWay more past_seat
    passed why is = record {
      kept =
          passes done core_action old.made past_seat (kept_still old past_seat refl refl acted.finds.begins done old.made under.kept)
          (one_by why is (is_by_task core_action) refl)
          (all_by (core_action_refused old.core core_action its why is));
      holds = λ some. still_holds (λ zero. some (acted.finds.depth ∙ zero));
    }

    went : IsUnderWay more new
    went = at (answer_to_core_action old.core core_action its) refl
      where
        at : (r : Result Answer RecordRefusal) → answer_to_core_action old.core core_action its ≡ r → IsUnderWay more new
        at (Ok answer) is = subst (IsUnderWay more) (sym (made_one core_action old new result acted answer is)) kept_one
        at (Err why) is = subst (IsUnderWay more) (sym (made_none core_action old new result acted why is)) (passed why is)

  -- a switch while the core holds the kernel
  held_on : core_action ≡ core_actions.Switch → depth_at old ≢ 0 → IsUnderWay (done ++ core_action ∷ []) old
  held_on switch some = record {
    kept = passes done core_action old.made old under.kept (inl (ap is_by_task switch))
        (inr (inr (any_last is_switch done core_action (ap is_switch switch), any_longer opens_hold done core_action (under.holds some))));
    holds = λ some. any_longer opens_hold done core_action (under.holds some);
  }

  pub goes_on : (new : CoreView) (result : Result Answer RigRefusal) → DoesAct core_action old new result → IsUnderWay (done ++ core_action ∷ []) new
  goes_on new result (inl acted) = went new result acted
  goes_on new result (inr held) = subst (IsUnderWay (done ++ core_action ∷ [])) (sym held.2) (held_on held.0 held.1)

-- a core that has seen nothing holds nothing
new_holds_nothing : (rig : PairView) (core : ℕ) → depth_at (new_seat rig core) ≡ 0
new_holds_nothing rig core =
    ap (λ (table : Table). depth_by core table.hold) (end_empty rig.terms.header) ∙ ap (depth_by core) (start_free rig.terms.header)

pub initial : (rig : PairView) (seat : CoreView) → seat ≡ new_seat rig seat.core → IsUnderWay [] seat
initial rig seat is = subst (IsUnderWay []) (sym is) (record {
  kept = record { actions = refl; part = refl; interrupts = inl refl; all = inl refl };
  holds = λ some. absurd (some (new_holds_nothing rig seat.core));
})

pub same_again : (seat : CoreView) → IsSameSeat seat seat
same_again seat = record { pair = refl; terms = refl; core = refl }

pub same_through : (old middle new : CoreView) → IsSameSeat old middle → IsSameSeat middle new → IsSameSeat old new
same_through old middle new one two = record { pair = two.pair ∙ one.pair; terms = two.terms ∙ one.terms; core = two.core ∙ one.core }

pub its_still : (rig : PairView) (old new : CoreView) → IsSameSeat old new → IsSeatOf rig old → IsSeatOf rig new
its_still rig old new same its = (same.pair ∙ its.0, same.terms ∙ its.1)

pub taken_one : (script : List CoreAction) (done : ℕ) (d : CoreAction) → done < length script → take (done + 1) script ≡ take done script ++ get_or script done
    d ∷ []
taken_one script done d less = ap (λ n. take n script) {y = suc done} (omega arith) ∙ take-suc script done d less

pub may_act : (old seat : CoreView) (script : List CoreAction) (done : ℕ) (d : CoreAction) → IsSameSeat old seat → done < length script → IsScriptOf
    (settings_of old.terms.header) old.core script → core_action_check (settings_of seat.terms.header) seat.core (get_or script done d) ≡ Ok tt
may_act old seat script done d same less all =
    subst (λ core. core_action_check (settings_of seat.terms.header) core (get_or script done d) ≡ Ok tt) (sym same.core)
    (subst (λ (terms : Terms). core_action_check (settings_of terms.header) old.core (get_or script done d) ≡ Ok tt) (sym same.terms)
    (All-get_or (λ core_action. core_action_check (settings_of old.terms.header) old.core core_action ≡ Ok tt) script done d less all))
