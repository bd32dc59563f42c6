-- A core that holds the kernel closes its hold.
use Rattle.std.proofs.Common.{◌≡◌, ℕ, ◌-◌, ◌<◌, Bool, true, false, cond, eqb, [], ◌∷◌, ◌++◌, Option, Some, None, Result, Ok, Err, refl, sym, ap, subst, ◌∙◌}
use Rattle.std.proofs.Common.{arith, append_assoc}
use Rattle.std.specs.Prelude.{◌≢◌, nat_lt}
use Rattle.std.proofs.lemmas.Bool.Decides.{nat_tests}
use Rattle.std.proofs.lemmas.List.{append-nil}
use Rattle.std.proofs.lemmas.List.Elements.{All-nil, All-push}
use Rattle.bench_types.specs.declared.core_action.CoreAction.TheVariants as core_actions
use Rattle.bench_types.specs.declared.entry.Entry.{Entry}
use Rattle.bench_types.specs.declared.kernel_data.Hold.{Hold}
use Rattle.bench_types.specs.declared.kernel_data.Settings.{Settings}
use Rattle.bench_types.specs.declared.reply.Reply.{Reply}
use Rattle.bench_types.specs.declared.reply.Reply.TheVariants.{Done}
use Rattle.bench_types.specs.declared.step.Call.TheVariants.{HoldClose}
use Rattle.bench_types.specs.declared.step.Step.TheVariants as steps
use Rattle.bench_model.specs.Control.{current}
use Rattle.bench_model.specs.History.{end_of}
use Rattle.bench_model.specs.Holds.{depth_by, depth_of, hold_closed, is_held_by}
use Rattle.bench_model.specs.Session.{step_of}
use Rattle.bench_model.specs.Sound.{IsSound}
use Rattle.bench_model.specs.Table.{Table}
use Rattle.step_laws.proofs.Holds.{its_hold}
use Rattle.history_laws.specs.SoundHistories.{IsSoundHistory}
use Rattle.history_laws.proofs.Legal.{end-push}
use Rattle.history_laws.proofs.Parts.{begins_longer, begins_through, begins_with_all}
use Rattle.history_laws.proofs.Room.{close_done}
use Rattle.recordings.specs.declared.recording.Answer.{Answer}
use Rattle.recordings.specs.declared.recording.RecordRefusal.{RecordRefusal}
use Rattle.recordings.specs.declared.recording.RecordRefusal.TheVariants.{IdleHere, Full}
use Rattle.recordings.specs.RecordingView.{RecordingView, answer_in_room, answer_to, answer_to_core_action, call_on, hold_of, room_of, table_of, task_on}
use Rattle.core_rig.specs.CoreActions.{HasActed, entry_after}
use Rattle.core_rig.specs.declared.fault.RigRefusal.{RigRefusal}
use Rattle.core_rig.specs.Seats.{CoreView, depth_at, recording_of}
use Rattle.core_scripts.specs.Parts.{HasClosed}
use Rattle.core_scripts.specs.Scripts.{IsClose}
use Rattle.core_scripts.proofs.Depths.{its_settings}
use Rattle.core_scripts.proofs.Parts.{made_one, made_none, same_again, same_through, sound_there}

-- a core with a depth is the holder, and the depth is the hold's
holds : (core : ℕ) (hold : Option Hold) → depth_by core hold ≢ 0 → is_held_by core hold ≡ true
holds core hold some = at (is_held_by core hold) some
  where
    at : (b : Bool) → cond {A = ℕ} b (depth_of hold) 0 ≢ 0 → b ≡ true
    at true some = refl
    at false some = absurd (some refl)

-- one less after a close
left_by : (core left : ℕ) → depth_by core (cond (eqb left 0) None (Some (record { core = core; depth = left }))) ≡ left
left_by core left = at (eqb left 0) refl
  where
    at : (b : Bool) → eqb left 0 ≡ b → depth_by core (cond b None (Some (record { core = core; depth = left }))) ≡ left
    at true none = grind (arith, nat_tests, none)
    at false some = ap (λ b. cond {A = ℕ} b left 0) {y = true} (grind (arith, nat_tests))

closed_by : (core : ℕ) (table : Table) → depth_by core (hold_closed core table).hold ≡ depth_of table.hold - 1
unfolding hold_closed
closed_by core table = left_by core (depth_of table.hold - 1)

module _ (old new : CoreView) (result : Result Answer RigRefusal) (acted : HasActed (core_actions.Call HoldClose) old new result) (some : depth_at old ≢ 0)
  where
    abbrev view : RecordingView
    view = recording_of old.terms acted.found

    abbrev entry : Entry
    entry = entry_after old (core_actions.Call HoldClose) acted.found

    abbrev task : ℕ
    task = task_on old.core view

    sound : IsSound (table_of view)
    sound = sound_there (core_actions.Call HoldClose) old new result acted

    held : is_held_by old.core (hold_of view) ≡ true
    held = holds old.core (hold_of view) (λ none. some (sym acted.finds.depth ∙ none))

    sound_history : IsSoundHistory old.terms.header acted.found
    sound_history first begins = at (answer_to_core_action old.core (core_actions.Call HoldClose) view) refl
      where
        at : (r : Result Answer RecordRefusal) → answer_to_core_action old.core (core_actions.Call HoldClose) view ≡ r → IsSound (end_of old.terms.header first)
        at (Ok answer) is = subst (λ (seat : CoreView). IsSoundHistory seat.terms.header seat.seen)
            (made_one (core_actions.Call HoldClose) old new result acted answer is) acted.sound first (begins_longer acted.found (entry ∷ []) first begins)
        at (Err why) is = subst (λ (seat : CoreView). IsSoundHistory seat.terms.header seat.seen)
            (made_none (core_actions.Call HoldClose) old new result acted why is) acted.sound first begins

    -- its task is no idle one, and it needs no room
    user : nat_lt task old.terms.header.config.cores ≡ false
    user =
        let it = its_hold old.core (hold_of view) held in
        let well = (sound.held it.0 it.1).user in
        let same = ap (current (table_of view).control) it.2 in
        let cores = ap (λ (s : Settings). s.cores) (its_settings old.terms.header acted.found sound_history) in
        grind (arith, nat_tests, well, same, cores)

    done : answer_to_core_action old.core (core_actions.Call HoldClose) view ≡ Ok (answer_to (call_on old.core HoldClose view) view)
    done =
        let answer = answer_to (call_on old.core HoldClose view) view in
        ap (λ b. cond {A = Result Answer RecordRefusal} b (Err IdleHere) (answer_in_room (call_on old.core HoldClose view) view)) user
        ∙ ap (λ b. cond {A = Result Answer RecordRefusal} (nat_lt (room_of view) (cond b 0 1)) (Err Full) (Ok answer)) held
        ∙ ap (λ b. cond {A = Result Answer RecordRefusal} b (Err Full) (Ok answer)) {x = nat_lt (room_of view) 0} {y = false} (grind (arith, nat_tests))

    abbrev after : CoreView
    after = record old { seen = acted.found ++ entry ∷ []; made = old.made ++ entry ∷ [] }

    is_after : new ≡ after
    is_after = made_one (core_actions.Call HoldClose) old new result acted _ done

    step_done : step_of (steps.Call old.core task HoldClose) (table_of view) ≡ (Done, hold_closed old.core (table_of view))
    step_done = close_done (table_of view) old.core task sound held refl

    is_close : IsClose entry
    is_close = (refl, ap (λ (made : Reply × Table). made.0) step_done)

    depth_after : depth_at after ≡ depth_of (hold_of view) - 1
    depth_after =
        ap (λ (table : Table). depth_by old.core table.hold) (end-push old.terms.header acted.found entry)
        ∙ ap (λ (made : Reply × Table). depth_by old.core made.1.hold) step_done
        ∙ closed_by old.core (table_of view)

    pub lower : depth_at new < depth_at old
    lower =
        let before : depth_of (hold_of view) ≡ depth_at old = ap (λ b. cond {A = ℕ} b (depth_of (hold_of view)) 0) (sym held) ∙ acted.finds.depth in
        let now = ap depth_at is_after ∙ depth_after in
        let none : ¬ (depth_at old ≡ 0) = some in
        omega (arith, before, now, none)

    -- one close more since an earlier seat
    pub closed_more : (first : CoreView) → HasClosed first old → HasClosed first new
    closed_more first closed = subst (HasClosed first) (sym is_after) (record {
      same = same_through first old after closed.same (record { pair = refl; terms = refl; core = refl });
      closes = closed.closes ++ entry ∷ [];
      made = ap (λ made. made ++ entry ∷ []) closed.made ∙ append_assoc first.made closed.closes (entry ∷ []);
      are_closes = All-push IsClose closed.closes entry closed.are_closes is_close;
      begins = begins_through (acted.found ++ entry ∷ []) old.seen first.seen (begins_longer acted.found (entry ∷ []) old.seen acted.finds.begins)
          closed.begins;
    })

pub closed_none : (seat : CoreView) → HasClosed seat seat
closed_none seat = record {
  same = same_again seat;
  closes = [];
  made = sym (append-nil seat.made);
  are_closes = All-nil IsClose;
  begins = begins_with_all seat.seen;
}

pub deep : (depth : ℕ) (seat : CoreView) → depth ≡ depth_at seat → 0 < depth → depth_at seat ≢ 0
deep depth seat is some none = absurd (omega (arith, is, some, none))
