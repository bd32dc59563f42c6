-- What a core does while it owns the interrupt word, in one piece.
use Rattle.std.proofs.Common.{inl, inr, ◌≡◌, ℕ, Bool, true, false, cond, eqb, [], ◌∷◌, Option, Some, None, refl, sym, ap, subst, ◌∙◌, arith}
use Rattle.std.specs.Prelude.{option_map, is_ok, is_some}
use Rattle.std.proofs.lemmas.Bool.Decides.{nat_tests}
use Rattle.std.proofs.lemmas.Option.{same_Some}
use Rattle.bench_types.specs.declared.kernel_data.Hold.{Hold}
use Rattle.bench_model.specs.Holds.{is_held_by, is_held_elsewhere, depth_of, depth_by}
use Rattle.bench_types.specs.declared.core_action.CoreAction.{CoreAction}
use Rattle.bench_types.specs.declared.core_action.CoreAction.TheVariants as core_actions
use Rattle.bench_types.specs.declared.step.Call.{Call}
use Rattle.bench_types.specs.declared.step.Step.{Step}
use Rattle.bench_types.specs.declared.step.Step.TheVariants as steps
use Rattle.bench_model.specs.History.{end_of, is_kept_out, IsGrowthBy}
use Rattle.bench_model.specs.Sound.{IsSound}
use Rattle.bench_model.specs.Table.{Table}
use Rattle.step_laws.proofs.Nears.{keeps_step}
use Rattle.history_laws.specs.SoundHistories.{IsSoundHistory}
use Rattle.history_laws.proofs.Legal.{end-push}
use Rattle.history_laws.proofs.OwnHolds.{kept_hold, call_holds_own}
use Rattle.history_laws.proofs.Parts.{begins_with_all, begins_with_first}
use Rattle.port_locks.specs.Holds.{own_hold}
use Rattle.port_locks.specs.Seats.{SeatView, owns}
use Rattle.port_locks.specs.Steps.{MayFollow}
use Rattle.recordings.specs.RecordingView.{RecordingView, act_on, after_core_action, answer_to_core_action, entry_of, hold_of, table_of, task_on, with_step}
use Rattle.core_rig.specs.Seats.{recording_of}
use Rattle.core_rig.specs.Stretches.{terms_of, is_call, IsInHand, MayAct}

core_of_hold : Hold → ℕ
core_of_hold hold = hold.core

-- the owner of the task word finds no hold of another core
pub not_elsewhere : (core : ℕ) (hold : Option Hold) → ((other : ℕ) → option_map (λ (h : Hold). h.core) hold ≡ Some other → other ≡ core) → is_held_elsewhere
    core hold ≡ false
not_elsewhere core None may = refl
not_elsewhere core (Some hold) may = let own = may hold.core refl in grind (arith, nat_tests, own)

-- and where it holds nothing itself, no hold at all
pub nobody_holds : (core : ℕ) (hold : Option Hold) → ((other : ℕ) → option_map (λ (h : Hold). h.core) hold ≡ Some other → other ≡ core) → own_hold core hold ≡
    None → is_some hold ≡ false
nobody_holds core None may none = refl
nobody_holds core (Some hold) may none = let own = may hold.core refl in absurd (by (eqb hold.core core) (grind (arith, nat_tests, own)) none)
  where
    by : (b : Bool) → b ≡ true → cond b (Some hold) None ≡ None → ⊥
    by true is none = cc none
    by false is none = cc is

-- a core's depth is that of its own hold
pub depth_of_own : (core : ℕ) (hold : Option Hold) → depth_by core hold ≡ depth_of (own_hold core hold)
depth_of_own core hold = by (is_held_by core hold)
  where
    by : (b : Bool) → cond b (depth_of hold) 0 ≡ depth_of (cond b hold None)
    by true = refl
    by false = refl

pub own_none : (core : ℕ) (hold : Option Hold) → is_held_by core hold ≡ false → own_hold core hold ≡ None
own_none core hold none = ap (λ b. cond b hold None) none

-- and so nobody but the core holds the kernel
pub only_own : (core : ℕ) (hold : Option Hold) → is_held_elsewhere core hold ≡ false → (other : ℕ) → option_map (λ (h : Hold). h.core) hold ≡ Some other → other
    ≡ core
only_own core None free other is = absurd (cc is)
only_own core (Some hold) free other is = let own : hold.core ≡ other = cc is in grind (arith, nat_tests, free, own)

-- a step's entry comes after a history, or nothing does
module _ (step : Step) (view : RecordingView) where
  abbrev grown : Bool → RecordingView
  grown added = cond added (with_step step view) view

  sound_in : (added : Bool) → IsSoundHistory view.header (grown added).entries → IsSound (table_of view)
  sound_in true sound = sound view.entries (begins_with_first view.entries (entry_of step view ∷ []))
  sound_in false sound = sound view.entries (begins_with_all view.entries)

  hold_stays : (added : Bool) → IsSound (table_of view) → keeps_step step ≡ true → hold_of (grown added) ≡ hold_of view
  hold_stays true sound keeps = ap (λ (table : Table). table.hold) (end-push view.header view.entries (entry_of step view)) ∙ kept_hold (table_of view) step
      sound keeps
  hold_stays false sound keeps = refl

  same_terms : (added : Bool) → terms_of (grown added) ≡ terms_of view
  same_terms true = refl
  same_terms false = refl

held_own : (core task : ℕ) (call : Call) (view : RecordingView) (added : Bool) → IsSound (table_of view) → is_held_elsewhere core (hold_of view) ≡ false →
    is_held_elsewhere core (hold_of (grown (steps.Call core task call) view added)) ≡ false
held_own core task call view true sound free =
    let step = steps.Call core task call in
    ap (λ (table : Table). is_held_elsewhere core table.hold) (end-push view.header view.entries (entry_of step view)) ∙ call_holds_own (table_of view) core
    task call sound free
held_own core task call view false sound free = free

-- interrupts, ticks and switches open and close no hold
pub core_action_keeps_hold : (core : ℕ) (core_action : CoreAction) (view : RecordingView) → IsSoundHistory view.header
    (after_core_action core core_action view).entries → is_call core_action ≡ false → hold_of (after_core_action core core_action view) ≡ hold_of view
core_action_keeps_hold core (core_actions.Call call) view sound none = absurd (cc none)
core_action_keeps_hold core (core_actions.Interrupt note) view sound none =
    let added = is_ok (answer_to_core_action core (core_actions.Interrupt note) view) in
    let step = steps.Interrupt core note in
    hold_stays step view added (sound_in step view added sound) refl
core_action_keeps_hold core (core_actions.QueueInterrupt queue direction) view sound none =
    let added = is_ok (answer_to_core_action core (core_actions.QueueInterrupt queue direction) view) in
    let step = steps.QueueInterrupt core queue direction in
    hold_stays step view added (sound_in step view added sound) refl
core_action_keeps_hold core (core_actions.ResumeInterrupt task) view sound none =
    let added = is_ok (answer_to_core_action core (core_actions.ResumeInterrupt task) view) in
    let step = steps.ResumeInterrupt core task in
    hold_stays step view added (sound_in step view added sound) refl
core_action_keeps_hold core core_actions.Tick view sound none =
    let added = is_ok (answer_to_core_action core core_actions.Tick view) in
    hold_stays steps.Tick view added (sound_in steps.Tick view added sound) refl
core_action_keeps_hold core core_actions.Switch view sound none =
    let added = is_ok (answer_to_core_action core core_actions.Switch view) in
    let step = steps.Switch core in
    hold_stays step view added (sound_in step view added sound) refl

-- what a core did may be put back in place of what it found
module _ (core : ℕ) (view : RecordingView) (owns : Bool) where
  unchanged : (core_action : CoreAction) → IsSoundHistory view.header (after_core_action core core_action view).entries → is_call core_action ≡ false →
      (end_of view.header (after_core_action core core_action view).entries).hold ≡ (end_of view.header view.entries).hold
  unchanged core_action sound none = ap (λ header. (end_of header (after_core_action core core_action view).entries).hold)
      (sym (after_header (is_ok (answer_to_core_action core core_action view)))) ∙ core_action_keeps_hold core core_action view sound none
    where
      after_header : (added : Bool) → (grown (act_on core core_action view) view added).header ≡ view.header
      after_header true = refl
      after_header false = refl

  pub may_follow : (core_action : CoreAction) → IsGrowthBy core view.entries (after_core_action core core_action view).entries → IsSoundHistory view.header
      (after_core_action core core_action view).entries → is_kept_out (hold_of view) (act_on core core_action view) ≡ false →
      (is_call core_action ≡ true → owns ≡ true) → MayFollow (terms_of view) core owns view.entries (after_core_action core core_action view).entries
  may_follow (core_actions.Call call) growth sound free taken =
      let added = is_ok (answer_to_core_action core (core_actions.Call call) view) in
      let step = act_on core (core_actions.Call call) view in
      record {
        growth = growth;
        hold = inr (
          taken refl,
          only_own core (end_of view.header (grown step view added).entries).hold
              (in_place step added (held_own core (task_on core view) call view added (sound_in step view added sound) free)),
        );
      }
    where
      in_place : (step : Step) (added : Bool) → is_held_elsewhere core (hold_of (grown step view added)) ≡ false → is_held_elsewhere core
          (end_of view.header (grown step view added).entries).hold ≡ false
      in_place step true is = is
      in_place step false is = is
  may_follow (core_actions.Interrupt note) growth sound free taken = record { growth = growth; hold = inl (unchanged (core_actions.Interrupt note) sound refl) }
  may_follow (core_actions.QueueInterrupt queue direction) growth sound free taken =
      record { growth = growth; hold = inl (unchanged (core_actions.QueueInterrupt queue direction) sound refl) }
  may_follow (core_actions.ResumeInterrupt task) growth sound free taken =
      record { growth = growth; hold = inl (unchanged (core_actions.ResumeInterrupt task) sound refl) }
  may_follow core_actions.Tick growth sound free taken = record { growth = growth; hold = inl (unchanged core_actions.Tick sound refl) }
  may_follow core_actions.Switch growth sound free taken = record { growth = growth; hold = inl (unchanged core_actions.Switch sound refl) }

-- what the core has in hand, its action done, may go back
module _ (seat : SeatView RecordingView) (core_action : CoreAction) where
  abbrev found : RecordingView
  found = recording_of seat.terms seat.seen

  abbrev after : RecordingView
  after = after_core_action seat.number core_action found

  abbrev pub MayGoBack : RecordingView → Type 0
  MayGoBack new =
      (terms_of new ≡ seat.terms)
      × MayFollow seat.terms seat.number (owns seat.task_depth) seat.seen new.entries
      × (is_call core_action ≡ false → (end_of seat.terms.header new.entries).hold ≡ (end_of seat.terms.header seat.seen).hold)

  after_terms : terms_of after ≡ seat.terms
  after_terms = same_terms (act_on seat.number core_action found) found (is_ok (answer_to_core_action seat.number core_action found))

  goes_back : IsGrowthBy seat.number seat.seen after.entries → IsSoundHistory after.header after.entries → MayAct core_action seat → MayGoBack after
  goes_back growth sound may =
      let its = subst (λ terms. IsSoundHistory terms.header after.entries) after_terms sound in (
        after_terms,
        may_follow seat.number found (owns seat.task_depth) core_action growth its may.unheld
            (λ call. let taken = may.owns call in grind (arith, nat_tests, taken)),
        unchanged seat.number found (owns seat.task_depth) core_action its,
      )

  pub put_back : (core : ℕ) (now new : RecordingView) → IsInHand seat → seat.value ≡ Some now → core ≡ seat.number → new ≡ after_core_action core core_action
      now → IsGrowthBy core now.entries new.entries → IsSoundHistory new.header new.entries → MayAct core_action seat → MayGoBack new
  put_back core now new hand value own is growth sound may =
      let here : now ≡ found = same_Some now found (sym value ∙ hand.value) in
      let done : new ≡ after = is ∙ ap (λ core. after_core_action core core_action now) own ∙ ap (after_core_action seat.number core_action) here in
      let grows = subst (λ core. IsGrowthBy core seat.seen after.entries) own
      (subst (λ view. IsGrowthBy core view.entries after.entries) here (subst (λ view. IsGrowthBy core now.entries view.entries) done growth)) in
      subst MayGoBack (sym done) (goes_back grows (subst (λ view. IsSoundHistory view.header view.entries) done sound) may)
