-- The end of a core's part, and of all parts.
use Rattle.std.proofs.Common.{inl, inr, ◌≡◌, ℕ, suc, ◌+◌, ◌<◌, ◌==◌, ◌&&◌, ◌||◌, zero, Bool, true, false, cond, List, [], ◌∷◌, ◌++◌, length, map, get_or, None}
use Rattle.std.proofs.Common.{Ok, Err, Result, All, refl, sym, ap, subst, ◌∙◌, arith}
use Rattle.std.specs.Prelude.{◌⊎◌, ⊤}
use Rattle.std.specs.List.{list_any}
use Rattle.std.proofs.lemmas.Bool.Decides.{nat_tests}
use Rattle.std.proofs.lemmas.List.{length-append, length-map}
use Rattle.std.proofs.Math.Seq.{get_or-append_seam}
use Rattle.bench_types.specs.Step.{settings_of}
use Rattle.std.proofs.lemmas.List.FromFn.{get_or-range_with_len, length-range_with_len}
use Rattle.std.proofs.lemmas.List.Sums.{list_all-from_AllPass}
use Rattle.std.proofs.Math.ListN.{get_or-map}
use Rattle.bench_types.specs.declared.core_action.CoreAction.{CoreAction}
use Rattle.bench_types.specs.declared.entry.Entry.{Entry}
use Rattle.bench_types.specs.declared.header.Header.{Header}
use Rattle.list_orders.specs.Search.{numbers}
use Rattle.bench_model.specs.Control.{current}
use Rattle.bench_model.specs.History.{end_of}
use Rattle.history_laws.specs.SoundHistories.{IsSoundHistory}
use Rattle.history_laws.proofs.Parts.{begins_through}
use Rattle.port_locks.specs.declared.view.Terms.{Terms}
use Rattle.port_locks.specs.Seats.{PairView}
use Rattle.recordings.specs.RecordingView.{room_of}
use Rattle.core_rig.specs.Closing.{IsEndOf, close_check, has_all_cores, has_core, hold_nothing}
use Rattle.core_rig.specs.declared.fault.CloseFault.{CloseFault}
use Rattle.core_rig.specs.declared.fault.CloseFault.TheVariants.{WrongSeats, HoldOpen}
use Rattle.core_rig.specs.Seats.{CoreView, IsSeatOf, depth_at, new_seat, recording_of}
use Rattle.core_scripts.specs.Parts.{HasClosed, HasEnded, HasIdleOn, HasLessRoom, IsUnderWay}
use Rattle.core_scripts.specs.Played.{ArePlayed, IsPlayed}
use Rattle.core_scripts.specs.Scripts.{AreScripts, IsScriptOf, SwitchesAndHolds, core_actions_of, interrupts_of}
use Rattle.core_scripts.specs.Threads.{AreEnded, HasDonePart}
use Rattle.core_scripts.proofs.Depths.{long_enough}
use Rattle.core_scripts.proofs.Parts.{kept_still}

-- a core that made all actions, and then closed its hold
pub has_ended : (script : List CoreAction) (old new : CoreView) → IsUnderWay script old → HasClosed old new → depth_at new ≡ 0 → HasEnded script new
has_ended script old new under closed rests = record {
  kept = old.made;
  closes = closed.closes;
  made = closed.made;
  are_closes = closed.are_closes;
  is_kept = kept_still old new closed.same.terms closed.same.core closed.begins script old.made under.kept;
  rests = rests;
}

-- what a core knows of its part, in the history at the end
module _ (header : Header) (limit : ℕ) (entries : List Entry) (seat : CoreView) (script : List CoreAction) (sound : IsSoundHistory header entries)
    (unheld : (end_of header entries).hold ≡ None) (terms : seat.terms ≡ record { header = header; limit = limit }) (end : IsEndOf entries seat)
    (ended : HasEnded script seat) where
  -- where there was less room, there are as many entries in the end
  full_at : (places : ℕ) → 0 < places → HasLessRoom places seat → limit < length entries + places
  full_at places some less =
      let room = subst (λ (terms : Terms). room_of (recording_of terms less.0) < places) terms less.2 in
      let long = long_enough header entries less.0 sound unheld (begins_through entries seat.seen less.0 end.0 less.1) in
      omega (arith, room, long, some)

  idle_at : HasIdleOn seat.terms.header seat.core seat.seen → HasIdleOn header seat.core entries
  idle_at idle = (
    idle.0,
    begins_through entries seat.seen idle.0 end.0 idle.1,
    subst (λ (terms : Terms). current (end_of terms.header idle.0).control seat.core < terms.header.config.cores) terms idle.2,
  )

  pub is_played : IsPlayed header limit entries seat.core script
  is_played = record {
    kept = ended.kept;
    closes = ended.closes;
    made = end.1 ∙ ended.made;
    actions = ended.is_kept.actions;
    part = ended.is_kept.part;
    are_closes = ended.are_closes;
    interrupts = λ few. at few ended.is_kept.interrupts;
    all = λ few. at_all few ended.is_kept.all;
  }
    where
      at : length entries < limit → (interrupts_of (core_actions_of ended.kept) ≡ interrupts_of script) ⊎ HasLessRoom 1 seat → interrupts_of
          (core_actions_of ended.kept) ≡ interrupts_of script
      at few (inl same) = same
      at few (inr less) = absurd (omega (arith, few, full_at 1 (omega arith) less))

      at_all : suc (length entries) < limit → (core_actions_of ended.kept ≡ script) ⊎ HasIdleOn seat.terms.header seat.core seat.seen ⊎ HasLessRoom 2 seat ⊎
          SwitchesAndHolds script → (core_actions_of ended.kept ≡ script) ⊎ HasIdleOn header seat.core entries ⊎ SwitchesAndHolds script
      at_all few (inl same) = inl same
      at_all few (inr (inl idle)) = inr (inl (idle_at idle))
      at_all few (inr (inr (inl less))) = absurd (omega (arith, few, full_at 2 (omega arith) less))
      at_all few (inr (inr (inr both))) = inr (inr both)

none_more : (k : ℕ) → 0 + k ≡ k
none_more k = omega arith

or_right : (a : Bool) → (a || true) ≡ true
or_right true = refl
or_right false = refl

any_from : {X : Type 0} (p : X → Bool) (xs : List X) (k : ℕ) (d : X) → k < length xs → p (get_or xs k d) ≡ true → list_any p xs ≡ true
any_from p [] k d less is = absurd (omega (arith, less))
any_from p (x ∷ xs) zero d less is = ap (λ b. b || list_any p xs) is
any_from p (x ∷ xs) (suc k) d less is = ap (λ b. p x || b) (any_from p xs k d (omega (arith, less)) is) ∙ or_right (p x)

abbrev outcome : Bool → Bool → Bool → Result ⊤ CloseFault
outcome long all none = cond (long && all) (cond none (Ok tt) (Err HoldOpen)) (Err WrongSeats)

-- the seats of all cores
module _ (rig : PairView) (scripts : List (List CoreAction)) (seats : List CoreView) (are : AreEnded rig scripts seats) where
  as_many : length seats ≡ length scripts
  as_many = are.count

  core_at : (k : ℕ) (d : CoreView) → k < length seats → (get_or seats k d).core ≡ k
  core_at k d less = (are.done k d less).core_is

  pub played_each : (header : Header) (limit : ℕ) (entries : List Entry) → IsSoundHistory header entries → (end_of header entries).hold ≡ None → rig.terms ≡
      record { header = header; limit = limit } → All (IsEndOf entries) seats → ArePlayed header limit entries scripts
  played_each header limit entries sound unheld terms ends core below =
      let d = new_seat rig 0 in
      let less : core < length seats = omega (arith, below, as_many) in
      let seat = get_or seats core d in
      let script = get_or scripts core [] in
      let own = core_at core d less in
      subst (λ core. IsPlayed header limit entries core script) own
      (is_played header limit entries seat script sound unheld ((are.done core d less).own.1 ∙ terms) (ends core d less) (are.done core d less).ended)

  there : (core : ℕ) → core < length scripts → has_core core seats ≡ true
  there core below =
      let d = new_seat rig 0 in
      let less : core < length seats = omega (arith, below, as_many) in
      let own = core_at core d less in
      any_from (λ (seat : CoreView). seat.core == core) seats core d less (grind (arith, nat_tests, own))

  all_there : has_all_cores (length scripts) seats ≡ true
  all_there = list_all-from_AllPass (λ core. has_core core seats) (numbers (length scripts)) (λ k d less.
      let below : k < length scripts = omega (arith, less, length-range_with_len 0 (length scripts)) in
      let is : get_or (numbers (length scripts)) k d ≡ k = get_or-range_with_len 0 (length scripts) k d below ∙ none_more k in
      ap (λ core. has_core core seats) is ∙ there k below)

  none_held : hold_nothing seats ≡ true
  none_held = list_all-from_AllPass (λ (seat : CoreView). depth_at seat == 0) seats (λ k d less.
      let none = (are.done k d less).ended.rests in
      grind (arith, nat_tests, none))

  -- so the rig may be closed
  pub may_close : (cores : ℕ) → length scripts ≡ cores → close_check cores seats ≡ Ok tt
  may_close cores same = subst (λ cores. close_check cores seats ≡ Ok tt) same
      (ap (λ long. outcome long (has_all_cores (length scripts) seats) (hold_nothing seats)) {y = true} (grind (arith, nat_tests, as_many))
      ∙ ap (λ all. outcome true all (hold_nothing seats)) all_there ∙ ap (outcome true true) none_held)

-- the seats of a new rig, of which so many have been taken
module _ (rig : PairView) (front rest : List CoreView) (seat : CoreView) (are : map (new_seat rig) (numbers rig.cores) ≡ front ++ seat ∷ rest) where
  pub seats_left : length front < rig.cores
  seats_left =
      let long = ap length are in
      omega (arith, long, length-map (numbers rig.cores) (new_seat rig), length-range_with_len 0 rig.cores, length-append front (seat ∷ rest))

  pub nth_seat : seat ≡ new_seat rig (length front)
  nth_seat =
      sym (get_or-append_seam front seat rest (new_seat rig 0)) ∙ ap (λ seats. get_or seats (length front) (new_seat rig 0)) (sym are)
      ∙ get_or-map (new_seat rig) (numbers rig.cores) (length front) 0
      ∙ ap (new_seat rig) (get_or-range_with_len 0 rig.cores (length front) 0 seats_left ∙ none_more (length front))

  pub nth_core : seat.core ≡ length front
  nth_core = ap (λ (seat : CoreView). seat.core) nth_seat

  pub nth_own : IsSeatOf rig seat
  nth_own = subst (IsSeatOf rig) (sym nth_seat) (refl, refl)

  pub nth_new : seat ≡ new_seat rig seat.core
  nth_new = nth_seat ∙ ap (new_seat rig) (sym nth_core)

  module _ (scripts : List (List CoreAction)) (its : AreScripts rig.terms.header scripts) (cores : rig.cores ≡ rig.terms.header.config.cores) where
    pub nth_below : seat.core < length scripts
    nth_below = omega (arith, seats_left, nth_core, cores, its.one_per_core)

    pub nth_script : (script : List CoreAction) → script ≡ get_or scripts seat.core [] → IsScriptOf (settings_of seat.terms.header) seat.core script
    nth_script script is =
        subst (λ script. IsScriptOf (settings_of seat.terms.header) seat.core script) (sym is)
        (subst (λ (terms : Terms). IsScriptOf (settings_of terms.header) seat.core (get_or scripts seat.core [])) (sym nth_own.1)
        (its.core_actions seat.core nth_below))

pub done_at : (rig its : PairView) (core number : ℕ) (script core_actions : List CoreAction) (seat : CoreView) → its ≡ rig → core_actions ≡ script → number ≡
    core → HasDonePart its number core_actions seat → HasDonePart rig core script seat
done_at rig its core number script core_actions seat one two three done =
    subst (λ rig. HasDonePart rig core script seat) one
    (subst (λ script. HasDonePart its core script seat) two (subst (λ core. HasDonePart its core core_actions seat) three done))

pub all_taken : (rig : PairView) (front rest : List CoreView) → map (new_seat rig) (numbers rig.cores) ≡ front ++ rest → length rest ≡ 0 → length front ≡
    rig.cores
all_taken rig front rest are none =
    let long = ap length are in
    let left = none in
    omega (arith, long, left, length-map (numbers rig.cores) (new_seat rig), length-range_with_len 0 rig.cores, length-append front rest)
