-- Where each number of a pair is, and whom a word names.
use Rattle.std.proofs.Common.{◌≡◌, ℕ, zero, suc, ◌+◌, ◌<◌, ◌≤◌, ◌==◌, List, [], ◌∷◌, ◌++◌, length, set, Bool, true, false, true≢false, refl, sym, ap, ◌∙◌}
use Rattle.std.proofs.Common.{subst, arith, eq-eqb, length-append}
use Rattle.std.specs.List.{All, AllPairs, Any}
use Rattle.std.proofs.Math.Seq.{get_or-append_seam}
use Rattle.std.proofs.lemmas.List.{get_or_append_left, get_or-append-add}
use Rattle.std.proofs.lemmas.List.Elements.{All-append}
use Rattle.std.proofs.lemmas.List.Kept.{AllPairs-cons}
use mathlib.Core.Logic.{dite}
use mathlib.Core.Option as maybe
use native.Mathlib.Decide.{ℕ_discrete}
use lib.ListN.{get_elem?}
use Rattle.atomic_table.proofs.Lists.{set_else}
use Rattle.port_locks.specs.declared.view.Handover.{Handover}
use Rattle.port_locks.specs.declared.view.View.{View}
use Rattle.port_locks.specs.Locks.{PairState, IsHeard, Fits, HasNumber, IsPlaced, IsOwner, NamesOwner, AllFit, AllPlaced}
use Rattle.port_locks.specs.Steps.{handover, gathered}

module _ {X : Type 0} where
  pub set_there : (xs : List X) (i : ℕ) (old new : X) → get_elem? xs i ≡ maybe.some old
      → get_elem? (set xs i new) i ≡ maybe.some new
  set_there [] i old new e = absurd (maybe.some-ne-none old (sym e))
  set_there (x ∷ xs) zero old new e = refl
  set_there (x ∷ xs) (suc i) old new e = set_there xs i old new e

  pub same_there : (xs : List X) (i j : ℕ) (x y : X) → j ≡ i → get_elem? xs i ≡ maybe.some x
      → get_elem? xs j ≡ maybe.some y → x ≡ y
  same_there xs i j x y same at at' =
      maybe.some-injective x y (sym at ∙ ap (get_elem? xs) (sym same) ∙ at')

  Any_left : (P : X → Type 0) (xs ys : List X) → Any P xs → Any P (xs ++ ys)
  Any_left P xs ys a =
      let less : a.0 < length xs = a.2 in
      let long = length-append xs ys in (
        a.0,
        a.1,
        omega arith,
        get_or_append_left xs ys a.1 a.0 less ∙ a.3,
        a.4,
      )

  Any_here : (P : X → Type 0) (xs ys : List X) (y : X) → P y → Any P (xs ++ y ∷ ys)
  Any_here P xs ys y is =
      let long = length-append xs (y ∷ ys) in (
        length xs,
        y,
        omega arith,
        get_or-append_seam xs y ys y,
        is,
      )

  Any_right : (P : X → Type 0) (xs ys : List X) (y : X) → Any P ys → Any P (xs ++ y ∷ ys)
  Any_right P xs ys y a =
      let less : a.0 < length ys = a.2 in
      let long = length-append xs (y ∷ ys) in (
        length xs + suc a.0,
        a.1,
        omega arith,
        get_or-append-add xs (y ∷ ys) (suc a.0) a.1 ∙ a.3,
        a.4,
      )

  -- R holds within two lists, and of each of the one and each of the other
  pub pairs_append : (R : X → X → Type 0) (xs ys : List X) → AllPairs R xs → AllPairs R ys
      → All (λ x. All (R x) ys) xs → AllPairs R (xs ++ ys)
  pairs_append R [] ys within within' across = within'
  pairs_append R (x ∷ xs) ys within within' across =
      AllPairs-cons R x (xs ++ ys)
      (All-append (R x) xs ys
      (λ k d less. within 0 (suc k) d (omega arith) (omega (arith, less)))
      (across 0 x (omega arith)))
      (pairs_append R xs ys
      (λ i j d before less. within (suc i) (suc j) d (omega (arith, before)) (omega (arith, less)))
      within' (λ k d less. across (suc k) d (omega (arith, less))))

-- a number stays where it is while the view there has what it had
pub still_placed : (place : ℕ × Bool) (views : List View) (id : ℕ) (v w : View) (number : ℕ)
    → get_elem? views id ≡ maybe.some v → w.spent ≡ false
    → (HasNumber number place.1 v → HasNumber number place.1 w) → IsPlaced place views number
    → IsPlaced place (set views id w) number
still_placed place views id v w number at kept more here =
    dite (ℕ_discrete place.0 id)
    (λ same. record {
      view = w;
      there = ap (get_elem? (set views id w)) same ∙ set_there views id v w at;
      kept = kept;
      has = more
          (subst (HasNumber number place.1)
          (sym (same_there views id place.0 v here.view same at here.there)) here.has);
    })
    (λ other. record {
      view = here.view;
      there = set_else views id place.0 w other ∙ here.there;
      kept = here.kept;
      has = here.has;
    })

-- the number is had by a view with the same number that was told the same
same_has : (number : ℕ) (own : Bool) (v w : View) → w.number ≡ v.number → w.heard ≡ v.heard
    → HasNumber number own v → HasNumber number own w
same_has number true v w numbers heard has = numbers ∙ has
same_has number false v w numbers heard has =
    subst (Any (λ (t : Handover). t.number ≡ number)) (sym heard) has

-- a step of a seat leaves each number where it is
pub stay_placed : (p : PairState) (views : List View) (id : ℕ) (v w : View)
    → get_elem? views id ≡ maybe.some v → w.spent ≡ false → w.number ≡ v.number
    → w.heard ≡ v.heard → AllPlaced p views → AllPlaced p (set views id w)
stay_placed p views id v w at kept numbers heard all number less =
    still_placed (p.place number) views id v w number at kept
    (same_has number (p.place number).1 v w numbers heard) (all number less)

-- a view that takes in another has what both had
pub gathered_left : (number : ℕ) (own : Bool) (v w : View) → HasNumber number own v
    → HasNumber number own (gathered v w)
gathered_left number true v w has = has
gathered_left number false v w has =
    Any_left (λ (t : Handover). t.number ≡ number) v.heard (handover w ∷ w.heard) has

pub gathered_right : (number : ℕ) (own : Bool) (v w : View) → HasNumber number own w
    → HasNumber number false (gathered v w)
gathered_right number true v w has =
    Any_here (λ (t : Handover). t.number ≡ number) v.heard w.heard (handover w) has
gathered_right number false v w has =
    Any_right (λ (t : Handover). t.number ≡ number) v.heard w.heard (handover w) has

module _ (p : PairState) (owns : View → Bool) (word : ℕ)
    (of_view : (seat : ℕ) (v : View) → Fits p seat v → (word == v.number + 1) ≡ owns v)
    (of_heard : (seat : ℕ) (t : Handover) → IsHeard p seat t → (word == t.number + 1) ≡ false) where
  named : (views : List View) (seat : ℕ) (view : View) (number : ℕ) (own : Bool)
      → get_elem? views seat ≡ maybe.some view → view.spent ≡ false → Fits p seat view
      → HasNumber number own view → word ≡ number + 1 → IsOwner owns views number
  named views seat view number true there kept fits has is = record {
    seat = seat;
    view = view;
    there = there;
    kept = kept;
    same_number = has;
    owner = sym (of_view seat view fits) ∙ eq-eqb word (view.number + 1) (omega (arith, has, is));
  }
  named views seat view number false there kept fits has is =
      let same : has.1.number ≡ number = has.4 in
      let heard : IsHeard p seat has.1 =
      subst (IsHeard p seat) has.3 (fits.heard has.0 has.1 has.2) in
      absurd
      (true≢false
      (sym (eq-eqb word (has.1.number + 1) (omega (arith, same, is))) ∙ of_heard seat has.1 heard))

  names_owner : (views : List View) → AllFit p views → AllPlaced p views → word ≤ p.given
      → NamesOwner owns views word
  names_owner views fit placed few number is =
      let here = placed number (omega arith) in
      named views (p.place number).0 here.view number (p.place number).1 here.there here.kept
      (fit (p.place number).0 here.view here.there here.kept) here.has is

pub names_interrupt : (p : PairState) (views : List View) → AllFit p views → AllPlaced p views
    → p.interrupt ≤ p.given → NamesOwner (λ v. v.owns_interrupt) views p.interrupt
names_interrupt p views =
    names_owner p (λ v. v.owns_interrupt) p.interrupt (λ seat v fits. fits.interrupt)
    (λ seat t is. is.interrupt) views

pub names_task : (p : PairState) (views : List View) → AllFit p views → AllPlaced p views
    → p.task ≤ p.given → NamesOwner (λ v. v.owns_task) views p.task
names_task p views =
    names_owner p (λ v. v.owns_task) p.task (λ seat v fits. fits.task) (λ seat t is. is.task)
    views
