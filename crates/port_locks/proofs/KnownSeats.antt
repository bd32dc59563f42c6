-- What a seat knows of the seats that were joined into it.
use Rattle.std.proofs.Common.{◌≡◌, false, Option, ℕ, ◌<◌, List, [], ◌∷◌, ◌++◌, length, get_or, refl, sym, ap, ◌∙◌, subst, ⊎_elim, inl, inr, arith}
use Rattle.std.proofs.Common.{length-append, append_assoc}
use Rattle.std.specs.List.{All}
use Rattle.std.proofs.Math.Seq.{get_or-append_seam}
use Rattle.std.proofs.lemmas.List.{get_or_append_left}
use Rattle.std.proofs.lemmas.List.Elements.{All-cons}
use Rattle.atomic_table.specs.Seated.{TableId}
use Rattle.bench_types.specs.declared.entry.Entry.{Entry}
use Rattle.port_locks.specs.declared.view.Handover.{Handover}
use Rattle.port_locks.specs.declared.view.View.{View}
use Rattle.port_locks.specs.Closing.{Knows, IsFree}
use Rattle.port_locks.specs.Seats.{SeatView, IsSeated, owns}
use Rattle.port_locks.specs.Steps.{handover, gathered}
use Rattle.port_locks.proofs.Hands.{nothing_held}

knows_more : (v w : View) (number : ℕ) (seen made : List Entry) → Knows v number seen made
    → Knows (gathered v w) number seen made
knows_more v w number seen made =
    ⊎_elim inl
    (λ (heard : (k : ℕ) × (t : Handover) × (k < length v.heard)
    × ((d : Handover) → get_or v.heard k d ≡ t) × (t.number ≡ number) × (t.seen ≡ seen)
    × (t.made ≡ made)).
    let long = length-append v.heard (handover w ∷ w.heard) in
    let less = heard.2 in
    inr (
      heard.0,
      heard.1,
      omega arith,
      (λ d. get_or_append_left v.heard (handover w ∷ w.heard) d heard.0 less ∙ heard.3 d),
      heard.4,
      heard.5,
      heard.6,
    ))

knows_new : (v w : View) → Knows (gathered v w) w.number w.seen w.made
knows_new v w =
    let long = length-append v.heard (handover w ∷ w.heard) in
    inr (
      length v.heard,
      handover w,
      omega arith,
      (λ d. get_or-append_seam v.heard (handover w) w.heard d),
      refl,
      refl,
      refl,
    )

module _ {V : Type 0} where
  abbrev pub IsKnown : View → SeatView V → Type 0
  IsKnown v seat = Knows v seat.number seat.seen seat.made

  pub same_known : (v w : View) (seat : SeatView V) → w.number ≡ seat.number
      → w.seen ≡ seat.seen → w.made ≡ seat.made → Knows v w.number w.seen w.made
      → IsKnown v seat
  same_known v w seat number seen made =
      subst (λ (x : ℕ × List Entry × List Entry). Knows v x.0 x.1 x.2)
      (λ i. (number i, seen i, made i))

  -- the first seat knows itself
  pub first_known : (v : View) (seat : SeatView V) → v.number ≡ seat.number
      → v.seen ≡ seat.seen → v.made ≡ seat.made → IsKnown v seat
  first_known v seat number seen made = inl (number, seen, made)

  -- one more is known
  pub one_more_known : (v w u : View) (seat : SeatView V) (rest : List (SeatView V))
      → u ≡ gathered v w → w.number ≡ seat.number → w.seen ≡ seat.seen → w.made ≡ seat.made
      → All (IsKnown v) rest → All (IsKnown u) (seat ∷ rest)
  one_more_known v w u seat rest is number seen made all =
      subst (λ (x : View). All (IsKnown x) (seat ∷ rest)) (sym is)
      (All-cons (IsKnown (gathered v w)) seat rest
      (same_known (gathered v w) w seat number seen made (knows_new v w))
      (λ k d l. knows_more v w _ _ _ (all k d l)))

-- what is so of all is so of one among them
pub all_there : {X : Type 0} (P : X → Type 0) (all front rest : List X) (x : X)
    → all ≡ front ++ x ∷ rest → All P all → P x
all_there P all front rest x is holds =
    let long = length-append front (x ∷ rest) in
    subst P (get_or-append_seam front x rest x)
    (subst (All P) is holds (length front) x (omega arith))

-- the last of those that are left goes to those that were taken
pub moved_over : {X : Type 0} (all old new rest : List X) (x : X) → all ≡ old ++ rest
    → old ≡ new ++ x ∷ [] → all ≡ new ++ x ∷ rest
moved_over all old new rest x is split =
    is ∙ ap (λ l. l ++ rest) split ∙ append_assoc new (x ∷ []) rest

-- a free seat by its fields
pub free_seat : {V : Type 0} (pair : TableId) (view : View) (held : List (ℕ × Option V))
    (number task_depth depth seen : ℕ) (value : Option V)
    → IsSeated view held number task_depth depth seen value → (seat : SeatView V)
    → record {
      pair = pair;
      terms = view.terms;
      number = number;
      task_depth = task_depth;
      interrupt_depth = depth;
      seen = view.seen;
      made = view.made;
      value = value;
    } ≡ seat
    → IsFree seat
    → (held ≡ []) × (view.owns_interrupt ≡ false) × (view.owns_task ≡ false)
    × (view.number ≡ seat.number) × (view.seen ≡ seat.seen) × (view.made ≡ seat.made)
free_seat pair view held number task_depth depth seen value i seat is free =
    let none : depth ≡ 0 = ap (λ s. s.interrupt_depth) is ∙ free.1 in
    let no_task : task_depth ≡ 0 = ap (λ s. s.task_depth) is ∙ free.0 in (
      nothing_held view held number task_depth depth seen value i none,
      i.owns_interrupt ∙ ap owns none,
      i.owns_task ∙ ap owns no_task,
      i.same_number ∙ ap (λ s. s.number) is,
      ap (λ s. s.seen) is,
      ap (λ s. s.made) is,
    )
