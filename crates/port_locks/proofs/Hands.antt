-- What a seat has in hand.
use Rattle.std.proofs.Common.{◌≡◌, ℕ, Bool, List, [], ◌∷◌, true, cond, Option, Some, None, sym, ap, subst, ◌∙◌}
use Rattle.std.specs.Prelude.{IfSome}
use Rattle.atomic_table.specs.Table.{rest}
use Rattle.port_locks.specs.declared.view.View.{View}
use Rattle.bench_types.specs.declared.entry.Entry.{Entry}
use Rattle.port_locks.specs.declared.view.Terms.{Terms}
use Rattle.port_locks.specs.Steps.{MayFollow}
use Rattle.port_locks.specs.Holds.{hold_after, own_hold}
use Rattle.port_locks.specs.Seats.{SeatView, IsSeated, MayReturn, HasNoHold, owns}

-- the slot that was taken last is the first in hand
pub front_of : {S : Type 0} (held more : List (ℕ × S)) (x : ℕ × S) → held ≡ x ∷ more
    → held ≡ x ∷ rest held
front_of held more x e = e ∙ sym (ap (λ l. x ∷ rest l) e)

module _ {V : Type 0} (view : View) (held : List (ℕ × Option V))
    (number task_depth depth seen : ℕ) (value : Option V)
    (i : IsSeated view held number task_depth depth seen value) where
  pub nothing_held : depth ≡ 0 → held ≡ []
  nothing_held none = i.slot ∙ ap (λ d. cond (owns d) ((0, None) ∷ []) []) none

  pub slot_held : owns depth ≡ true → held ≡ (0, None) ∷ []
  slot_held own = i.slot ∙ ap (λ b. cond b ((0, None) ∷ []) []) own

-- what a seat may put back, by its view
module _ {V : Type 0} (terms_of : V → Terms) (list_of : V → List Entry) where
  abbrev Returns : SeatView V → V → Type 0
  Returns seat value =
      (terms_of value ≡ seat.terms)
      × MayFollow seat.terms seat.number (owns seat.task_depth) seat.seen (list_of value)

  pub may_return : (seat inside : SeatView V) (value : V) → MayReturn terms_of list_of seat
      → seat.value ≡ Some value → inside ≡ seat
      → (terms_of value ≡ inside.terms)
      × MayFollow inside.terms inside.number (owns inside.task_depth) inside.seen (list_of value)
  may_return seat inside value may is same =
      subst (λ (s : SeatView V). Returns s value) (sym same)
      (subst (λ (o : Option V). IfSome o (Returns seat)) is may)

pub same_may : (view : View) (number : ℕ) (own : Bool) (new : List Entry)
    → view.number ≡ number → view.owns_task ≡ own
    → MayFollow view.terms number own view.seen new
    → MayFollow view.terms view.number view.owns_task view.seen new
same_may view number own new is owned may =
    subst (λ (x : ℕ × Bool). MayFollow view.terms x.0 x.1 view.seen new)
    (λ i. (sym is i, sym owned i)) may

-- no hold is open of the seat's number, by its view
pub same_hold : {V : Type 0} (seat inside : SeatView V) (number : ℕ) → inside ≡ seat
    → number ≡ inside.number → HasNoHold seat
    → own_hold number (hold_after inside.terms.header inside.seen) ≡ None
same_hold seat inside number same is none =
    subst (λ (n : ℕ). own_hold n (hold_after inside.terms.header inside.seen) ≡ None) (sym is)
    (subst HasNoHold (sym same) none)
