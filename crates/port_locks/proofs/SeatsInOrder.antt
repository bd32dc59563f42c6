-- The seats of a new pair, one after another.
use Rattle.std.proofs.Common.{◌≡◌, ℕ, suc, ◌+◌, List, [], ◌∷◌, ◌++◌, length, map, sym, ap, ◌∙◌, arith, length-append}
use Rattle.std.specs.List.{range_with_len}
use Rattle.std.proofs.lemmas.List.FromFn.{map-range_with_len_more}
use Rattle.list_orders.specs.Search.{numbers}
use Rattle.port_locks.specs.Made.{new_seat}
use Rattle.port_locks.specs.Seats.{PairView, SeatView}
use Rattle.port_locks.specs.declared.view.Terms.{Terms}
use Rattle.atomic_table.specs.Seated.{TableId}

pub same_seat : {V : Type 0} (pair : PairView) (table : TableId) (terms : Terms) (number : ℕ)
    (seat : SeatView V) → table ≡ pair.pair → terms ≡ pair.terms
    → seat ≡ new_seat (record { pair = table; terms = terms; cores = 0 }) number
    → seat ≡ new_seat pair number
same_seat pair table terms number seat one two is =
    is ∙ (λ i. new_seat (record { pair = one i; terms = two i; cores = 0 }) number)

module _ {X : Type 0} (f : ℕ → X) where
  pub one_more_made : (old new : List X) (x : X) (number : ℕ) → new ≡ old ++ x ∷ []
      → x ≡ f number → number ≡ 1 + length old → old ≡ map f (range_with_len 1 (length old))
      → (number + 1 ≡ 1 + length new) × (new ≡ map f (range_with_len 1 (length new)))
  one_more_made old new x number e is count all =
      let long : length new ≡ length old + 1 = ap length e ∙ length-append old (x ∷ []) in (
        omega arith,
        e
            ∙ (λ i. all i ++ is i ∷ [])
            ∙ sym (map-range_with_len_more f 1 (length old) number (sym count))
            ∙ ap (λ n. map f (range_with_len 1 n)) (sym long),
      )

  pub all_made : (old new : List X) (x : X) (cores number : ℕ) → new ≡ x ∷ old → x ≡ f 0
      → number ≡ 1 + length old → cores ≡ number
      → old ≡ map f (range_with_len 1 (length old))
      → new ≡ map f (numbers cores)
  all_made old new x cores number e is count last all =
      let long : cores ≡ suc (length old) = omega arith in
      e ∙ (λ i. is i ∷ all i) ∙ ap (λ n. map f (numbers n)) (sym long)
