-- One more item in a list, at a place or before the first that does not stay in front of it.
use Rattle.std.proofs.Common.{◌≡◌, ℕ, zero, suc, ◌+◌, Bool, true, false, cond, List, [], ◌∷◌, ap, ◌∙◌, arith}
use Rattle.std.specs.List.{insert, prefix_len, AllByRecursion}
use Rattle.list_orders.specs.Search.{inserted}

-- what holds of all items and of one more
pub All-insert : {X : Type 0} (P : X → Type 0) (x : X) → P x → (n : ℕ) (xs : List X) → AllByRecursion P xs → AllByRecursion P (insert xs n x)
All-insert P x here zero [] all = (here, tt)
All-insert P x here zero (y ∷ ys) all = (here, all)
All-insert P x here (suc n) [] all = (here, tt)
All-insert P x here (suc n) (y ∷ ys) all = (all.0, All-insert P x here n ys all.1)

module _ {X : Type 0} (front : X → X → Bool) (x : X) where
  -- it goes behind those that stay in front
  pub inserted_behind : (y : X) (ys : List X) → front y x ≡ true → inserted front x (y ∷ ys) ≡ y ∷ inserted front x ys
  inserted_behind y ys on =
      let n = prefix_len (λ z. front z x) ys in
      let one : 1 + n ≡ suc n = omega arith in
      ap (λ b. insert (y ∷ ys) (cond b (1 + n) 0) x) on ∙ ap (λ k. insert (y ∷ ys) k x) one

  -- and in front of the others
  pub inserted_here : (y : X) (ys : List X) → front y x ≡ false → inserted front x (y ∷ ys) ≡ x ∷ y ∷ ys
  inserted_here y ys off = ap (λ b. insert (y ∷ ys) (cond b (1 + prefix_len (λ z. front z x) ys) 0) x) off

  pub All-inserted : (P : X → Type 0) (xs : List X) → P x → AllByRecursion P xs → AllByRecursion P (inserted front x xs)
  All-inserted P xs here all = All-insert P x here (prefix_len (λ y. front y x) xs) xs all
