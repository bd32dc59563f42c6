-- A search through a list that finds nothing.
use Rattle.std.proofs.Common.{◌≡◌, ℕ, suc, ◌+◌, ◌<◌, ◌≤◌, Bool, true, false, not, cond, List, [], ◌∷◌, length, drop, get_or, Some, None, refl, sym, ap, ap₂}
use Rattle.std.proofs.Common.{◌∙◌, arith, add-one, drop-cons}
use Rattle.std.specs.List.{list_all, position, position_from}
use Rattle.std.proofs.lemmas.Bool.{and_parts}
use Rattle.std.proofs.lemmas.List.{drop_all}
use Rattle.std.proofs.lemmas.Iterator.Adapters.{position_from-zero}

module _ {X : Type 0} (p : X → Bool) where
  abbrev pub passes_none : List X → Bool
  passes_none xs = list_all (λ x. not (p x)) xs

  found_none : (b : Bool) (i : ℕ) (xs : List X) → cond b (Some i) (position_from p (i + 1) xs) ≡ None → (b ≡ false) × (position_from p (i + 1) xs ≡ None)
  found_none true i xs found = absurd (cc found)
  found_none false i xs none = (refl, none)

  none_from : (i : ℕ) (xs : List X) → position_from p i xs ≡ None → passes_none xs ≡ true
  none_from i [] is = refl
  none_from i (x ∷ xs) is =
      let parts = found_none (p x) i xs is in
      rw (parts.0, none_from (i + 1) xs parts.1) refl

  from_none : (i : ℕ) (xs : List X) → passes_none xs ≡ true → position_from p i xs ≡ None
  from_none i [] is = refl
  from_none i (x ∷ xs) is =
      let both = and_parts (not (p x)) (passes_none xs) is in
      let here : p x ≡ false = grind (arith, both.0) in
      rw (here, from_none (i + 1) xs both.1) refl

  pub none_there : (xs : List X) → position p xs ≡ None → passes_none xs ≡ true
  none_there xs is = none_from 0 xs (sym (position_from-zero p xs) ∙ is)

  pub none_found : (xs : List X) → passes_none xs ≡ true → position p xs ≡ None
  none_found xs is = position_from-zero p xs ∙ from_none 0 xs is

  -- a search that has come to the place
  abbrev pub IsSoughtTo : List X → ℕ → Type 0
  IsSoughtTo xs i = position_from p i (drop i xs) ≡ position_from p 0 xs

  here : (xs : List X) (i : ℕ) (x : X) → i < length xs → x ≡ get_or xs i x → position_from p i (drop i xs) ≡ cond (p x) (Some i)
      (position_from p (i + 1) (drop (i + 1) xs))
  here xs i x within is =
      let front : drop i xs ≡ get_or xs i x ∷ drop (suc i) xs = drop-cons xs i x within in
      let first : drop i xs ≡ x ∷ drop (i + 1) xs = front ∙ ap₂ (λ y n. y ∷ drop n xs) (sym is) (sym (add-one i)) in
      ap (position_from p i) first

  pub sought_on : (xs : List X) (i : ℕ) (x : X) → i < length xs → x ≡ get_or xs i x → p x ≡ false → IsSoughtTo xs i → IsSoughtTo xs (i + 1)
  sought_on xs i x within is not_this so_far = sym (here xs i x within is ∙ ap (λ b. cond b (Some i) (position_from p (i + 1) (drop (i + 1) xs))) not_this) ∙
      so_far

  pub sought_here : (xs : List X) (i : ℕ) (x : X) → i < length xs → x ≡ get_or xs i x → p x ≡ true → IsSoughtTo xs i → Some i ≡ position p xs
  sought_here xs i x within is this so_far = sym (here xs i x within is ∙ ap (λ b. cond b (Some i) (position_from p (i + 1) (drop (i + 1) xs))) this) ∙ so_far ∙
      sym (position_from-zero p xs)

  pub sought_whole : (xs : List X) (i : ℕ) → length xs ≤ i → IsSoughtTo xs i → None ≡ position p xs
  sought_whole xs i past so_far = sym (ap (position_from p i) (drop_all i xs past)) ∙ so_far ∙ sym (position_from-zero p xs)
