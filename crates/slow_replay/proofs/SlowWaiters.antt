-- A list whose items are changed one by one from its start.
use Rattle.std.proofs.Common.{◌≡◌, ℕ, zero, suc, ◌<◌, ◌≤◌, List, [], ◌∷◌, length, map, set, get_or, refl, ap, arith}

-- the list with the first items changed
unfoldable pub changed_to : {X : Type 0} → (X → X) → ℕ → List X → List X
changed_to f zero xs = xs
changed_to f (suc n) [] = []
changed_to f (suc n) (x ∷ xs) = f x ∷ changed_to f n xs

module _ {X : Type 0} (f : X → X) where
  pub changed_length : (n : ℕ) (xs : List X) → length (changed_to f n xs) ≡ length xs
  unfolding changed_to
  changed_length zero xs = refl
  changed_length (suc n) [] = refl
  changed_length (suc n) (x ∷ xs) = ap suc (changed_length n xs)

  -- one more is changed
  pub changed_more : (n : ℕ) (xs : List X) (d : X) → n < length xs → set (changed_to f n xs) n (f (get_or (changed_to f n xs) n d)) ≡ changed_to f (suc n) xs
  unfolding changed_to
  changed_more n [] d below = absurd (omega (arith, below))
  changed_more zero (x ∷ xs) d below = refl
  changed_more (suc n) (x ∷ xs) d below = ap (λ ys. f x ∷ ys) (changed_more n xs d (omega (arith, below)))

  -- all are changed
  pub changed_all : (n : ℕ) (xs : List X) → length xs ≤ n → changed_to f n xs ≡ map f xs
  unfolding changed_to
  changed_all zero [] all = refl
  changed_all zero (x ∷ xs) all = absurd (omega (arith, all))
  changed_all (suc n) [] all = refl
  changed_all (suc n) (x ∷ xs) all = ap (λ ys. f x ∷ ys) (changed_all n xs (omega (arith, all)))
