-- Lists in one order: two orders of one list agree on it, and two lists of the same numbers in one order are one.
use Rattle.std.proofs.Common.{◌≡◌, ◌≢◌, ℕ, zero, suc, ◌+◌, ◌<◌, ◌≤◌, Bool, true, false, eqb, ltb, ◌&&◌, List, [], ◌∷◌, refl, sym, ap, ap₂, subst, ◌∙◌, arith}
use Rattle.std.proofs.Common.{inl, inr}
use Rattle.std.specs.Prelude.{◌⊎◌}
use Rattle.std.specs.List.{filter, range_with_len}
use Rattle.std.proofs.lemmas.Bool.{cases_eq}
use Rattle.std.proofs.lemmas.Bool.Decides.{nat_tests}
use Rattle.list_orders.specs.Search.{numbers, by_stamp, has}
use Rattle.list_orders.proofs.Choices.{IsOrdered, IsOrdered-filter, IsOrdered-weaker, stamped_so, by_stamp_in_order}
use Rattle.list_orders.proofs.Filters.{All-filter, All-weaker, All-both, All-has}
use Rattle.list_orders.proofs.Stamped.{range_all, numbers_below}

-- of two numbers of a list that is in two orders, one goes before the other in both
module _ (one other : ℕ → ℕ → Bool) where
  abbrev Leads : ℕ → ℕ → Type 0
  Leads i j = (one i j ≡ true) × (other i j ≡ true)

  leads : (x : ℕ) (xs : List ℕ) → IsOrdered one (x ∷ xs) → IsOrdered other (x ∷ xs) → (j : ℕ) → has j (x ∷ xs) ≡ true → x ≢ j → Leads x j
  leads x xs first second j there apart =
      let later : has j xs ≡ true = grind (arith, nat_tests, there, apart) in
      (All-has (λ y. one x y ≡ true) j xs first.0 later, All-has (λ y. other x y ≡ true) j xs second.0 later)

  pub either_way : (xs : List ℕ) → IsOrdered one xs → IsOrdered other xs → (i j : ℕ) → has i xs ≡ true → has j xs ≡ true → i ≢ j → Leads i j ⊎ Leads j i
  either_way [] first second i j here there apart = absurd (cc (here))
  either_way (x ∷ xs) first second i j here there apart = elim (cases_eq x i) [
    | inl is ↦ inl (subst (λ k. Leads k j) is (leads x xs first second j there (λ e. apart (sym is ∙ e))))
    | inr off ↦ elim (cases_eq x j) [
      | inl is ↦ inr (subst (λ k. Leads k i) is (leads x xs first second i here off))
      | inr away ↦ either_way xs first.1 second.1 i j (grind (arith, nat_tests, here, off)) (grind (arith, nat_tests, there, away)) apart
    ]
  ]

-- where of two numbers at most one goes before the other
module _ (order : ℕ → ℕ → Bool) (apart : (i j : ℕ) → order i j ≡ true → order j i ≡ true → ⊥) where
  once : (x : ℕ) (xs : List ℕ) → IsOrdered order (x ∷ xs) → has x xs ≡ false
  once x xs ordered = at (has x xs) refl
    where
      at : (b : Bool) → has x xs ≡ b → b ≡ false
      at true again = let itself = All-has (λ y. order x y ≡ true) x xs ordered.0 again in absurd (apart x x itself itself)
      at false first = refl

  heads : (x y : ℕ) (xs ys : List ℕ) → IsOrdered order (x ∷ xs) → IsOrdered order (y ∷ ys) → ((i : ℕ) → has i (x ∷ xs) ≡ has i (y ∷ ys)) → x ≡ y
  heads x y xs ys left right same = elim (cases_eq x y) [
    | inl is ↦ is
    | inr off ↦ absurd (apart x y
        (All-has (λ z. order x z ≡ true) y xs left.0 (grind (arith, nat_tests, same y, off)))
        (All-has (λ z. order y z ≡ true) x ys right.0 (grind (arith, nat_tests, same x, off))))
  ]

  tails : (x : ℕ) (xs ys : List ℕ) → has x xs ≡ false → has x ys ≡ false → ((i : ℕ) → has i (x ∷ xs) ≡ has i (x ∷ ys)) → (i : ℕ) → has i xs ≡ has i ys
  tails x xs ys here there same i = elim (cases_eq x i) [
    | inl is ↦ subst (λ j. has j xs ≡ has j ys) is (here ∙ sym there)
    | inr off ↦ grind (arith, nat_tests, same i, off)
  ]

  pub one_list : (xs ys : List ℕ) → IsOrdered order xs → IsOrdered order ys → ((i : ℕ) → has i xs ≡ has i ys) → xs ≡ ys
  one_list [] [] left right same = refl
  one_list [] (y ∷ ys) left right same = absurd (grind (arith, nat_tests, same y))
  one_list (x ∷ xs) [] left right same = absurd (grind (arith, nat_tests, same x))
  one_list (x ∷ xs) (y ∷ ys) left right same =
      let is = heads x y xs ys left right same in
      let also : IsOrdered order (x ∷ ys) = subst (λ z. IsOrdered order (z ∷ ys)) (sym is) right in
      let rest = tails x xs ys (once x xs left) (once x ys also) (λ i. same i ∙ ap (λ z. has i (z ∷ ys)) (sym is)) in
      ap₂ (λ z zs. z ∷ zs) is (one_list xs ys left.1 right.1 rest)

range_rises : (a n : ℕ) → IsOrdered ltb (range_with_len a n)
range_rises a zero = tt
range_rises a (suc n) = (
  All-weaker (λ i. (a + 1 ≤ i) × (i < a + 1 + n)) (λ i. ltb a i ≡ true) (λ i h. grind (arith, nat_tests, h.0)) (range_with_len (a + 1) n)
      (range_all (a + 1) n),
  range_rises (a + 1) n,
)

-- numbers by stamps that were each given once have strictly rising stamps
pub by_stamp_rises : (stamp : ℕ → ℕ) (test : ℕ → Bool) (n : ℕ) → ((i j : ℕ) → i < n → j < n → stamp i ≡ stamp j → i ≡ j) → (bound : ℕ) → IsOrdered
    (λ i j. ltb (stamp i) (stamp j)) (by_stamp stamp test (numbers n) bound)
by_stamp_rises stamp test n given_once bound =
    by_stamp_in_order (λ i j. ltb (stamp i) (stamp j)) stamp test (numbers n) (λ i j h. grind (arith, nat_tests, h)) at_once bound
  where
    at_once : (b : ℕ) → IsOrdered (λ i j. ltb (stamp i) (stamp j)) (filter (λ i. test i && eqb (stamp i) b) (numbers n))
    at_once b =
        let these = λ (i : ℕ). test i && eqb (stamp i) b in
        IsOrdered-weaker ltb (λ i j. ltb (stamp i) (stamp j)) (λ i. (i < n) × (stamp i ≡ b))
        (λ i j h k less. absurd (grind (arith, nat_tests, less, given_once i j h.0 k.0 (h.1 ∙ sym k.1))))
        (filter these (numbers n)) (All-both (λ i. i < n) (λ i. stamp i ≡ b) (filter these (numbers n))
        (All-filter (λ i. i < n) these (numbers n) (numbers_below n)) (stamped_so stamp test b (numbers n)))
        (IsOrdered-filter ltb these (numbers n) (range_rises 0 n))
