-- Ranked lists: the first item that passes a test, found in the list as it was before the ranking, and what makes two alike.
use Rattle.std.proofs.Common.{◌≡◌, ℕ, ◌+◌, ◌<◌, ◌≤◌, Bool, true, false, cond, not, eqb, leb, ◌&&◌, List, [], ◌∷◌, ◌++◌, length, take, get_or, Some, refl, sym}
use Rattle.std.proofs.Common.{ap, ◌∙◌, arith, inl, inr}
use Rattle.std.specs.List.{filter, find, fold, AllByRecursion}
use Rattle.std.proofs.lemmas.Bool.{cases_lt}
use Rattle.std.proofs.lemmas.Bool.Decides.{nat_tests}
use Rattle.std.proofs.lemmas.List.{append-nil, take_more}
use Rattle.std.proofs.lemmas.List.Elements.{filter-append}
use Rattle.list_orders.specs.Search.{placed, ranked}
use Rattle.list_orders.proofs.Choices.{IsOrdered, IsOrdered-append, IsOrdered-filter}
use Rattle.list_orders.proofs.Filters.{find_filter, filter_none, All-filter_passes, All-weaker}
use Rattle.list_orders.proofs.Ranks.{IsRank, ranked-push, filter-ranked, ranked_same}
use Rattle.list_orders.specs.Scans.{is_better, better_of}

module _ {X : Type 0} (front : X → X → Bool) (rank : IsRank front) where
  after_too : (x y z : X) → front y x ≡ false → front y z ≡ true → front z x ≡ false
  after_too x y z last first = apart (front z x) refl
    where
      apart : (b : Bool) → front z x ≡ b → b ≡ false
      apart true on = absurd (cc (rank.chain y z x first on, last))
      apart false on = refl

  none_ahead : (x y : X) (ys : List X) → front y x ≡ false → AllByRecursion (λ z. front y z ≡ true) ys → filter (λ z. front z x) ys ≡ []
  none_ahead x y ys last first = filter_none (λ z. front z x) ys (All-weaker (λ z. front y z ≡ true) (λ z. front z x ≡ false) (λ z h. after_too x y z last h) ys
      first)

  flipped : (x z : X) → not (front z x) ≡ true → front x z ≡ true
  flipped x z off = rank.total z x (grind (arith, off))

  ordered-placed : (x : X) (xs : List X) → IsOrdered front xs → IsOrdered front (placed front x xs)
  unfolding placed
  ordered-placed x xs ordered =
      let before = filter (λ y. front y x) xs in
      let after = filter (λ y. not (front y x)) xs in
      let lasts : AllByRecursion (λ z. front x z ≡ true) after = All-weaker (λ z. not (front z x) ≡ true) (λ z. front x z ≡ true) (λ z h. flipped x z h) after
      (All-filter_passes (λ y. not (front y x)) xs) in
      IsOrdered-append front before (x ∷ after) (IsOrdered-filter front (λ y. front y x) xs ordered)
      (lasts, IsOrdered-filter front (λ y. not (front y x)) xs ordered)
      (All-weaker (λ y. front y x ≡ true) (λ y. AllByRecursion (λ z. front y z ≡ true) (x ∷ after))
      (λ y h. (h, All-weaker (λ z. front x z ≡ true) (λ z. front y z ≡ true) (λ z k. rank.chain y x z h k) after lasts)) before
      (All-filter_passes (λ y. front y x) xs))

  ordered-fold : (done xs : List X) → IsOrdered front done → IsOrdered front (fold (λ done x. placed front x done) done xs)
  ordered-fold done [] ordered = ordered
  ordered-fold done (x ∷ xs) ordered = ordered-fold (placed front x done) xs (ordered-placed x done ordered)

  pub ordered-ranked : (xs : List X) → IsOrdered front (ranked front xs)
  unfolding ranked
  ordered-ranked xs = ordered-fold [] xs tt

  first-placed : (x : X) (xs : List X) → IsOrdered front xs → find (λ _. true) (placed front x xs) ≡ cond (is_better front (find (λ _. true) xs) x) (Some x)
      (find (λ _. true) xs)
  unfolding placed
  first-placed x [] ordered = refl
  first-placed x (y ∷ ys) ordered = either (front y x) refl
    where
      either : (b : Bool) → front y x ≡ b → find (λ _. true) (cond b (y ∷ filter (λ z. front z x) ys) (filter (λ z. front z x) ys) ++ x ∷ cond (not b)
          (y ∷ filter (λ z. not (front z x)) ys) (filter (λ z. not (front z x)) ys)) ≡ cond (not b) (Some x) (Some y)
      either true first = refl
      either false last = rw (none_ahead x y ys last ordered.0) refl

  first_kept : (p : X → Bool) (xs : List X) → find p (ranked front xs) ≡ find (λ _. true) (ranked front (filter p xs))
  first_kept p xs = find_filter p (ranked front xs) ∙ ap (find (λ _. true)) (filter-ranked front rank p xs)

  -- one more item after the list is the first that passes where it passes and is better
  find-ranked_push : (p : X → Bool) (xs : List X) (x : X) → find p (ranked front (xs ++ x ∷ [])) ≡ better_of front p (find p (ranked front xs)) x
  find-ranked_push p xs x = first_kept p (xs ++ x ∷ []) ∙ ap (λ ys. find (λ _. true) (ranked front ys)) (filter-append p xs (x ∷ [])) ∙ either (p x)
    where
      either : (b : Bool) → find (λ _. true) (ranked front (filter p xs ++ cond b (x ∷ []) [])) ≡ cond (b && is_better front (find p (ranked front xs)) x)
          (Some x) (find p (ranked front xs))
      either true =
          ap (find (λ _. true)) (ranked-push front (filter p xs) x) ∙ first-placed x (ranked front (filter p xs)) (ordered-ranked (filter p xs))
          ∙ ap (λ best. cond (is_better front best x) (Some x) best) (sym (first_kept p xs))
      either false = ap (λ ys. find (λ _. true) (ranked front ys)) (append-nil (filter p xs)) ∙ sym (first_kept p xs)

  pub find-ranked_more : (p : X → Bool) (xs : List X) (i : ℕ) (d : X) → i < length xs → find p (ranked front (take (i + 1) xs)) ≡ better_of front p
      (find p (ranked front (take i xs))) (get_or xs i d)
  find-ranked_more p xs i d low = ap (λ ys. find p (ranked front ys)) (take_more xs i d low) ∙ find-ranked_push p (take i xs) (get_or xs i d)

-- Numbers of a greater rank before those of a smaller: such a list is known by its numbers of each rank.
module _ (rank : ℕ → ℕ) where
  abbrev ahead : ℕ → ℕ → Bool
  ahead i j = leb (rank j) (rank i)

  abbrev of_rank : ℕ → ℕ → Bool
  of_rank r i = eqb (rank i) r

  none_above : (r : ℕ) (y : ℕ) (ys : List ℕ) → IsOrdered ahead (y ∷ ys) → rank y < r → filter (of_rank r) (y ∷ ys) ≡ []
  none_above r y ys ordered low = filter_none (of_rank r) (y ∷ ys) (
    grind (arith, nat_tests, low),
    All-weaker (λ z. ahead y z ≡ true) (λ z. of_rank r z ≡ false)
        (λ z h. grind (arith, nat_tests, h, low)) ys ordered.0,
  )

  first_no_lower : (x y : ℕ) (xs ys : List ℕ) → IsOrdered ahead (y ∷ ys) → filter (of_rank (rank x)) (x ∷ xs) ≡ filter (of_rank (rank x)) (y ∷ ys) → rank x ≤
      rank y
  first_no_lower x y xs ys ordered same = elim (cases_lt (rank y) (rank x)) [
    | inl lower ↦ absurd (grind (arith, nat_tests, same, none_above (rank x) y ys ordered lower))
    | inr no_lower ↦ no_lower
  ]

  pub alike : (xs ys : List ℕ) → IsOrdered ahead xs → IsOrdered ahead ys → ((r : ℕ) → filter (of_rank r) xs ≡ filter (of_rank r) ys) → xs ≡ ys
  alike [] [] left right same = refl
  alike [] (y ∷ ys) left right same = absurd (grind (arith, nat_tests, same (rank y)))
  alike (x ∷ xs) [] left right same = absurd (grind (arith, nat_tests, same (rank x)))
  alike (x ∷ xs) (y ∷ ys) left right same =
      let high = first_no_lower x y xs ys right (same (rank x)) in
      let low = first_no_lower y x ys xs left (sym (same (rank y))) in
      let first : x ≡ y = grind (arith, nat_tests, high, low, same (rank x)) in
      let rest : (r : ℕ) → filter (of_rank r) xs ≡ filter (of_rank r) ys = λ r. grind (arith, nat_tests, first, same r) in
      cc (first, alike xs ys left.1 right.1 rest)

  rank-IsRank : IsRank ahead
  rank-IsRank = record { total = λ a b h. grind (arith, nat_tests, h); chain = λ a b c h k. grind (arith, nat_tests, h, k) }

  -- ranking keeps the order of the numbers of a rank
  pub of_rank-ranked : (r : ℕ) (xs : List ℕ) → filter (of_rank r) (ranked ahead xs) ≡ filter (of_rank r) xs
  of_rank-ranked r xs = filter-ranked ahead rank-IsRank (of_rank r) xs
      ∙ ranked_same ahead (λ i. of_rank r i ≡ true) (λ a b h k. grind (arith, nat_tests, h, k)) (filter (of_rank r) xs) (All-filter_passes (of_rank r) xs)

  -- two lists of ranks below a number are ranked alike where they have the same numbers of each rank, in one order
  pub ranked_alike : (n : ℕ) (xs ys : List ℕ) → AllByRecursion (λ i. rank i < n) xs → AllByRecursion (λ i. rank i < n) ys →
      ((r : ℕ) → r < n → filter (of_rank r) xs ≡ filter (of_rank r) ys) → ranked ahead xs ≡ ranked ahead ys
  ranked_alike n xs ys low lower same = alike (ranked ahead xs) (ranked ahead ys) (ordered-ranked ahead rank-IsRank xs) (ordered-ranked ahead rank-IsRank ys)
      (λ r. of_rank-ranked r xs ∙ each r ∙ sym (of_rank-ranked r ys))
    where
      none : (r : ℕ) → n ≤ r → (zs : List ℕ) → AllByRecursion (λ i. rank i < n) zs → filter (of_rank r) zs ≡ []
      none r high zs all = filter_none (of_rank r) zs (All-weaker (λ i. rank i < n) (λ i. of_rank r i ≡ false) (λ i h. grind (arith, nat_tests, h, high)) zs
          all)

      each : (r : ℕ) → filter (of_rank r) xs ≡ filter (of_rank r) ys
      each r = elim (cases_lt r n) [
        | inl below ↦ same r below
        | inr high ↦ none r high xs low ∙ sym (none r high ys lower)
      ]
