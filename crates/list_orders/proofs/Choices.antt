-- What a search finds in an ordered list is the best of all.
use Rattle.std.proofs.Common.{◌≡◌, ℕ, zero, suc, ◌<◌, Bool, true, false, cond, not, eqb, ltb, leb, ◌&&◌, ◌||◌, List, [], ◌∷◌, ◌++◌, refl, sym, ap, ◌∙◌, arith}
use Rattle.std.proofs.Common.{inl, inr}
use Rattle.std.specs.Prelude.{◌⊎◌}
use Rattle.std.specs.List.{filter, fold, find, list_all, AllByRecursion}
use Rattle.std.proofs.lemmas.Bool.{cases_Bool}
use Rattle.std.proofs.lemmas.Bool.Decides.{nat_tests}
use Rattle.list_orders.specs.Search.{numbers, best, by_stamp, placed, ranked, has}
use Rattle.list_orders.proofs.Filters.{filter_none, All-filter, All-filter_passes, All-append, All-weaker, All-both, All_each, All-has, find_unique, find_none}
use Rattle.list_orders.proofs.Filters.{list_all_from, list_all_each}
use Rattle.list_orders.proofs.Ranks.{All-placed, IsRank}
use Rattle.list_orders.proofs.Stamped.{numbers_below, numbers_have}

-- each item goes before all later ones
abbrev pub IsOrdered : {X : Type 0} → (X → X → Bool) → List X → Type 0
IsOrdered goes_before [] = Unit {0}
IsOrdered goes_before (x ∷ xs) = AllByRecursion (λ y. goes_before x y ≡ true) xs × IsOrdered goes_before xs

module _ {X : Type 0} (goes_before : X → X → Bool) where
  pub IsOrdered-append : (xs ys : List X) → IsOrdered goes_before xs → IsOrdered goes_before ys → AllByRecursion
      (λ x. AllByRecursion (λ y. goes_before x y ≡ true) ys) xs → IsOrdered goes_before (xs ++ ys)
  IsOrdered-append [] ys left right across = right
  IsOrdered-append (x ∷ xs) ys left right across = (
    All-append (λ y. goes_before x y ≡ true) xs ys left.0 across.0,
    IsOrdered-append xs ys left.1 right
        across.1,
  )

  pub IsOrdered-filter : (p : X → Bool) (xs : List X) → IsOrdered goes_before xs → IsOrdered goes_before (filter p xs)
  IsOrdered-filter p [] ordered = tt
  IsOrdered-filter p (x ∷ xs) ordered = elim (p x) as (λ b. IsOrdered goes_before (cond b (x ∷ filter p xs) (filter p xs))) [
    | true ↦ (All-filter (λ y. goes_before x y ≡ true) p xs ordered.0, IsOrdered-filter p xs ordered.1)
    | false ↦ IsOrdered-filter p xs ordered.1
  ]

  pub IsOrdered-weaker : (other : X → X → Bool) (P : X → Type 0) → ((x y : X) → P x → P y → goes_before x y ≡ true → other x y ≡ true) → (xs : List X) →
      AllByRecursion P xs → IsOrdered goes_before xs → IsOrdered other xs
  IsOrdered-weaker other P weaker [] all ordered = tt
  IsOrdered-weaker other P weaker (x ∷ xs) all ordered = (
    All-weaker (λ y. P y × (goes_before x y ≡ true)) (λ y. other x y ≡ true) (λ y h. weaker x y all.0 h.0 h.1) xs
        (All-both P (λ y. goes_before x y ≡ true) xs all.1 ordered.0),
    IsOrdered-weaker other P weaker xs all.1 ordered.1,
  )

-- a list in which all that pass a test stand in front of the others is those that pass and then the others
pub ordered_parts : {X : Type 0} (p : X → Bool) (xs : List X) → IsOrdered (λ x y. p x || not (p y)) xs → filter p xs ++ filter (λ x. not (p x)) xs ≡ xs
ordered_parts p [] ordered = refl
ordered_parts {X} p (x ∷ xs) ordered = at (p x) refl (ordered_parts p xs ordered.1)
  where
    at : (b : Bool) → p x ≡ b → filter p xs ++ filter (λ y. not (p y)) xs ≡ xs
        → cond b (x ∷ filter p xs) (filter p xs) ++ cond (not b) (x ∷ filter (λ y. not (p y)) xs) (filter (λ y. not (p y)) xs) ≡ x ∷ xs
    at true passes rest = ap (λ ys. x ∷ ys) rest
    at false fails rest =
        let none = filter_none p xs (All-weaker (λ y. (p x || not (p y)) ≡ true) (λ y. p y ≡ false) (λ y h. grind (arith, fails, h)) xs ordered.0) in
        ap (λ ys. ys ++ x ∷ filter (λ y. not (p y)) xs) none ∙ ap (λ ys. x ∷ ys) (ap (λ ys. ys ++ filter (λ y. not (p y)) xs) (sym none) ∙ rest)

-- Items in the order of a rank, and in one rank in another order.
module _ {X : Type 0} (front order : X → X → Bool) where
  abbrev pub ranked_order : X → X → Bool
  ranked_order x y = not (front y x) || (front x y && order x y)

  placed_ordered : IsRank front → (x : X) (done : List X) → IsOrdered ranked_order done → AllByRecursion (λ y. order y x ≡ true) done → IsOrdered ranked_order
      (placed front x done)
  unfolding placed
  placed_ordered rank x done ordered earlier =
      let before = filter (λ y. front y x) done in
      let after = filter (λ y. not (front y x)) done in
      let high : AllByRecursion (λ y. (front y x ≡ true) × (order y x ≡ true)) before = All-both (λ y. front y x ≡ true) (λ y. order y x ≡ true) before
      (All-filter_passes (λ y. front y x) done) (All-filter (λ y. order y x ≡ true) (λ y. front y x) done earlier) in
      let low = All-filter_passes (λ y. not (front y x)) done in
      IsOrdered-append ranked_order before (x ∷ after) (IsOrdered-filter ranked_order (λ y. front y x) done ordered) (
        All-weaker (λ y. not (front y x) ≡ true) (λ y. ranked_order x y ≡ true) (λ y h. grind (arith, h)) after low,
        IsOrdered-filter ranked_order
            (λ y. not (front y x)) done ordered,
      )
      (All-weaker (λ y. (front y x ≡ true) × (order y x ≡ true)) (λ y. AllByRecursion (λ z. ranked_order y z ≡ true) (x ∷ after))
      (λ y h. (
        grind (arith, h.0, h.1),
        All-weaker (λ z. not (front z x) ≡ true) (λ z. ranked_order y z ≡ true)
            (λ z k. across rank x y z h.0 k (front z y) refl) after low,
      )) before high)
    where
      across : IsRank front → (x y z : X) → front y x ≡ true → not (front z x) ≡ true → (b : Bool) → front z y ≡ b → ranked_order y z ≡ true
      across rank x y z ahead following true first = absurd (grind (arith, following, rank.chain z y x first ahead))
      across rank x y z ahead following false last = grind (arith, last)

  ordered-fold : IsRank front → (done xs : List X) → IsOrdered ranked_order done → AllByRecursion (λ x. AllByRecursion (λ y. order y x ≡ true) done) xs →
      IsOrdered order xs → IsOrdered ranked_order (fold (λ done x. placed front x done) done xs)
  ordered-fold rank done [] ordered earlier rising = ordered
  ordered-fold rank done (x ∷ xs) ordered earlier rising =
      let next = All-weaker (λ z. AllByRecursion (λ y. order y z ≡ true) done × (order x z ≡ true))
      (λ z. AllByRecursion (λ y. order y z ≡ true) (placed front x done)) (λ z h. All-placed front (λ y. order y z ≡ true) x done h.1 h.0) xs
      (All-both (λ z. AllByRecursion (λ y. order y z ≡ true) done) (λ z. order x z ≡ true) xs earlier.1 rising.0) in
      ordered-fold rank (placed front x done) xs (placed_ordered rank x done ordered earlier.0) next rising.1

  pub ranked_in_order : IsRank front → (xs : List X) → IsOrdered order xs → IsOrdered ranked_order (ranked front xs)
  unfolding ranked
  ranked_in_order rank xs rising = ordered-fold rank [] xs tt (All_each (λ x. AllByRecursion (λ y. order y x ≡ true) []) (λ x. tt) xs) rising

-- the numbers by stamp are ordered by stamp
pub by_stamp_early : (stamp : ℕ → ℕ) (test : ℕ → Bool) (ids : List ℕ) (bound : ℕ) → AllByRecursion (λ i. stamp i < bound) (by_stamp stamp test ids bound)
unfolding by_stamp
by_stamp_early stamp test ids zero = tt
by_stamp_early stamp test ids (suc b) =
    let last = filter (λ i. test i && eqb (stamp i) b) ids in
    All-append (λ i. stamp i < suc b) (by_stamp stamp test ids b) last
    (All-weaker (λ i. stamp i < b) (λ i. stamp i < suc b) (λ i h. omega arith) (by_stamp stamp test ids b) (by_stamp_early stamp test ids b))
    (All-weaker (λ i. (test i && eqb (stamp i) b) ≡ true) (λ i. stamp i < suc b) (λ i h. grind (arith, nat_tests, h)) last
    (All-filter_passes (λ i. test i && eqb (stamp i) b) ids))

-- those of one stamp
pub stamped_so : (stamp : ℕ → ℕ) (test : ℕ → Bool) (b : ℕ) (ids : List ℕ) → AllByRecursion (λ i. stamp i ≡ b) (filter (λ i. test i && eqb (stamp i) b) ids)
stamped_so stamp test b ids =
    let last = filter (λ i. test i && eqb (stamp i) b) ids in
    All-weaker (λ i. (test i && eqb (stamp i) b) ≡ true) (λ i. stamp i ≡ b) (λ i h. grind (arith, nat_tests, h)) last
    (All-filter_passes (λ i. test i && eqb (stamp i) b) ids)

abbrev stamp_order : (ℕ → ℕ) → ℕ → ℕ → Bool
stamp_order stamp i j = leb (stamp i) (stamp j)

ordered_at_once : (stamp : ℕ → ℕ) (b : ℕ) (ids : List ℕ) → AllByRecursion (λ i. stamp i ≡ b) ids → IsOrdered (stamp_order stamp) ids
ordered_at_once stamp b [] all = tt
ordered_at_once stamp b (i ∷ ids) all = (
  All-weaker (λ j. stamp j ≡ b) (λ j. leb (stamp i) (stamp j) ≡ true) (λ j h. grind (arith, nat_tests, h, all.0)) ids
      all.1,
  ordered_at_once stamp b ids all.1,
)

-- an order that goes by stamps, and is one among numbers of one stamp, is one of the numbers by stamp
pub by_stamp_in_order : (order : ℕ → ℕ → Bool) (stamp : ℕ → ℕ) (test : ℕ → Bool) (ids : List ℕ) → ((i j : ℕ) → stamp i < stamp j → order i j ≡ true) →
    ((b : ℕ) → IsOrdered order (filter (λ i. test i && eqb (stamp i) b) ids)) → (bound : ℕ) → IsOrdered order (by_stamp stamp test ids bound)
unfolding by_stamp
by_stamp_in_order order stamp test ids rises at_once zero = tt
by_stamp_in_order order stamp test ids rises at_once (suc b) =
    let last = filter (λ i. test i && eqb (stamp i) b) ids in
    IsOrdered-append order (by_stamp stamp test ids b) last (by_stamp_in_order order stamp test ids rises at_once b) (at_once b)
    (All-weaker (λ i. stamp i < b) (λ i. AllByRecursion (λ j. order i j ≡ true) last)
    (λ i h. All-weaker (λ j. stamp j ≡ b) (λ j. order i j ≡ true) (λ j e. rises i j (omega (arith, h, e))) last (stamped_so stamp test b ids))
    (by_stamp stamp test ids b) (by_stamp_early stamp test ids b))

pub by_stamp_ordered : (stamp : ℕ → ℕ) (test : ℕ → Bool) (ids : List ℕ) (bound : ℕ) → IsOrdered (stamp_order stamp) (by_stamp stamp test ids bound)
by_stamp_ordered stamp test ids bound =
    by_stamp_in_order (stamp_order stamp) stamp test ids (λ i j h. grind (arith, nat_tests, h))
    (λ b. ordered_at_once stamp b (filter (λ i. test i && eqb (stamp i) b) ids) (stamped_so stamp test b ids)) bound

-- Numbers of a greater rank before those of a smaller, and in one rank by stamp.
module _ (rank stamp : ℕ → ℕ) where
  abbrev pub rank_front : ℕ → ℕ → Bool
  rank_front i j = leb (rank j) (rank i)

  abbrev pub rank_order : ℕ → ℕ → Bool
  rank_order i j = ltb (rank j) (rank i) || (eqb (rank i) (rank j) && leb (stamp i) (stamp j))

  pub rank_front-IsRank : IsRank rank_front
  rank_front-IsRank = record { total = λ a b h. grind (arith, nat_tests, h); chain = λ a b c h k. grind (arith, nat_tests, h, k) }

  pub ranked_ordered : (xs : List ℕ) → IsOrdered (stamp_order stamp) xs → IsOrdered rank_order (ranked rank_front xs)
  ranked_ordered xs rising =
      IsOrdered-weaker (ranked_order rank_front (stamp_order stamp)) rank_order (λ _. Unit {0}) (λ i j _ _ h. grind (arith, nat_tests, h))
      (ranked rank_front xs) (All_each (λ _. Unit {0}) (λ _. tt) (ranked rank_front xs))
      (ranked_in_order rank_front (stamp_order stamp) rank_front-IsRank xs rising)

  leads_at : (test : ℕ → Bool) (x : ℕ) (xs : List ℕ) → AllByRecursion (λ y. rank_order x y ≡ true) xs → (j : ℕ) → has j (x ∷ xs) ≡ test j →
      (not (test j) || rank_order x j) ≡ true
  leads_at test x xs before j same = at (cases_Bool (eqb x j)) (cases_Bool (has j xs))
    where
      at : (eqb x j ≡ true) ⊎ (eqb x j ≡ false) → (has j xs ≡ true) ⊎ (has j xs ≡ false) → (not (test j) || rank_order x j) ≡ true
      at (inl here) found = grind (arith, nat_tests, here)
      at (inr other) (inl found) = grind (arith, All-has (λ y. rank_order x y ≡ true) j xs before found)
      at (inr other) (inr absent) = grind (arith, same, other, absent)

  only_one : (test : ℕ → Bool) (n x : ℕ) (xs : List ℕ) → AllByRecursion (λ y. rank_order x y ≡ true) xs → x < n → test x ≡ true → (i : ℕ) → i < n → has i
      (x ∷ xs) ≡ test i → (test i && list_all (λ j. not (test j) || rank_order i j) (numbers n)) ≡ true →
      ((i j : ℕ) → i < n → j < n → stamp i ≡ stamp j → i ≡ j) → i ≡ x
  only_one test n x xs before low passes i within same chosen once =
      let every = list_all_each (λ j. not (test j) || rank_order i j) (numbers n) (grind (arith, chosen)) in
      let back = All-has (λ j. (not (test j) || rank_order i j) ≡ true) x (numbers n) every (numbers_have n x low) in
      let forth = leads_at test x xs before i same in
      once i x within low (grind (arith, nat_tests, back, forth, passes, chosen))

  -- the first of an ordered list of just those that pass is the best of them
  pub first_is_best : (test : ℕ → Bool) (n : ℕ) (xs : List ℕ) → IsOrdered rank_order xs → AllByRecursion (λ i. i < n) xs → ((i : ℕ) → i < n → has i xs ≡ test i)
      → ((i j : ℕ) → i < n → j < n → stamp i ≡ stamp j → i ≡ j) → find (λ _. true) xs ≡ best test rank_order (numbers n)
  unfolding best
  first_is_best test n [] ordered within same once = sym (find_none (λ i. test i && list_all (λ j. not (test j) || rank_order i j) (numbers n)) (numbers n)
      (All-weaker (λ i. i < n) (λ i. (test i && list_all (λ j. not (test j) || rank_order i j) (numbers n)) ≡ false) (λ i h. grind (arith, same i h))
      (numbers n) (numbers_below n)))
  first_is_best test n (x ∷ xs) ordered within same once =
      let passes : test x ≡ true = grind (arith, nat_tests, same x within.0) in
      let leads : AllByRecursion (λ j. (not (test j) || rank_order x j) ≡ true) (numbers n) = All-weaker (λ j. j < n)
      (λ j. (not (test j) || rank_order x j) ≡ true) (λ j h. leads_at test x xs ordered.0 j (same j h)) (numbers n) (numbers_below n) in
      let p = λ (i : ℕ). test i && list_all (λ j. not (test j) || rank_order i j) (numbers n) in
      let alone : AllByRecursion (λ i. p i ≡ true → i ≡ x) (numbers n) = All-weaker (λ i. i < n) (λ i. p i ≡ true → i ≡ x)
      (λ i h k. only_one test n x xs ordered.0 within.0 passes i h (same i h) k once) (numbers n) (numbers_below n) in
      sym (find_unique p x (numbers n) (numbers_have n x within.0) (grind
      (arith, passes, list_all_from (λ j. not (test j) || rank_order x j) (numbers n) leads)) alone)
