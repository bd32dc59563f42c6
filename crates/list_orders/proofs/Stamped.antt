-- The numbers below a bound, and those of them that pass a test, by stamp.
use Rattle.std.proofs.Common.{◌≡◌, ◌≢◌, ℕ, zero, suc, ◌+◌, ◌<◌, ◌≤◌, Bool, true, false, cond, not, eqb, ltb, ◌&&◌, List, [], ◌∷◌, ◌++◌, length, length-append}
use Rattle.std.proofs.Common.{leb, refl, sym, ap, subst, ◌∙◌, add-one, add-zero, zero-add, map, arith}
use Rattle.std.specs.List.{filter, range_with_len, AllByRecursion}
use Rattle.std.proofs.lemmas.List.FromFn.{map-range_with_len_more}
use Rattle.std.proofs.lemmas.List.Elements.{filter-append}
use Rattle.std.proofs.lemmas.Bool.{ne_eqb, cases_eq}
use Rattle.std.proofs.lemmas.Bool.Decides.{nat_tests}
use Rattle.std.proofs.Common.{inl, inr}
use Rattle.list_orders.specs.Search.{numbers, by_stamp, without, has}
use Rattle.list_orders.proofs.Filters.{filter_both, filter_agrees, filter_none, All-filter, All-filter_passes, All-append, All-weaker, All_each}
use Rattle.list_orders.proofs.Filters.{list_any-append, has-filter}

-- numbers from a on
pub range_all : (a n : ℕ) → AllByRecursion (λ i. (a ≤ i) × (i < a + n)) (range_with_len a n)
range_all a zero = tt
range_all a (suc n) = (
  (omega arith, omega arith),
  All-weaker (λ i. (a + 1 ≤ i) × (i < a + 1 + n)) (λ i. (a ≤ i) × (i < a + suc n))
      (λ i h. (omega arith, omega arith)) (range_with_len (a + 1) n) (range_all (a + 1) n),
)

pub numbers_below : (n : ℕ) → AllByRecursion (λ i. i < n) (numbers n)
numbers_below n = All-weaker (λ i. (0 ≤ i) × (i < 0 + n)) (λ i. i < n) (λ i h. omega arith) (numbers n) (range_all 0 n)

range_has : (a n t : ℕ) → a ≤ t → t < a + n → has t (range_with_len a n) ≡ true
range_has a zero t low high = absurd (omega arith)
range_has a (suc n) t low high = elim (cases_eq a t) [
  | inl same ↦ grind (arith, nat_tests, same)
  | inr other ↦ grind (arith, nat_tests, other, range_has (a + 1) n t (omega arith) (omega arith))
]

pub numbers_have : (n t : ℕ) → t < n → has t (numbers n) ≡ true
numbers_have n t below = range_has 0 n t (omega arith) (omega arith)

range_one : (a n t : ℕ) → a ≤ t → t < a + n → filter (λ i. eqb i t) (range_with_len a n) ≡ t ∷ []
range_one a zero t low high = absurd (omega arith)
range_one a (suc n) t low high = elim (cases_eq a t) [
  | inl same ↦
      let others : AllByRecursion (λ i. eqb i t ≡ false) (range_with_len (a + 1) n) = All-weaker (λ i. (a + 1 ≤ i) × (i < a + 1 + n)) (λ i. eqb i t ≡ false)
      (λ i h. ne_eqb i t (λ e. absurd (omega arith))) (range_with_len (a + 1) n) (range_all (a + 1) n) in
      grind (arith, nat_tests, same, filter_none (λ i. eqb i t) (range_with_len (a + 1) n) others)
  | inr other ↦ grind (arith, nat_tests, other, range_one (a + 1) n t (omega arith) (omega arith))
]

-- each number stands in them once
pub numbers_one : (n t : ℕ) → t < n → filter (λ i. eqb i t) (numbers n) ≡ t ∷ []
numbers_one n t below = range_one 0 n t (omega arith) (omega arith)

module _ (stamp : ℕ → ℕ) (test : ℕ → Bool) (ids : List ℕ) where
  pub All-by_stamp : (P : ℕ → Type 0) (bound : ℕ) → AllByRecursion P ids → AllByRecursion P (by_stamp stamp test ids bound)
  unfolding by_stamp
  All-by_stamp P zero all = tt
  All-by_stamp P (suc b) all = All-append P (by_stamp stamp test ids b) (filter (λ i. test i && eqb (stamp i) b) ids) (All-by_stamp P b all)
      (All-filter P (λ i. test i && eqb (stamp i) b) ids all)

  pub All-by_stamp_passes : (bound : ℕ) → AllByRecursion (λ i. test i ≡ true) (by_stamp stamp test ids bound)
  unfolding by_stamp
  All-by_stamp_passes zero = tt
  All-by_stamp_passes (suc b) = All-append (λ i. test i ≡ true) (by_stamp stamp test ids b) (filter (λ i. test i && eqb (stamp i) b) ids)
      (All-by_stamp_passes b)
      (All-weaker (λ i. (test i && eqb (stamp i) b) ≡ true) (λ i. test i ≡ true) (λ i h. grind (arith, h)) (filter (λ i. test i && eqb (stamp i) b) ids)
      (All-filter_passes (λ i. test i && eqb (stamp i) b) ids))

  -- it has the numbers that pass the test and whose stamps are below the bound
  pub has-by_stamp : (i bound : ℕ) → has i (by_stamp stamp test ids bound) ≡ (test i && ltb (stamp i) bound && has i ids)
  unfolding by_stamp
  has-by_stamp i zero = grind (arith, nat_tests)
  has-by_stamp i (suc b) = grind (
    arith,
    nat_tests,
    list_any-append (λ m. eqb m i) (by_stamp stamp test ids b) (filter (λ i. test i && eqb (stamp i) b) ids),
    has-filter (λ i. test i && eqb (stamp i) b) i ids,
    has-by_stamp i b,
  )

  -- a filter keeps those that pass both tests
  pub filter-by_stamp : (p : ℕ → Bool) (bound : ℕ) → filter p (by_stamp stamp test ids bound) ≡ by_stamp stamp (λ i. test i && p i) ids bound
  unfolding by_stamp
  filter-by_stamp p zero = refl
  filter-by_stamp p (suc b) =
      let swapped = filter_agrees (λ i. (test i && p i) && eqb (stamp i) b) (λ i. (test i && eqb (stamp i) b) && p i) ids
      (All_each (λ i. ((test i && p i) && eqb (stamp i) b) ≡ ((test i && eqb (stamp i) b) && p i)) (λ i. grind arith) ids) in
      grind (
        arith,
        filter-append p (by_stamp stamp test ids b) (filter (λ i. test i && eqb (stamp i) b) ids),
        filter-by_stamp p b,
        filter_both
            (λ i. test i && eqb (stamp i) b) p ids,
        swapped,
      )

-- tests that agree on each number pass the same
pub by_stamp_agrees : (stamp : ℕ → ℕ) (test other : ℕ → Bool) (ids : List ℕ) (bound : ℕ) → AllByRecursion (λ i. test i ≡ other i) ids → by_stamp stamp test ids
    bound ≡ by_stamp stamp other ids bound
unfolding by_stamp
by_stamp_agrees stamp test other ids zero same = refl
by_stamp_agrees stamp test other ids (suc b) same =
    let alike = filter_agrees (λ i. test i && eqb (stamp i) b) (λ i. other i && eqb (stamp i) b) ids
    (All-weaker (λ i. test i ≡ other i) (λ i. (test i && eqb (stamp i) b) ≡ (other i && eqb (stamp i) b)) (λ i h. ap (λ t. t && eqb (stamp i) b) h) ids
    same) in
    grind (arith, alike, by_stamp_agrees stamp test other ids b same)

-- a test that none passes
pub by_stamp_none : (stamp : ℕ → ℕ) (test : ℕ → Bool) (ids : List ℕ) (bound : ℕ) → AllByRecursion (λ i. test i ≡ false) ids → by_stamp stamp test ids bound ≡ []
unfolding by_stamp
by_stamp_none stamp test ids zero none = refl
by_stamp_none stamp test ids (suc b) none = grind (
  arith,
  by_stamp_none stamp test ids b none,
  filter_none (λ i. test i && eqb (stamp i) b) ids
      (All-weaker (λ i. test i ≡ false) (λ i. (test i && eqb (stamp i) b) ≡ false) (λ i h. grind (arith, h)) ids none),
)

-- where each stamp below the bound was given to one number, the numbers by stamp are those holders
pub by_stamp_listed : (stamp holder : ℕ → ℕ) (test : ℕ → Bool) (n bound : ℕ) → ((i : ℕ) → i < n → test i ≡ true) →
    ((b : ℕ) → b < bound → (holder b < n) × (stamp (holder b) ≡ b)) → ((i j : ℕ) → i < n → j < n → stamp i ≡ stamp j → i ≡ j) → by_stamp stamp test (numbers n)
    bound ≡ map holder (numbers bound)
unfolding by_stamp
by_stamp_listed stamp holder test n zero all held once = refl
by_stamp_listed stamp holder test n (suc b) all held once =
    let here = held b (omega arith) in
    let alike = filter_agrees (λ i. test i && eqb (stamp i) b) (λ i. eqb i (holder b)) (numbers n)
    (All-weaker (λ i. i < n) (λ i. (test i && eqb (stamp i) b) ≡ eqb i (holder b))
    (λ i low. held_at i low (all i low) here.0 here.1 (once i (holder b) low here.0)) (numbers n) (numbers_below n)) in
    let rest = by_stamp_listed stamp holder test n b all (λ c low. held c (omega arith)) once in
    let more = map-range_with_len_more holder 0 b b (omega arith) in
    let next = add-one b in
    grind (arith, rest, alike, numbers_one n (holder b) here.0, more, ap (λ m. map holder (numbers m)) next)
  where
    held_at : (i : ℕ) → i < n → test i ≡ true → holder b < n → stamp (holder b) ≡ b → (stamp i ≡ stamp (holder b) → i ≡ holder b) → (test i && eqb (stamp i) b)
        ≡ eqb i (holder b)
    held_at i low passes fits given same = elim (cases_eq i (holder b)) [
      | inl here ↦ grind (arith, nat_tests, passes, here, ap stamp here, given)
      | inr away ↦ grind (arith, nat_tests, passes, away, given, same)
    ]

-- consecutive numbers in two parts
pub range_parts : (a m n : ℕ) → range_with_len a (m + n) ≡ range_with_len a m ++ range_with_len (a + m) n
range_parts a zero n = ap (λ k. range_with_len a k) (zero-add n) ∙ ap (λ k. range_with_len k n) (sym (add-zero a))
range_parts a (suc m) n =
    let shifted : (a + 1) + m ≡ a + suc m = omega arith in
    let sum : suc m + n ≡ suc (m + n) = omega arith in
    ap (range_with_len a) sum ∙ ap (λ rest. a ∷ rest) (range_parts (a + 1) m n ∙ ap (λ k. range_with_len (a + 1) m ++ range_with_len k n) shifted)

-- one number more
pub numbers_more : (n : ℕ) → numbers (n + 1) ≡ numbers n ++ n ∷ []
numbers_more n = range_parts 0 n 1 ∙ ap (λ k. numbers n ++ k ∷ []) (zero-add n)

-- One number of many gets the next stamp.
module _ (stamp later : ℕ → ℕ) (test passes : ℕ → Bool) (n next t : ℕ) (below : t < n) (given : (i : ℕ) → i < n → stamp i < next)
    (stays : (i : ℕ) → i ≢ t → later i ≡ stamp i) (same : (i : ℕ) → i ≢ t → passes i ≡ test i) (gets : later t ≡ next) where
  moved_at : (i b : ℕ) → b < next → (passes i && eqb (later i) b) ≡ ((test i && eqb (stamp i) b) && not (eqb i t))
  moved_at i b early = elim (cases_eq i t) [
    | inl here ↦ subst (λ j. (passes j && eqb (later j) b) ≡ ((test j && eqb (stamp j) b) && not (eqb j t))) (sym here) (grind (arith, nat_tests, gets))
    | inr other ↦ grind (arith, nat_tests, other, stays i other, same i other)
  ]

  moved_below : (b : ℕ) → b ≤ next → by_stamp later passes (numbers n) b ≡ without t (by_stamp stamp test (numbers n) b)
  unfolding by_stamp
  moved_below zero early = refl
  moved_below (suc b) early =
      let alike = filter_agrees (λ i. passes i && eqb (later i) b) (λ i. (test i && eqb (stamp i) b) && not (eqb i t)) (numbers n)
      (All_each (λ i. (passes i && eqb (later i) b) ≡ ((test i && eqb (stamp i) b) && not (eqb i t))) (λ i. moved_at i b (omega arith)) (numbers n)) in
      grind (
        arith,
        moved_below b (omega arith),
        alike,
        filter_both (λ i. test i && eqb (stamp i) b) (λ i. not (eqb i t)) (numbers n),
        filter-append
            (λ i. not (eqb i t)) (by_stamp stamp test (numbers n) b) (filter (λ i. test i && eqb (stamp i) b) (numbers n)),
      )

  last_at : (i : ℕ) → i < n → (passes i && eqb (later i) next) ≡ (eqb i t && passes t)
  last_at i low = elim (cases_eq i t) [
    | inl here ↦ subst (λ j. (passes j && eqb (later j) next) ≡ (eqb j t && passes t)) (sym here) (grind (arith, nat_tests, gets))
    | inr other ↦ grind (arith, nat_tests, other, stays i other, given i low)
  ]

  -- it leaves its place, and stands last where it passes
  pub by_stamp_moved : by_stamp later passes (numbers n) (suc next) ≡ without t (by_stamp stamp test (numbers n) next) ++ cond (passes t) (t ∷ []) []
  unfolding by_stamp
  by_stamp_moved =
      let alike = filter_agrees (λ i. passes i && eqb (later i) next) (λ i. eqb i t && passes t) (numbers n)
      (All-weaker (λ i. i < n) (λ i. (passes i && eqb (later i) next) ≡ (eqb i t && passes t)) last_at (numbers n) (numbers_below n)) in
      let one = numbers_one n t below in
      grind (arith, moved_below next (omega arith), alike, filter_both (λ i. eqb i t) (λ _. passes t) (numbers n), one)

length_later : (stamp : ℕ → ℕ) (test : ℕ → Bool) (b : ℕ) (ids : List ℕ) → length (filter (λ i. test i && eqb (stamp i) b) ids) + length
    (filter (λ i. leb (suc b) (stamp i)) ids) ≤ length (filter (λ i. leb b (stamp i)) ids)
length_later stamp test b [] = omega arith
length_later stamp test b (i ∷ ids) = grind (arith, nat_tests, length_later stamp test b ids)

pub length_filter : (p : ℕ → Bool) (ids : List ℕ) → length (filter p ids) ≤ length ids
length_filter p [] = omega arith
length_filter p (i ∷ ids) = grind (arith, length_filter p ids)

pub length_by_stamp : (stamp : ℕ → ℕ) (test : ℕ → Bool) (ids : List ℕ) (bound : ℕ) → length (by_stamp stamp test ids bound) + length
    (filter (λ i. leb bound (stamp i)) ids) ≤ length ids
unfolding by_stamp
length_by_stamp stamp test ids zero = omega (arith, length_filter (λ i. leb zero (stamp i)) ids)
length_by_stamp stamp test ids (suc b) = omega (
  arith,
  length_by_stamp stamp test ids b,
  length_later stamp test b ids,
  length-append
      (by_stamp stamp test ids b) (filter (λ i. test i && eqb (stamp i) b) ids),
)
