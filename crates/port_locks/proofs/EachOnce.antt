-- Where items are as many as numbers, and each number is one's, no two have the same.
use Rattle.std.proofs.Common.{◌≡◌, ℕ, zero, suc, ◌+◌, ◌-◌, ◌<◌, ◌≤◌, ◌==◌, ◌&&◌, Bool, true, false, true≢false, cond, ◌||◌, nat_lt, List, [], ◌∷◌, length}
use Rattle.std.proofs.Common.{filter, get_or, refl, sym, ap, subst, ◌∙◌, arith, eq-eqb}
use Rattle.std.specs.List.{count_by, list_all, list_any}
use Rattle.std.proofs.lemmas.Bool.Decides.{nat_tests}
use Rattle.std.proofs.lemmas.List.FromFn.{get_or-range_with_len, length-range_with_len}
use Rattle.std.proofs.lemmas.List.Sums.{AllPass-from_list_all, list_all-from_AllPass, length-filter, count_by-le-length}
use Rattle.list_orders.specs.Search.{numbers}

-- a test that some item passes counts some
pub some_counted : {X : Type 0} (p : X → Bool) (xs : List X) → list_any p xs ≡ true
    → 0 < length (filter p xs)
some_counted p [] none = absurd (true≢false (sym none))
some_counted p (x ∷ xs) some = at (p x) some (some_counted p xs)
  where
    at : (b : Bool) → (b || list_any p xs) ≡ true
        → (list_any p xs ≡ true → 0 < length (filter p xs))
        → 0 < length (cond b (x ∷ filter p xs) (filter p xs))
    at true some rest = omega arith
    at false some rest = rest some

-- and some item passes a test that counts some
pub some_passes : {X : Type 0} (p : X → Bool) (xs : List X) → 0 < length (filter p xs)
    → list_any p xs ≡ true
some_passes p [] none = absurd (omega (arith, none))
some_passes p (x ∷ xs) some = at (p x) some (some_passes p xs)
  where
    at : (b : Bool) → 0 < length (cond b (x ∷ filter p xs) (filter p xs))
        → (0 < length (filter p xs) → list_any p xs ≡ true) → (b || list_any p xs) ≡ true
    at true some rest = refl
    at false some rest = rest some

pub and_true : (a b : Bool) → (a && b) ≡ true → (a ≡ true) × (b ≡ true)
and_true true b e = (refl, e)
and_true false b e = absurd (true≢false (sym e))

pub same_number : (m n : ℕ) → (m == n) ≡ true → m ≡ n
same_number m n is = grind (arith, nat_tests)

module _ {X : Type 0} (number_of : X → ℕ) where
  abbrev pub those : ℕ → List X → List X
  those number xs = filter (λ x. number_of x == number) xs

  abbrev lower : ℕ → List X → List X
  lower number xs = filter (λ x. nat_lt (number_of x) number) xs

  abbrev counted : X → Bool → List X → ℕ
  counted x b rest = length (cond b (x ∷ rest) rest)

  lower_next : (n : ℕ) (xs : List X)
      → length (lower (n + 1) xs) ≡ length (lower n xs) + length (those n xs)
  lower_next n [] = refl
  lower_next n (x ∷ xs) =
      at (nat_lt (number_of x) n) (number_of x == n) refl refl (lower_next n xs)
    where
      at : (b c : Bool) → nat_lt (number_of x) n ≡ b → (number_of x == n) ≡ c
          → length (lower (n + 1) xs) ≡ length (lower n xs) + length (those n xs)
          → counted x (nat_lt (number_of x) (n + 1)) (lower (n + 1) xs)
          ≡ counted x b (lower n xs) + counted x c (those n xs)
      at true true less same rest = absurd (grind (arith, nat_tests, less, same))
      at true false less other rest =
          let next : nat_lt (number_of x) (n + 1) ≡ true = grind (arith, nat_tests, less) in
          ap (λ b. counted x b (lower (n + 1) xs)) next ∙ omega (arith, rest)
      at false true more same rest =
          let next : nat_lt (number_of x) (n + 1) ≡ true = grind (arith, nat_tests, same) in
          ap (λ b. counted x b (lower (n + 1) xs)) next ∙ omega (arith, rest)
      at false false more other rest =
          let next : nat_lt (number_of x) (n + 1) ≡ false =
          grind (arith, nat_tests, more, other) in
          ap (λ b. counted x b (lower (n + 1) xs)) next ∙ rest

  -- at least one more of each number
  many_lower : (n k : ℕ) (xs : List X)
      → ((m : ℕ) → m < n + k → 0 < length (those m xs))
      → length (lower n xs) + k ≤ length (lower (n + k) xs)
  many_lower n zero xs some =
      let same : n + 0 ≡ n = omega arith in
      omega (arith, ap (λ m. length (lower m xs)) same)
  many_lower n (suc k) xs some =
      let same : n + suc k ≡ n + k + 1 = omega arith in
      omega (
        arith,
        ap (λ m. length (lower m xs)) same,
        lower_next (n + k) xs,
        some (n + k) (omega arith),
        many_lower n k xs (λ m less. some m (omega (arith, less))),
      )

  -- each number is that of one item
  pub just_one : (cores : ℕ) (xs : List X) → length xs ≡ cores
      → ((m : ℕ) → m < cores → 0 < length (those m xs))
      → (number : ℕ) → number < cores → count_by (λ x. number_of x == number) xs ≡ 1
  just_one cores xs long some number less =
      let rest : ℕ = cores - (number + 1) in
      let whole : number + 1 + rest ≡ cores = omega (arith, less) in
      let plain : 0 + number ≡ number = omega arith in
      let few = length-filter (λ x. nat_lt (number_of x) cores) xs in
      sym (length-filter (λ x. number_of x == number) xs)
      ∙ omega (
        arith,
        long,
        less,
        whole,
        ap (λ m. length (lower m xs)) whole,
        ap (λ m. length (lower m xs)) plain,
        few,
        count_by-le-length (λ x. nat_lt (number_of x) cores) xs,
        some number less,
        many_lower 0 number xs (λ m low. some m (omega (arith, low, less))),
        lower_next number xs,
        many_lower (number + 1) rest xs (λ m low. some m (omega (arith, low, whole))),
      )

  -- the tests of a close: there are so many, and each number is one's
  abbrev pub has : ℕ → List X → Bool
  has number xs = list_any (λ x. number_of x == number) xs

  abbrev pub has_all : ℕ → List X → Bool
  has_all cores xs = list_all (λ number. has number xs) (numbers cores)

  abbrev pub EachOnce : ℕ → List X → Type 0
  EachOnce cores xs =
      (length xs ≡ cores)
      × ((number : ℕ) → number < cores → count_by (λ x. number_of x == number) xs ≡ 1)

  pub number_there : (cores : ℕ) (xs : List X) → has_all cores xs ≡ true → (number : ℕ)
      → number < cores → has number xs ≡ true
  number_there cores xs e number less =
      let each = AllPass-from_list_all (λ n. has n xs) (numbers cores) e in
      let long = length-range_with_len 0 cores in
      let plain : 0 + number ≡ number = omega arith in
      subst (λ n. has n xs ≡ true) (get_or-range_with_len 0 cores number 0 less ∙ plain)
      (each number 0 (omega arith))

  pub each_once : (cores : ℕ) (xs : List X) → ((length xs == cores) && has_all cores xs) ≡ true
      → EachOnce cores xs
  each_once cores xs e =
      let both = and_true (length xs == cores) (has_all cores xs) e in
      let long = same_number (length xs) cores both.0 in (
        long,
        just_one cores xs long
            (λ number less.
            some_counted (λ x. number_of x == number) xs
            (number_there cores xs both.1 number less)),
      )

  number_found : (cores : ℕ) (xs : List X) → EachOnce cores xs → (number : ℕ) → number < cores
      → has number xs ≡ true
  number_found cores xs once number less =
      let test : X → Bool = λ x. number_of x == number in
      some_passes test xs (omega (arith, length-filter test xs, once.1 number less))

  pub all_found : (cores : ℕ) (xs : List X) → EachOnce cores xs
      → ((length xs == cores) && has_all cores xs) ≡ true
  all_found cores xs once =
      let all =
      list_all-from_AllPass (λ n. has n xs) (numbers cores)
      (λ k d less. there k d (let long = length-range_with_len 0 cores in omega (arith, less))) in
      ap (λ b. b && has_all cores xs) (eq-eqb (length xs) cores once.0) ∙ all
    where
      there : (k d : ℕ) → k < cores → has (get_or (numbers cores) k d) xs ≡ true
      there k d less =
          let plain : 0 + k ≡ k = omega arith in
          subst (λ n. has n xs ≡ true) (sym (get_or-range_with_len 0 cores k d less ∙ plain))
          (number_found cores xs once k less)
