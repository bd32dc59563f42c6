-- Choices and orders, as searches over all that there is.
use Rattle.std.specs.Prelude.{ℕ, zero, suc, List, [], ◌∷◌, ◌++◌, Bool, not, ◌&&◌, ◌||◌, ◌==◌, Option, find, filter, fold}
use Rattle.std.specs.List.{insert, list_all, list_any, prefix_len, range_with_len}

-- the numbers below n
abbrev pub numbers : ℕ → List ℕ
numbers n = range_with_len 0 n

-- the number passes the test and goes before every number that does
abbrev pub is_best : (ℕ → Bool) → (ℕ → ℕ → Bool) → List ℕ → ℕ → Bool
is_best test goes_before ids i = test i && list_all (λ j. not (test j) || goes_before i j) ids

-- that number, if there is one
unfoldable pub best : (ℕ → Bool) → (ℕ → ℕ → Bool) → List ℕ → Option ℕ
best test goes_before ids = find (is_best test goes_before ids) ids

-- the numbers that pass the test, by ascending stamp; the bound is above their stamps
unfoldable pub by_stamp : (ℕ → ℕ) → (ℕ → Bool) → List ℕ → ℕ → List ℕ
by_stamp stamp test ids zero = []
by_stamp stamp test ids (suc bound) =
    by_stamp stamp test ids bound ++ filter (λ i. test i && stamp i == bound) ids

-- the list with x after those that stay in front of it, and before the others
unfoldable pub placed : {X : Type 0} → (X → X → Bool) → X → List X → List X
placed stays_in_front x xs =
    filter (λ y. stays_in_front y x) xs ++ x ∷ filter (λ y. not (stays_in_front y x)) xs

-- the list with x before the first that does not stay in front of it; where the list is in order, x
-- is placed there
abbrev pub inserted : {X : Type 0} → (X → X → Bool) → X → List X → List X
inserted stays_in_front x xs = insert xs (prefix_len (λ y. stays_in_front y x) xs) x

-- the list in the order of a rank, in one rank as it was: each item in turn is placed
unfoldable pub ranked : {X : Type 0} → (X → X → Bool) → List X → List X
ranked stays_in_front xs = fold (λ done x. placed stays_in_front x done) [] xs

-- the list without a number, and whether it has it
abbrev pub without : ℕ → List ℕ → List ℕ
without n ns = filter (λ m. not (m == n)) ns

abbrev pub has : ℕ → List ℕ → Bool
has n ns = list_any (λ m. m == n) ns
