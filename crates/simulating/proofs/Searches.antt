-- What searches and sums over all cores, user tasks or interrupts find, from one of them on.
use Rattle.std.proofs.Common.{◌≡◌, ℕ, suc, ◌+◌, ◌-◌, ◌<◌, ◌≤◌, Bool, true, false, cond, List, [], ◌∷◌, length, map, get_or, Option, Some, None, refl, sym, ap, ◌∙◌, arith, min, nat_lt, ◌≢◌}
use Rattle.std.proofs.lemmas.Bool.Decides.{nat_tests}
use Rattle.std.proofs.lemmas.List.{ext_get_or}
use Rattle.std.proofs.lemmas.List.FromFn.{get_or-map-range_with_len, length-map-range_with_len}
use Rattle.std.specs.Prelude.{option_and_then, option_map}
use Rattle.std.specs.List.{cons_option, filter, filter_map, find, range_with_len}
use Rattle.std.specs.Option.{option_map_or}
use Rattle.list_orders.specs.Search.{numbers}
use Rattle.workload_runs.specs.Rule.{least}

-- the numbers from one on: it, and those behind it
pub numbers_from : (i n : ℕ) → i < n → range_with_len i (n - i) ≡ i ∷ range_with_len (i + 1) (n - (i + 1))
numbers_from i n below =
    let more : n - i ≡ suc (n - (i + 1)) = omega (arith, below) in ap (range_with_len i) more

pub numbers_end : (i n : ℕ) → n ≤ i → range_with_len i (n - i) ≡ []
numbers_end i n end = let none : n - i ≡ 0 = omega (arith, end) in ap (range_with_len i) none

-- the first number that passes
pub find_here : (p : ℕ → Bool) (i n : ℕ) → i < n → p i ≡ true → find p (range_with_len i (n - i)) ≡ Some i
find_here p i n below passes = ap (find p) (numbers_from i n below) ∙ ap (λ b. cond b (Some i) (find p (range_with_len (i + 1) (n - (i + 1))))) passes

pub find_behind : (p : ℕ → Bool) (i n : ℕ) → i < n → p i ≡ false
    → find p (range_with_len i (n - i)) ≡ find p (range_with_len (i + 1) (n - (i + 1)))
find_behind p i n below fails =
    ap (find p) (numbers_from i n below) ∙ ap (λ b. cond b (Some i) (find p (range_with_len (i + 1) (n - (i + 1))))) fails

pub find_no_more : (p : ℕ → Bool) (i n : ℕ) → n ≤ i → find p (range_with_len i (n - i)) ≡ None
find_no_more p i n end = ap (find p) (numbers_end i n end)

-- the first of what numbers have that passes
abbrev passing : {Y : Type 0} → (Y → Bool) → Option Y → Option Y
passing p found = option_and_then (λ y. cond (p y) (Some y) None) found

first_of : {Y : Type 0} (p : Y → Bool) (found : Option Y) (rest : List Y) (y : Y) → passing p found ≡ Some y
    → find p (cons_option found rest) ≡ Some y
first_of p None rest y is = absurd (cc (is))
first_of p (Some x) rest y is = at (p x) is
  where
    at : (b : Bool) → cond b (Some x) None ≡ Some y → cond b (Some x) (find p rest) ≡ Some y
    at true is = is
    at false is = absurd (cc (is))

none_of : {Y : Type 0} (p : Y → Bool) (found : Option Y) (rest : List Y) → passing p found ≡ None
    → find p (cons_option found rest) ≡ find p rest
none_of p None rest is = refl
none_of p (Some x) rest is = at (p x) is
  where
    at : (b : Bool) → cond b (Some x) None ≡ None → cond b (Some x) (find p rest) ≡ find p rest
    at true is = absurd (cc (is))
    at false is = refl

pub passing_here : {Y : Type 0} (p : Y → Bool) (f : ℕ → Option Y) (i n : ℕ) (y : Y) → i < n → passing p (f i) ≡ Some y
    → find p (filter_map f (range_with_len i (n - i))) ≡ Some y
passing_here p f i n y below is =
    ap (λ xs. find p (filter_map f xs)) (numbers_from i n below) ∙ first_of p (f i) (filter_map f (range_with_len (i + 1) (n - (i + 1)))) y is

pub passing_behind : {Y : Type 0} (p : Y → Bool) (f : ℕ → Option Y) (i n : ℕ) → i < n → passing p (f i) ≡ None
    → find p (filter_map f (range_with_len i (n - i))) ≡ find p (filter_map f (range_with_len (i + 1) (n - (i + 1))))
passing_behind p f i n below is =
    ap (λ xs. find p (filter_map f xs)) (numbers_from i n below) ∙ none_of p (f i) (filter_map f (range_with_len (i + 1) (n - (i + 1)))) is

pub passing_no_more : {Y : Type 0} (p : Y → Bool) (f : ℕ → Option Y) (i n : ℕ) → n ≤ i → find p (filter_map f (range_with_len i (n - i))) ≡ None
passing_no_more p f i n end = ap (λ xs. find p (filter_map f xs)) (numbers_end i n end)

-- ---- the least of some numbers

-- a number that is 0 doesn't count
pub least_zero : (f : ℕ → ℕ) (bound i n : ℕ) → i < n → f i ≡ 0
    → least bound (filter (nat_lt 0) (map f (range_with_len i (n - i))))
    ≡ least bound (filter (nat_lt 0) (map f (range_with_len (i + 1) (n - (i + 1)))))
least_zero f bound i n below zero_is =
    let rest = map f (range_with_len (i + 1) (n - (i + 1))) in
    ap (λ xs. least bound (filter (nat_lt 0) (map f xs))) (numbers_from i n below)
    ∙ ap (λ x. least bound (filter (nat_lt 0) (x ∷ rest))) zero_is

pub least_some : (f : ℕ → ℕ) (bound i n : ℕ) → i < n → f i ≢ 0
    → least bound (filter (nat_lt 0) (map f (range_with_len i (n - i))))
    ≡ least (min bound (f i)) (filter (nat_lt 0) (map f (range_with_len (i + 1) (n - (i + 1)))))
least_some f bound i n below some =
    let rest = filter (nat_lt 0) (map f (range_with_len (i + 1) (n - (i + 1)))) in
    let passes : nat_lt 0 (f i) ≡ true = grind (arith, nat_tests, some) in
    ap (λ xs. least bound (filter (nat_lt 0) (map f xs))) (numbers_from i n below)
    ∙ ap (λ b. least bound (cond b (f i ∷ rest) rest)) passes

pub least_end : (f : ℕ → ℕ) (bound i n : ℕ) → n ≤ i → least bound (filter (nat_lt 0) (map f (range_with_len i (n - i)))) ≡ bound
least_end f bound i n end = ap (λ xs. least bound (filter (nat_lt 0) (map f xs))) (numbers_end i n end)

-- ---- each item by its number

pub each_by_number : {X : Type 0} (f : ℕ → X) (xs : List X) (n : ℕ) (d : X) → length xs ≡ n → ((i : ℕ) → i < n → get_or xs i d ≡ f i)
    → xs ≡ map f (numbers n)
each_by_number f xs n d many each =
    ext_get_or d xs (map f (numbers n)) (many ∙ sym (length-map-range_with_len f 0 n)) (λ i below.
    each i (omega (arith, many, below)) ∙ sym (get_or-map-range_with_len f 0 n i i d (omega (arith, many, below)) (omega arith)))
