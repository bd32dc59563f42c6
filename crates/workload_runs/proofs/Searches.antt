-- What a search among numbers, and among what comes of them, finds; the least of some numbers.
use Rattle.std.proofs.Common.{◌≡◌, ℕ, zero, suc, ◌+◌, ◌<◌, ◌≤◌, Bool, true, false, cond, List, [], ◌∷◌, Option, Some, None, refl, sym, ap, inl, inr, arith, ◌∙◌}
use Rattle.std.specs.Prelude.{◌⊎◌, min, option_and_then, Contains}
use Rattle.std.specs.List.{find, filter_map, fold, range_with_len, AllByRecursion}
use Rattle.std.specs.Option.{option_map_or}
use Rattle.std.proofs.lemmas.Bool.{cases_eq, cases_lt}

-- ---- numbers

-- the number that was found is the least that passes
pub record IsLeast (p : ℕ → Bool) (low high number : ℕ) : Type 0 where
  pub from : low ≤ number
  pub below : number < high
  pub passes : p number ≡ true
  pub least : (less : ℕ) → low ≤ less → less < number → p less ≡ false

module _ (p : ℕ → Bool) where
  pub least_found : (a n c : ℕ) → find p (range_with_len a n) ≡ Some c → IsLeast p a (a + n) c
  least_found a zero c found = absurd (cc found)
  least_found a (suc n) c found = at (p a) refl found (least_found (a + 1) n c)
    where
      at :
          (b : Bool) → p a ≡ b → cond b (Some a) (find p (range_with_len (a + 1) n)) ≡ Some c
          → (find p (range_with_len (a + 1) n) ≡ Some c → IsLeast p (a + 1) (a + 1 + n) c) → IsLeast p a (a + suc n) c
      at true passes found rest =
          let same : a ≡ c = cc found in
          record {
            from = omega (arith, same);
            below = omega (arith, same);
            passes = ap p (sym same) ∙ passes;
            least = λ less low high. absurd (omega (arith, same, low, high));
          }
      at false fails found rest =
          let later = rest found in
          record {
            from = omega (arith, later.from);
            below = omega (arith, later.below);
            passes = later.passes;
            least = λ less low high. elim (cases_eq a less) [
              | inl same ↦ ap p (sym same) ∙ fails
              | inr other ↦ later.least less (omega arith) high
            ];
          }

  pub none_found : (a n : ℕ) → find p (range_with_len a n) ≡ None → (c : ℕ) → a ≤ c → c < a + n → p c ≡ false
  none_found a zero none c low high = absurd (omega arith)
  none_found a (suc n) none c low high = at (p a) refl none (none_found (a + 1) n)
    where
      at :
          (b : Bool) → p a ≡ b → cond b (Some a) (find p (range_with_len (a + 1) n)) ≡ None
          → (find p (range_with_len (a + 1) n) ≡ None → (c : ℕ) → a + 1 ≤ c → c < a + 1 + n → p c ≡ false) → p c ≡ false
      at true passes none rest = absurd (cc none)
      at false fails none rest = elim (cases_eq a c) [
        | inl same ↦ ap p (sym same) ∙ fails
        | inr other ↦ rest none c (omega arith) (omega arith)
      ]

-- ---- what comes of numbers

-- of the least number of which something that passes comes, it comes
pub record IsFirst {Y : Type 0} (f : ℕ → Option Y) (p : Y → Bool) (high : ℕ) (y : Y) : Type 0 where
  pub number : ℕ
  pub below : number < high
  pub is : f number ≡ Some y
  pub passes : p y ≡ true
  pub least : (less : ℕ) → less < number → (z : Y) → f less ≡ Some z → p z ≡ false

module _ {Y : Type 0} (f : ℕ → Option Y) (p : Y → Bool) where
  -- something comes of the number, and it passes
  abbrev hits : ℕ → Bool
  hits x = option_map_or p (f x) false

  hits_as : (x : ℕ) (y : Y) → f x ≡ Some y → hits x ≡ p y
  hits_as x y is = ap (λ o. option_map_or p o false) is

  find_mapped : (xs : List ℕ) → find p (filter_map f xs) ≡ option_and_then f (find hits xs)
  find_mapped [] = refl
  find_mapped (x ∷ xs) = at (f x) refl (find_mapped xs)
    where
      at : (o : Option Y) → f x ≡ o → find p (filter_map f xs) ≡ option_and_then f (find hits xs)
          → find p (filter_map f (x ∷ xs)) ≡ option_and_then f (find hits (x ∷ xs))
      at None none rest = rw none rest
      at (Some y) some rest = rw some (passing (p y) rest)
        where
          passing : (b : Bool) → find p (filter_map f xs) ≡ option_and_then f (find hits xs)
              → cond b (Some y) (find p (filter_map f xs)) ≡ option_and_then f (cond b (Some x) (find hits xs))
          passing true rest = sym some
          passing false rest = rest

  pub first_found : (n : ℕ) (y : Y) → find p (filter_map f (range_with_len 0 n)) ≡ Some y → IsFirst f p n y
  first_found n y found = at (find hits (range_with_len 0 n)) refl (sym (find_mapped (range_with_len 0 n)) ∙ found)
    where
      at : (o : Option ℕ) → find hits (range_with_len 0 n) ≡ o → option_and_then f o ≡ Some y → IsFirst f p n y
      at None none is = absurd (cc is)
      at (Some c) some is =
          let least = least_found hits 0 n c some in
          record {
            number = c;
            below = omega (arith, least.below);
            is = is;
            passes = sym (hits_as c y is) ∙ least.passes;
            least = λ less low z comes. sym (hits_as less z comes) ∙ least.least less (omega arith) low;
          }

  pub none_comes : (n : ℕ) → find p (filter_map f (range_with_len 0 n)) ≡ None → (c : ℕ) → c < n → (y : Y) → f c ≡ Some y → p y ≡ false
  none_comes n none c below y comes = at (find hits (range_with_len 0 n)) refl (sym (find_mapped (range_with_len 0 n)) ∙ none)
    where
      at : (o : Option ℕ) → find hits (range_with_len 0 n) ≡ o → option_and_then f o ≡ None → p y ≡ false
      at None missing is = sym (hits_as c y comes) ∙ none_found hits 0 n missing c (omega arith) (omega arith)
      at (Some d) some is =
          let passes : option_map_or p (f d) false ≡ true = (least_found hits 0 n d some).passes in
          let fails : option_map_or p (f d) false ≡ false = ap (λ o. option_map_or p o false) is in
          absurd (cc (passes, fails))

-- ---- the least of some numbers

pub least_below : (xs : List ℕ) (bound : ℕ) → fold min bound xs ≤ bound
least_below [] bound = omega arith
least_below (x ∷ xs) bound = let rest : fold min (min bound x) xs ≤ min bound x = least_below xs (min bound x) in omega arith

pub least_below_each : (xs : List ℕ) (bound : ℕ) → AllByRecursion (λ x. fold min bound xs ≤ x) xs
least_below_each [] bound = tt
least_below_each (x ∷ xs) bound =
    let rest : fold min (min bound x) xs ≤ min bound x = least_below xs (min bound x) in (omega arith, least_below_each xs (min bound x))

Contains-later : {X : Type 0} (y : X) (xs : List X) (x : X) → Contains xs x → Contains (y ∷ xs) x
Contains-later y xs x at = (suc at.0, let low = at.1 in omega arith, at.2)

pub least_reached : (xs : List ℕ) (bound : ℕ) → (fold min bound xs ≡ bound) ⊎ Contains xs (fold min bound xs)
least_reached [] bound = inl refl
least_reached (x ∷ xs) bound = elim (least_reached xs (min bound x)) [
  | inl same ↦ elim (cases_lt x bound) [
    | inl less ↦ inr (zero, omega arith, omega (arith, same))
    | inr more ↦ inl (omega (arith, same))
  ]
  | inr among ↦ inr (Contains-later x xs _ among)
]

pub least_over : (xs : List ℕ) (bound low : ℕ) → low ≤ bound → AllByRecursion (λ x. low ≤ x) xs → low ≤ fold min bound xs
least_over [] bound low most all = most
least_over (x ∷ xs) bound low most all = let here = all.0 in least_over xs (min bound x) low (omega arith) all.1
