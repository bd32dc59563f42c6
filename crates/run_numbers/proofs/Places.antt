-- Counts, greatest numbers and first places, one place further.
use Rattle.std.proofs.Common.{◌≡◌, ℕ, zero, suc, ◌+◌, ◌≤◌, ◌<◌, max, Bool, true, false, cond, ◌==◌, nat_lt, List, [], ◌∷◌, ◌++◌, length, map, take}
use Rattle.std.proofs.Common.{get_or, Option, Some, None, refl, sym, ap, ◌∙◌, arith, add-one, inl, inr}
use Rattle.std.specs.Prelude.{count_by, find, if◌then◌else◌}
use Rattle.std.specs.List.{range_with_len, sum_by}
use Rattle.std.specs.Option.{option_or}
use Rattle.std.proofs.Math.Seq.{take-suc}
use Rattle.std.proofs.lemmas.Bool.{cases_lt}
use Rattle.std.proofs.lemmas.Bool.Decides.{nat_tests}
use Rattle.std.proofs.lemmas.List.{map-append}
use Rattle.std.proofs.lemmas.List.Folds.{find-append}
use Rattle.std.proofs.lemmas.List.Sums.{sum_by_push}
use Rattle.bench_types.specs.declared.header.Header.{Header}
use Rattle.bench_types.specs.declared.step.Step.{Step}
use Rattle.list_orders.specs.Search.{numbers}
use Rattle.list_orders.proofs.Stamped.{numbers_more, range_parts}
use Rattle.bench_model.specs.Session.{state_after, state_at, step_of}
use Rattle.bench_model.specs.Start.{start}
use Rattle.bench_model.specs.Table.{Table}
use Rattle.bench_model.specs.Tallied.{one_if}
use Rattle.bench_model.specs.Tally.{greatest}
use Rattle.run_numbers.specs.SoFar.{first_top, top}

-- the number of one more is added
pub sum_more : (f : ℕ → ℕ) (n : ℕ) → sum_by f (numbers (suc n)) ≡ sum_by f (numbers n) + f n
sum_more f n =
    ap (λ k. sum_by f (numbers k)) (sym (add-one n)) ∙ ap (λ ns. sum_by f ns) (numbers_more n) ∙ sum_by_push f (numbers n) n

-- that of one more of a range
pub sum_longer : (f : ℕ → ℕ) (first n : ℕ) → sum_by f (range_with_len first (suc n)) ≡ sum_by f (range_with_len first n) + f (first + n)
sum_longer f first n =
    ap (λ k. sum_by f (range_with_len first k)) (sym (add-one n)) ∙ ap (λ ns. sum_by f ns) (range_parts first n 1)
    ∙ sum_by_push f (range_with_len first n) (first + n)

-- one number more is counted
pub count_more : (p : ℕ → Bool) (n : ℕ) → count_by p (numbers (suc n)) ≡ count_by p (numbers n) + one_if (p n)
count_more p n = sum_more (λ k. cond (p k) 1 0) n ∙ at (p n)
  where
    at : (b : Bool) → count_by p (numbers n) + cond b 1 0 ≡ count_by p (numbers n) + one_if b
    at true = omega arith
    at false = omega arith

-- what is added of each number is no more than what else is
pub sum_within : (f g : ℕ → ℕ) → ((k : ℕ) → f k ≤ g k) → (n : ℕ) → sum_by f (numbers n) ≤ sum_by g (numbers n)
sum_within f g less zero = omega arith
sum_within f g less (suc n) = omega (arith, sum_more f n, sum_more g n, less n, sum_within f g less n)

greatest_append : (ns : List ℕ) (n : ℕ) → greatest (ns ++ n ∷ []) ≡ max (greatest ns) n
greatest_append [] n = omega arith
greatest_append (m ∷ ns) n = ap (max m) (greatest_append ns n) ∙ omega arith

-- one number more is compared
pub greatest_more : (f : ℕ → ℕ) (n : ℕ) → greatest (map f (numbers (suc n))) ≡ max (greatest (map f (numbers n))) (f n)
greatest_more f n =
    ap (λ k. greatest (map f (numbers k))) (sym (add-one n)) ∙ ap (λ ns. greatest (map f ns)) (numbers_more n)
    ∙ ap greatest (map-append f (numbers n) (n ∷ [])) ∙ greatest_append (map f (numbers n)) (f n)

find_more : (p : ℕ → Bool) (n : ℕ) → find p (numbers (suc n)) ≡ option_or (find p (numbers n)) (if p n then Some n else None)
find_more p n =
    ap (λ k. find p (numbers k)) (sym (add-one n)) ∙ ap (find p) (numbers_more n) ∙ find-append p (numbers n) (n ∷ []) ∙ ap (option_or (find p (numbers n)))
    (at (p n))
  where
    at : (b : Bool) → (if b then Some n else None) ≡ (if b then Some n else None)
    at b = refl

-- The first place of the greatest number.
module _ (f : ℕ → ℕ) where
  none_above : (b n : ℕ) → greatest (map f (numbers n)) < b → find (λ k. f k == b) (numbers n) ≡ None
  none_above b zero low = refl
  none_above b (suc n) low =
      let both = greatest_more f n in
      find_more (λ k. f k == b) n ∙ ap (λ found. option_or found (if f n == b then Some n else None)) (none_above b n (omega (arith, low, both)))
      ∙ last (f n == b) refl (omega (arith, low, both))
    where
      last : (e : Bool) → (f n == b) ≡ e → f n < b → (if e then Some n else None) ≡ None
      last true same under = absurd (grind (arith, nat_tests, same, under))
      last false other under = refl

  pub find_top : (n : ℕ) → find (λ k. f k == top f n) (numbers (suc n)) ≡ Some (first_top f n)
  find_top zero = at (f 0 == max (f 0) 0) (grind (arith, nat_tests))
    where
      at : (b : Bool) → b ≡ true → if◌then◌else◌ {A = Option ℕ} b (Some 0) None ≡ Some 0
      at true is = refl
      at false is = absurd (cc is)
  find_top (suc n) = elim (cases_lt (top f n) (f (suc n))) [
    | inl more ↦
        let here : top f (suc n) ≡ f (suc n) = omega (arith, more, greatest_more f (suc n)) in
        ap (λ b. find (λ k. f k == b) (numbers (suc (suc n)))) here ∙ find_more (λ k. f k == f (suc n)) (suc n)
        ∙ ap (λ found. option_or found (if f (suc n) == f (suc n) then Some (suc n) else None)) (none_above (f (suc n)) (suc n) more)
        ∙ same (f (suc n) == f (suc n)) (grind (arith, nat_tests))
        ∙ sym (chosen (nat_lt (top f n) (f (suc n))) (grind (arith, nat_tests, more)))
    | inr less ↦
        let kept : top f (suc n) ≡ top f n = omega (arith, less, greatest_more f (suc n)) in
        ap (λ b. find (λ k. f k == b) (numbers (suc (suc n)))) kept ∙ find_more (λ k. f k == top f n) (suc n)
        ∙ ap (λ found. option_or found (if f (suc n) == top f n then Some (suc n) else None)) (find_top n)
        ∙ sym (left_so (nat_lt (top f n) (f (suc n))) (grind (arith, nat_tests, less)))
  ]
    where
      same : (b : Bool) → b ≡ true → (if b then Some (suc n) else None) ≡ Some (suc n)
      same true is = refl
      same false is = absurd (cc is)

      chosen : (b : Bool) → b ≡ true → Some (if b then suc n else first_top f n) ≡ Some (suc n)
      chosen true is = refl
      chosen false is = absurd (cc is)

      left_so : (b : Bool) → b ≡ false → Some (if b then suc n else first_top f n) ≡ Some (first_top f n)
      left_so true is = absurd (cc is)
      left_so false is = refl

after_more : (table : Table) (steps : List Step) (step : Step) → state_after table (steps ++ step ∷ []) ≡ (step_of step (state_after table steps)).1
after_more table [] step = refl
after_more table (one ∷ steps) step = after_more (step_of one table).1 steps step

-- the state one place further
pub next_state : (header : Header) (steps : List Step) (place : ℕ) (d : Step) → place < length steps → state_at header steps (suc place) ≡
    (step_of (get_or steps place d) (state_at header steps place)).1
unfolding state_at
next_state header steps place d early = ap (state_after (start header)) (take-suc steps place d early) ∙ after_more (start header) (take place steps)
    (get_or steps place d)
