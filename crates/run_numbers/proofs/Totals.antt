-- The time that finds a condition is that of its stretches.
use Rattle.std.proofs.Common.{◌≡◌, ℕ, zero, suc, ◌+◌, Bool, true, false, not, List, [], ◌∷◌, ◌++◌, length, refl, sym, ap, ◌∙◌, arith}
use Rattle.std.specs.Prelude.{filter, if◌then◌else◌}
use Rattle.std.specs.List.{sum_by}
use Rattle.std.proofs.lemmas.List.Sums.{sum_by-append}
use Rattle.list_orders.specs.Search.{numbers}
use Rattle.task_jobs.proofs.Crowded.{sum_more}
use Rattle.task_jobs.proofs.Lists.{filter_more}
use Rattle.run_numbers.specs.NumberLaws.{TotalIsOfStretches}
use Rattle.run_numbers.specs.Stretches.{holds_at, stretch_at, time_of_step}

-- a condition that holds or not at each place, and the time of each step
module _ (holds : ℕ → Bool) (time : ℕ → ℕ) (stretch : ℕ → ℕ) (first : stretch 0 ≡ 0)
    (next : (k : ℕ) → stretch (suc k) ≡ (if holds k then stretch k + time k else 0)) where
  abbrev pub over : ℕ → ℕ
  over n = sum_by stretch (filter (λ k. not (holds k)) (numbers n))

  over_more : (n : ℕ) → over (suc n) ≡ over n + (if holds n then 0 else stretch n)
  over_more n =
      ap (sum_by stretch) (filter_more (λ k. not (holds k)) n)
      ∙ sum_by-append stretch (filter (λ k. not (holds k)) (numbers n)) (if not (holds n) then n ∷ [] else [])
      ∙ ap (λ rest. over n + rest) (at (holds n))
    where
      at : (b : Bool) → sum_by stretch (if not b then n ∷ [] else []) ≡ (if b then 0 else stretch n)
      at true = refl
      at false = omega arith

  pub all_stretches : (n : ℕ) → sum_by (λ k. if holds k then time k else 0) (numbers n) ≡ over n + stretch n
  all_stretches zero = sym (ap (λ n. over 0 + n) first)
  all_stretches (suc n) =
      omega (
        arith,
        sum_more (λ k. if holds k then time k else 0) n,
        over_more n,
        next n,
        all_stretches n,
        at (holds n),
      )
    where
      at : (b : Bool) → (if b then time n else 0) + stretch n ≡ (if b then 0 else stretch n) + (if b then stretch n + time n else 0)
      at true = omega arith
      at false = omega arith

pub total_is_of_stretches : TotalIsOfStretches
total_is_of_stretches header steps condition =
    all_stretches (holds_at header steps condition) (time_of_step header steps) (stretch_at header steps condition) refl (λ k. refl) (length steps)
