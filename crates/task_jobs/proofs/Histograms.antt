-- Histograms, with one thing more.
use Rattle.std.proofs.Common.{◌≡◌, ◌≢◌, ℕ, zero, suc, ◌+◌, ◌*◌, ◌^◌, ◌<◌, ◌≤◌, Bool, true, false, not, ◌&&◌, ◌||◌, ◌==◌, nat_lt, List, [], ◌∷◌, ◌++◌, length, get_or, set, map, All, ◌⊎◌, refl, sym, ap, ap₂, ◌∙◌, arith, inl, inr}
use Rattle.std.specs.Prelude.{count_by, if◌then◌else◌}
use Rattle.std.specs.List.{sum, sum_by, range_with_len}
use Rattle.std.proofs.Math.Nat.{pow-le-pow_right, pow-suc}
use Rattle.std.proofs.lemmas.Nat.{pow_pos}
use Rattle.std.proofs.lemmas.Bool.{cases_eq, cases_lt}
use Rattle.std.proofs.lemmas.Bool.Decides.{nat_tests}
use Rattle.std.proofs.lemmas.List.{ext_get_or, get_or-set_other, get_or-set_same, length-set}
use Rattle.std.proofs.lemmas.List.Elements.{All-map}
use Rattle.std.proofs.lemmas.List.FromFn.{get_or-map-range_with_len, length-map-range_with_len}
use Rattle.std.proofs.lemmas.List.Sums.{count_by-le-length, sum-map, sum_by-cons, sum_by_push}
use Rattle.list_orders.specs.Search.{numbers}
use Rattle.bench_model.specs.Tallied.{one_if}
use Rattle.task_jobs.specs.declared.histogram.Histogram.{Histogram}
use Rattle.task_jobs.specs.Durations.{Thing}
use Rattle.task_jobs.specs.Histograms.{count_in, histogram_of, intervals, is_in, least_time, with_time, CountsAreAll}
use Rattle.task_jobs.proofs.Crowded.{sum_more}

-- functions that are the same at each number below one
same_map : (f g : ℕ → ℕ) (n : ℕ) → ((k : ℕ) → k < n → f k ≡ g k) → map f (numbers n) ≡ map g (numbers n)
same_map f g n same =
    ext_get_or 0 (map f (numbers n)) (map g (numbers n)) (length-map-range_with_len f 0 n ∙ sym (length-map-range_with_len g 0 n))
    (λ k low.
    let within : k < n = omega (arith, low, length-map-range_with_len f 0 n) in
    get_or-map-range_with_len f 0 n k k 0 within (omega arith) ∙ same k within ∙ sym (get_or-map-range_with_len g 0 n k k 0 within (omega arith)))

-- one thing more
pub histogram_more : (things : List Thing) (thing : Thing) → histogram_of (things ++ thing ∷ []) ≡ with_time thing.0 (histogram_of things)
unfolding histogram_of with_time
histogram_more things thing =
    ap (λ (counts : List ℕ). record { counts = counts })
    (same_map (count_in (things ++ thing ∷ [])) (λ k. get_or (map (count_in things) (numbers intervals)) k 0 + one_if (is_in k thing.0)) intervals
    (λ k low.
    sum_by_push (λ (one : Thing). one_if (is_in k one.0)) things thing
    ∙ ap (λ n. n + one_if (is_in k thing.0)) (sym (get_or-map-range_with_len (count_in things) 0 intervals k k 0 low (omega arith)))))

-- the counts with one more in one interval
pub added : (counts : List ℕ) (time own : ℕ) → length counts ≡ intervals → own < intervals → ((k : ℕ) → k < intervals → is_in k time ≡ (k == own))
    → set counts own (get_or counts own 0 + 1) ≡ map (λ k. get_or counts k 0 + one_if (is_in k time)) (numbers intervals)
added counts time own size low is =
    let more : ℕ → ℕ = λ k. get_or counts k 0 + one_if (is_in k time) in
    ext_get_or 0 (set counts own (get_or counts own 0 + 1)) (map more (numbers intervals))
    (length-set counts own (get_or counts own 0 + 1) ∙ size ∙ sym (length-map-range_with_len more 0 intervals))
    (λ k within.
    let below : k < intervals = omega (arith, within, length-set counts own (get_or counts own 0 + 1), size) in
    at k below (cases_eq k own) ∙ sym (get_or-map-range_with_len more 0 intervals k k 0 below (omega arith)))
  where
    at : (k : ℕ) → k < intervals → (k ≡ own) ⊎ (k ≢ own) → get_or (set counts own (get_or counts own 0 + 1)) k 0 ≡ get_or counts k 0 + one_if (is_in k time)
    at k below (inl here) =
        let tested : (k == own) ≡ true = grind (arith, nat_tests, here) in
        ap (λ j. get_or (set counts own (get_or counts own 0 + 1)) j 0) here
        ∙ get_or-set_same counts own (get_or counts own 0 + 1) 0 (omega (arith, low, size))
        ∙ ap (λ j. get_or counts j 0 + 1) (sym here) ∙ sym (ap (λ b. get_or counts k 0 + one_if b) (is k below ∙ tested))
    at k below (inr away) =
        let tested : (k == own) ≡ false = grind (arith, nat_tests, away) in
        get_or-set_other counts own k (get_or counts own 0 + 1) 0 away
        ∙ omega arith ∙ sym (ap (λ b. get_or counts k 0 + one_if b) (is k below ∙ tested))

-- no interval has more than there are things
pub counts_few : (things : List Thing) (n : ℕ) → length things ≤ n → All (λ count. count ≤ n) (histogram_of things).counts
unfolding histogram_of
counts_few things n few =
    All-map (λ count. count ≤ n) (count_in things) (numbers intervals)
    (λ k d low. omega (arith, few, count_by-le-length (λ (one : Thing). is_in (get_or (numbers intervals) k d) one.0) things))

-- ---- each thing is in one interval

least_more : (k : ℕ) → least_time k ≤ least_time (suc k)
least_more zero = omega arith
least_more (suc k) = omega (arith, pow-suc 2 k)

parts : (time a b : ℕ) → a ≤ b → one_if (nat_lt time a) + one_if (not (nat_lt time a) && nat_lt time b) ≡ one_if (nat_lt time b)
parts time a b low = grind (arith, nat_tests, low)

-- the first intervals have the times below the next
below : (time n : ℕ) → n < intervals → sum_by (λ k. one_if (is_in k time)) (numbers n) ≡ one_if (nat_lt time (least_time n))
below time zero low = sym (ap one_if (none_below time))
  where
    none_below : (time : ℕ) → nat_lt time 0 ≡ false
    none_below time = grind (arith, nat_tests)
below time (suc n) low =
    let not_last : (suc n == intervals) ≡ false = grind (arith, nat_tests, low) in
    sum_more (λ k. one_if (is_in k time)) n
    ∙ ap₂ (λ (sum : ℕ) (b : Bool). sum + one_if (not (nat_lt time (least_time n)) && (b || nat_lt time (least_time (suc n)))))
    (below time n (omega (arith, low))) not_last
    ∙ parts time (least_time n) (least_time (suc n)) (least_more n)

-- and the last has the others
in_one : (time : ℕ) → sum_by (λ k. one_if (is_in k time)) (numbers intervals) ≡ 1
in_one time = sum_more (λ k. one_if (is_in k time)) 64 ∙ ap (λ sum. sum + one_if (is_in 64 time)) (below time 64 (omega arith)) ∙ at (nat_lt time (least_time 64))
  where
    at : (b : Bool) → one_if b + one_if (not b && true) ≡ 1
    at true = refl
    at false = refl

both : (f g : ℕ → ℕ) (ks : List ℕ) → sum_by (λ k. f k + g k) ks ≡ sum_by f ks + sum_by g ks
both f g [] = refl
both f g (k ∷ ks) =
    omega (arith, both f g ks, sum_by-cons (λ k. f k + g k) k ks, sum_by-cons f k ks, sum_by-cons g k ks)

same_sum : (f g : ℕ → ℕ) → ((k : ℕ) → f k ≡ g k) → (ks : List ℕ) → sum_by f ks ≡ sum_by g ks
same_sum f g same [] = refl
same_sum f g same (k ∷ ks) = omega (arith, same k, same_sum f g same ks, sum_by-cons f k ks, sum_by-cons g k ks)

counted : (things : List Thing) → sum_by (count_in things) (numbers intervals) ≡ length things
counted [] = refl
counted (thing ∷ things) =
    same_sum (count_in (thing ∷ things)) (λ k. one_if (is_in k thing.0) + count_in things k) (λ k. sum_by-cons (λ (one : Thing). one_if (is_in k one.0)) thing things)
    (numbers intervals)
    ∙ both (λ k. one_if (is_in k thing.0)) (count_in things) (numbers intervals) ∙ omega (arith, in_one thing.0, counted things)

pub counts_are_all : CountsAreAll
unfolding histogram_of
counts_are_all things = sum-map (count_in things) (numbers intervals) ∙ counted things

-- ---- the interval of a time

or_true : (b : Bool) → (b || true) ≡ true
or_true true = refl
or_true false = refl

and_false : (b : Bool) → (b && false) ≡ false
and_false true = refl
and_false false = refl

pub in_interval : (time log k : ℕ) → 2 ^ log ≤ time → time < 2 * 2 ^ log → log < 64 → k < intervals → is_in k time ≡ (k == log + 1)
in_interval time log zero most least low within =
    let some : nat_lt time 1 ≡ false = grind (arith, nat_tests, most, pow_pos log) in
    let away : (0 == log + 1) ≡ false = grind (arith, nat_tests) in
    ap (λ b. not (nat_lt time 0) && b) some ∙ and_false (not (nat_lt time 0)) ∙ sym away
in_interval time log (suc j) most least low within = elim (cases_lt j log) [
  | inl less ↦
      let next : 2 ^ suc j ≤ 2 ^ log = pow-le-pow_right (omega arith) less in
      let not_last : (suc (suc j) == intervals) ≡ false = grind (arith, nat_tests, less, low) in
      let past : nat_lt time (2 ^ suc j) ≡ false = grind (arith, nat_tests, next, most) in
      let away : (suc j == log + 1) ≡ false = grind (arith, nat_tests, less) in
      ap₂ (λ (b c : Bool). not (nat_lt time (2 ^ j)) && (b || c)) not_last past ∙ and_false (not (nat_lt time (2 ^ j))) ∙ sym away
  | inr more ↦ elim (cases_eq j log) [
    | inl here ↦
        let from : nat_lt time (2 ^ j) ≡ false = grind (arith, nat_tests, most, ap (λ n. 2 ^ n) here) in
        let to : nat_lt time (2 ^ suc j) ≡ true = grind (arith, nat_tests, least, pow-suc 2 j, ap (λ n. 2 ^ n) here) in
        let own : (suc j == log + 1) ≡ true = grind (arith, nat_tests, here) in
        ap₂ (λ (b c : Bool). not b && (suc (suc j) == intervals || c)) from to ∙ or_true (suc (suc j) == intervals) ∙ sym own
    | inr away ↦
        let next : 2 ^ suc log ≤ 2 ^ j = pow-le-pow_right (omega arith) (omega (arith, more, away)) in
        let before : nat_lt time (2 ^ j) ≡ true = grind (arith, nat_tests, next, least, pow-suc 2 log) in
        let other : (suc j == log + 1) ≡ false = grind (arith, nat_tests, away) in
        ap (λ b. not b && (suc (suc j) == intervals || nat_lt time (2 ^ suc j))) before ∙ sym other
  ]
]
