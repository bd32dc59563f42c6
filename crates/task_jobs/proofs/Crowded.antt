-- The crowd of a place, one place further.
use Rattle.std.proofs.Common.{◌≡◌, ℕ, suc, ◌+◌, ◌-◌, ◌*◌, ◌^◌, ◌≤◌, min, refl, sym, ap, ◌∙◌, arith, add-one}
use Rattle.std.specs.List.{sum_by}
use Rattle.std.proofs.Math.Nat.{mul-add, mul-zero}
use Rattle.std.proofs.lemmas.List.Sums.{sum_by_push}
use Rattle.list_orders.specs.Search.{numbers}
use Rattle.list_orders.proofs.Stamped.{numbers_more}
use Rattle.task_jobs.specs.declared.crowd.Crowd.{Crowd}
use Rattle.task_jobs.specs.Crowds.{at_most, told, waited, with_count, CountKeepsTime, CrowdBegins, CrowdGoesOn, GoesOn, IsCrowdAt, Waiters}

pub sum_more : (f : ℕ → ℕ) (n : ℕ) → sum_by f (numbers (suc n)) ≡ sum_by f (numbers n) + f n
sum_more f n = ap (λ k. sum_by f (numbers k)) (sym (add-one n)) ∙ ap (sum_by f) (numbers_more n) ∙ sum_by_push f (numbers n) n

-- the time since then is that of two parts
parts : (tasks since here later : ℕ) → since ≤ here → here ≤ later → tasks * (later - since) ≡ tasks * (here - since) + tasks * (later - here)
parts tasks since here later low high =
    let split : later - since ≡ (here - since) + (later - here) = omega (arith, low, high) in
    ap (λ n. tasks * n) split ∙ mul-add tasks (here - since) (later - here)

none_now : (tasks now : ℕ) → tasks * (now - now) ≡ 0
none_now tasks now = let zero_is : now - now ≡ 0 = omega arith in ap (λ n. tasks * n) zero_is ∙ mul-zero tasks

pub count_keeps_time : CountKeepsTime
count_keeps_time tasks now crowd = omega (arith, none_now tasks now)

pub crowd_begins : CrowdBegins
crowd_begins waiters time = record {
  tasks = refl;
  total =
      ap (λ n. at_most (0 + waiters.count 0 * (n - 0))) time
      ∙ omega (arith, none_now (waiters.count 0) 0);
  since = omega arith;
}

pub crowd_goes_on : CrowdGoesOn
crowd_goes_on waiters place before after here on =
    let now = waiters.time place in
    let later = waiters.time (suc place) in
    record {
      tasks = on.tasks;
      total =
          on.told
          ∙ omega (
            arith,
            parts before.tasks before.since now later here.since on.time,
            here.total,
            ap (λ n. n * (later - now)) here.tasks,
            sum_more (λ k. waiters.count k * (waiters.time (suc k) - waiters.time k)) place,
          );
      since = on.since;
    }
