-- How many calls of each task have come.
use Rattle.std.proofs.Common.{◌≡◌, ℕ, ◌+◌, ◌<◌, ◌≤◌, Bool, true, false, cond, eqb, List, length, take, get_or, count_by, Option, Some, None, sym, ap, ◌∙◌, inl, inr, arith}
use Rattle.std.specs.Prelude.{slice_set}
use Rattle.std.specs.Option.{option_map_or}
use Rattle.std.proofs.lemmas.Bool.{cases_eq}
use Rattle.std.proofs.lemmas.Bool.Decides.{nat_tests}
use Rattle.std.proofs.lemmas.List.{get_or-set_same, get_or-set_other, length-set, length-take-le}
use Rattle.std.proofs.lemmas.List.Sums.{count_by-le-length, sum_by_more}
use Rattle.bench_types.specs.declared.step.Step.{Step}
use Rattle.kept_runs.specs.Items.{begins_call}
use Rattle.known_limits.specs.Calls.{begun_task}
use Rattle.known_limits.proofs.Begun.{begins_is}

-- one more in a row
counted : (come : List ℕ) (row other : ℕ) → row < length come
    → get_or (slice_set come row (get_or come row 0 + 1)) other 0 ≡ get_or come other 0 + cond (eqb row other) 1 0
counted come row other within = elim (cases_eq other row) [
  | inl own ↦
      let yes : eqb row other ≡ true = grind (arith, nat_tests, own) in
      ap (λ (other : ℕ). get_or (slice_set come row (get_or come row 0 + 1)) other 0) own
      ∙ get_or-set_same come row (get_or come row 0 + 1) 0 within
      ∙ (λ i. get_or come (sym own i) 0 + cond (sym yes i) 1 0)
  | inr away ↦
      let no : eqb row other ≡ false = grind (arith, nat_tests, away) in
      let none : get_or come other 0 ≡ get_or come other 0 + 0 = omega arith in
      get_or-set_other come row other (get_or come row 0 + 1) 0 away ∙ none ∙ ap (λ (b : Bool). get_or come other 0 + cond b 1 0) (sym no)
]

-- of each of so many tasks as many calls are among the first steps of the run
pub record AreCounts (tasks : ℕ) (run : List Step) (place : ℕ) (come : List ℕ) : Type 0 where
  pub many : length come ≡ tasks
  pub each : (task : ℕ) → task < tasks → get_or come task 0 ≡ count_by (begins_call task) (take place run)

module _ (tasks : ℕ) (run : List Step) where
  pub count_low : (place task : ℕ) (come : List ℕ) → AreCounts tasks run place come → task < tasks → place ≤ length run → get_or come task 0 ≤ place
  count_low place task come counts low within =
      omega (arith, counts.each task low, count_by-le-length (begins_call task) (take place run), length-take-le place run within)

  module _ (place : ℕ) (d : Step) (within : place < length run) where
    -- the calls of a task, with one step more
    one_counted : (o : Option ℕ) (task : ℕ) → begun_task (get_or run place d) ≡ o
        → count_by (begins_call task) (take (place + 1) run)
        ≡ count_by (begins_call task) (take place run) + cond (option_map_or (λ own. eqb own task) o false) 1 0
    one_counted o task is =
        sum_by_more (λ (step : Step). cond (begins_call task step) 1 0) run place d within
        ∙ ap (λ b. count_by (begins_call task) (take place run) + cond b 1 0)
        (begins_is task (get_or run place d) ∙ ap (λ o. option_map_or (λ own. eqb own task) o false) is)

    -- a call counts for its task
    pub counts_on : (come : List ℕ) (task count : ℕ) → begun_task (get_or run place d) ≡ Some task → task < tasks → count ≡ get_or come task 0 + 1
        → AreCounts tasks run place come
        → AreCounts tasks run (place + 1) (slice_set come task count)
    counts_on come task count is low more counts = record {
      many = length-set come task count ∙ counts.many;
      each = λ other few.
          ap (λ count. get_or (slice_set come task count) other 0) more
          ∙ counted come task other (omega (arith, low, counts.many))
          ∙ ap (λ (n : ℕ). n + cond (eqb task other) 1 0) (counts.each other few)
          ∙ sym (one_counted (Some task) other is);
    }

    -- another step counts for none
    pub counts_pass : (come : List ℕ) → begun_task (get_or run place d) ≡ None → AreCounts tasks run place come → AreCounts tasks run (place + 1) come
    counts_pass come is counts = record {
      many = counts.many;
      each = λ other few.
          let none : count_by (begins_call other) (take place run) ≡ count_by (begins_call other) (take place run) + 0 = omega arith in
          counts.each other few ∙ none ∙ sym (one_counted None other is);
    }
