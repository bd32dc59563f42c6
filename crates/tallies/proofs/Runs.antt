-- The cores of a tick, counted one after another for their current tasks.
use Rattle.std.proofs.Common.{◌≡◌, ℕ, ◌+◌, ◌<◌, ◌≤◌, ◌==◌, true, false, List, length, map, refl, sym, ap, subst, ◌∙◌, arith, inl, inr}
use Rattle.std.specs.Prelude.{slice_set}
use Rattle.std.proofs.lemmas.Bool.{cases_eq}
use Rattle.std.proofs.lemmas.Bool.Decides.{nat_tests}
use Rattle.std.proofs.lemmas.List.{length-set, get_or-set_same, get_or-set_other, ext_get_or}
use Rattle.std.proofs.lemmas.List.Elements.{All-get_or}
use Rattle.list_orders.specs.Search.{numbers}
use Rattle.bench_model.specs.Control.{Control, current}
use Rattle.bench_model.specs.Tally.{TaskTally}
use Rattle.bench_model.specs.Tallied.{one_if, run_at, tally_at, CountsBelow, AllCountsBelow}
use Rattle.session_laws.proofs.Tallies.{each_at, length_each}
use Rattle.tallies.specs.Counting.{ran, runs_after}
use Rattle.tallies.proofs.Additions.{nothing, same_parts}

-- the first cores are counted, and the others are not
pub record IsRunTo (control : Control) (old : List TaskTally) (place : ℕ) (now : List TaskTally) : Type 0 where
  pub size : length now ≡ length old
  pub counts : (task : ℕ) → (tally_at now task).counts ≡ (tally_at old task).counts
  pub cores : (task : ℕ) → length (tally_at now task).run ≡ length (tally_at old task).run
  pub first :
      (task core : ℕ) → core < place → core < length (tally_at old task).run
      → run_at (tally_at now task) core ≡ run_at (tally_at old task) core + one_if (current control core == task)
  pub others : (task core : ℕ) → place ≤ core → run_at (tally_at now task) core ≡ run_at (tally_at old task) core

pub run_none : (control : Control) (old : List TaskTally) → IsRunTo control old 0 old
run_none control old = record {
  size = refl;
  counts = λ task. refl;
  cores = λ task. refl;
  first = λ task core low _. absurd (omega (arith, low));
  others = λ task core _. refl;
}

if_same : (n m : ℕ) → n ≡ m → one_if (n == m) ≡ 1
if_same n m same = let yes : (n == m) ≡ true = grind (arith, nat_tests, same) in ap one_if yes

if_apart : (n m : ℕ) → (m ≡ n → ⊥) → one_if (n == m) ≡ 0
if_apart n m away = let no : (n == m) ≡ false = grind (arith, nat_tests, away) in ap one_if no

-- one core more, with its current task
module _ (control : Control) (old now : List TaskTally) (place : ℕ) (so_far : IsRunTo control old place now) where
  abbrev runner : ℕ
  runner = current control place

  abbrev x : TaskTally
  x = tally_at now runner

  abbrev counted : TaskTally
  counted = record x { run = slice_set x.run place (run_at x place + 1) }

  abbrev more : List TaskTally
  more = slice_set now runner counted

  module _ (low : runner < length now) (inside : place < length x.run) where
    at_runner : tally_at more runner ≡ counted
    at_runner = get_or-set_same now runner counted nothing low

    at_other : (task : ℕ) → (task ≡ runner → ⊥) → tally_at more task ≡ tally_at now task
    at_other task away = get_or-set_other now runner task counted nothing away

    more_counts : (task : ℕ) → (tally_at more task).counts ≡ (tally_at old task).counts
    more_counts task = elim (cases_eq task runner) [
      | inl here ↦ subst (λ j. (tally_at more j).counts ≡ (tally_at old j).counts) (sym here)
          (ap (λ (t : TaskTally). t.counts) at_runner ∙ so_far.counts runner)
      | inr away ↦ ap (λ (t : TaskTally). t.counts) (at_other task away) ∙ so_far.counts task
    ]

    more_cores : (task : ℕ) → length (tally_at more task).run ≡ length (tally_at old task).run
    more_cores task = elim (cases_eq task runner) [
      | inl here ↦ subst (λ j. length (tally_at more j).run ≡ length (tally_at old j).run) (sym here)
          (ap (λ (t : TaskTally). length t.run) at_runner ∙ length-set x.run place (run_at x place + 1) ∙ so_far.cores runner)
      | inr away ↦ ap (λ (t : TaskTally). length t.run) (at_other task away) ∙ so_far.cores task
    ]

    -- another core of each task is as it was
    more_elsewhere : (task core : ℕ) → (core ≡ place → ⊥) → run_at (tally_at more task) core ≡ run_at (tally_at now task) core
    more_elsewhere task core apart = elim (cases_eq task runner) [
      | inl here ↦ subst (λ j. run_at (tally_at more j) core ≡ run_at (tally_at now j) core) (sym here)
          (ap (λ (t : TaskTally). run_at t core) at_runner ∙ get_or-set_other x.run place core (run_at x place + 1) 0 apart)
      | inr away ↦ ap (λ (t : TaskTally). run_at t core) (at_other task away)
    ]

    more_here : (task : ℕ) → run_at (tally_at more task) place ≡ run_at (tally_at old task) place + one_if (runner == task)
    more_here task = elim (cases_eq task runner) [
      | inl here ↦ subst (λ j. run_at (tally_at more j) place ≡ run_at (tally_at old j) place + one_if (runner == j)) (sym here)
          (ap (λ (t : TaskTally). run_at t place) at_runner ∙ get_or-set_same x.run place (run_at x place + 1) 0 inside
          ∙ ap (λ n. n + 1) (so_far.others runner place (omega arith)) ∙ ap (λ n. run_at (tally_at old runner) place + n) (sym (if_same runner runner refl)))
      | inr away ↦ ap (λ (t : TaskTally). run_at t place) (at_other task away) ∙ so_far.others task place (omega arith) ∙ omega
          (arith, if_apart runner task away)
    ]

    pub run_more : IsRunTo control old (place + 1) more
    run_more = record {
      size = length-set now runner counted ∙ so_far.size;
      counts = more_counts;
      cores = more_cores;
      first = λ task core below within. elim (cases_eq core place) [
        | inl here ↦ subst (λ j. run_at (tally_at more task) j ≡ run_at (tally_at old task) j + one_if (current control j == task)) (sym here) (more_here task)
        | inr apart ↦ more_elsewhere task core apart ∙ so_far.first task core (omega (arith, below, apart)) within
      ];
      others = λ task core past. more_elsewhere task core (λ (e : core ≡ place). absurd (omega (arith, past, e))) ∙ so_far.others task core
          (omega (arith, past));
    }

pub run_on : (control : Control) (old now : List TaskTally) (place task : ℕ) → IsRunTo control old place now → task ≡ current control place → task < length now
    → place < length (tally_at now task).run
    → IsRunTo control old (place + 1) (slice_set now task (record (tally_at now task)
    { run = slice_set (tally_at now task).run place (run_at (tally_at now task) place + 1) }))
run_on control old now place task so_far runs low inside =
    subst (λ j. IsRunTo control old (place + 1) (slice_set now j
    (record (tally_at now j) { run = slice_set (tally_at now j).run place (run_at (tally_at now j) place + 1) }))) (sym runs)
    (run_more control old now place so_far (subst (λ j. j < length now) runs low) (subst (λ j. place < length (tally_at now j).run) runs inside))

-- before its core is counted a task has as many cores as at first, and as many ticks on that one
module _ (old now : List TaskTally) (control : Control) (place task : ℕ) (so_far : IsRunTo control old place now) (low : task < length old) where
  pub kept_cores : (cores : ℕ) → length (tally_at old task).run ≡ cores → place < cores → place < length (tally_at now task).run
  kept_cores cores sized inside = omega (arith, inside, sized, so_far.cores task)

  pub kept_ticks : (bound : ℕ) → AllCountsBelow bound old → place < length (tally_at old task).run → run_at (tally_at now task) place < bound
  kept_ticks bound room inside =
      let ticks = All-get_or (λ n. n < bound) (tally_at old task).run place 0 inside (All-get_or (CountsBelow bound) old task nothing low room).run in
      omega (arith, ticks, so_far.others task place (omega arith))

pub run_all : (control : Control) (old now : List TaskTally) (place : ℕ) → IsRunTo control old place now →
    ((task : ℕ) → task < length old → length (tally_at old task).run ≤ place) → now ≡ ran control old
unfolding ran
run_all control old now place so_far past =
    let each = λ (task : ℕ). record (tally_at old task) { run = runs_after control task (tally_at old task).run } in
    ext_get_or nothing now (map each (numbers (length old))) (so_far.size ∙ sym (length_each each (length old)))
    (λ task low.
    let below : task < length old = omega (arith, low, so_far.size) in
    let ticks = λ (core : ℕ). run_at (tally_at old task) core + one_if (current control core == task) in
    let cores = length (tally_at old task).run in
    same_parts (ext_get_or 0 (tally_at now task).run (map ticks (numbers cores)) (so_far.cores task ∙ sym (length_each ticks cores))
    (λ core within. let inside : core < cores = omega (arith, within, so_far.cores task) in so_far.first task core (omega (arith, inside, past task below))
    inside ∙ sym (each_at ticks cores core 0 inside)))
    (so_far.counts task)
    ∙ sym (each_at each (length old) task nothing below))
