-- The numbers of two parts of a session, each kept in two lists, are added list by list.
use Rattle.std.proofs.Common.{◌≡◌, ℕ, ◌+◌, ◌*◌, ◌/◌, ◌%◌, ◌<◌, ◌^◌, List, [], length, map, get_or, All, sym, ap, ap₂, subst, ◌∙◌, arith, inl, inr}
use Rattle.std.proofs.Math.Nat.{mod-lt, mul-le-mul_right}
use Rattle.std.proofs.lemmas.Bool.{cases_lt}
use Rattle.std.proofs.lemmas.List.{get_or_default}
use Rattle.std.proofs.lemmas.Nat.{div-add-mod'}
use Rattle.bench_types.specs.declared.tally.Tally.{Tally}
use Rattle.list_orders.specs.Search.{numbers}
use Rattle.bench_model.specs.Tally.{TaskTally}
use Rattle.bench_model.specs.Tallied.{added, added_tally, no_counts, shape, tally_at, CountsBelow, AllCountsBelow}
use Rattle.session_laws.proofs.Tallies.{each_at, length_each, numbers_so}
use Rattle.tallies.specs.Sums.{added_counts, all_added_counts, sums_of}
use Rattle.tallies.specs.Tables.{counts_of, runs_of, tallies_in, tally_in}
use Rattle.tallies.proofs.Additions.{nothing, run_lengths, same_length, same_parts}
use Rattle.tallies.proofs.Tables.{length_runs, length_tallies, place_within, run_there, tally_there}

-- ---- bounds

module _ (cores : ℕ) (runs : List ℕ) (counts : List Tally) (bound : ℕ) (size : length runs ≡ length counts * cores)
    (room : AllCountsBelow bound (tallies_in cores runs counts)) where
  tally_room : (task : ℕ) → task < length counts → CountsBelow bound (tally_in cores runs counts task)
  tally_room task low = subst (CountsBelow bound) (tally_there cores runs counts task low)
      (room task nothing (omega (arith, low, length_tallies cores runs counts)))

  -- each place is one of a task and a core
  task_of_place : (place : ℕ) → place < length runs → 0 < cores → place / cores < length counts
  task_of_place place low some = elim (cases_lt (place / cores) (length counts)) [
    | inl inside ↦ inside
    | inr past ↦ absurd (omega (arith, low, size, div-add-mod' place cores, mul-le-mul_right cores past))
  ]

  tick_room : (place : ℕ) → place < length runs → 0 < cores → get_or runs place 0 < bound
  tick_room place low some =
      let task = place / cores in
      let core = place % cores in
      let inside : core < cores = mod-lt place some in
      let ticks : get_or (runs_of cores runs task) core 0 < bound =
      (tally_room task (task_of_place place low some)).run core 0 (omega (arith, inside, length_runs cores runs task)) in
      omega (arith, ticks, run_there cores runs task core 0 inside, ap (λ i. get_or runs i 0) (div-add-mod' place cores))

  some_cores : (place : ℕ) → place < length runs → 0 < cores
  some_cores place low = elim (cases_lt 0 cores) [
    | inl some ↦ some
    | inr none ↦ let no : cores ≡ 0 = omega (arith, none) in absurd (omega (arith, low, size, ap (λ n. length counts * n) no))
  ]

  pub ticks_room : All (λ ticks. ticks < bound) runs
  ticks_room place d low = omega (arith, get_or_default runs place d 0 low, tick_room place low (some_cores place low))

  pub counts_room : All (λ (c : Tally). CountsBelow bound (record { run = []; counts = c })) counts
  counts_room task d low =
      let is : get_or counts task d ≡ counts_of counts task = get_or_default counts task d (no_counts 0) low in
      let whole = tally_room task low in
      subst (λ (c : Tally). CountsBelow bound (record { run = []; counts = c })) (sym is) (record {
        run = λ core e within. absurd (omega (arith, within));
        wait = whole.wait;
        inverted = whole.inverted;
        switched = whole.switched;
        displaced = whole.displaced;
        timeouts = whole.timeouts;
      })

-- ---- sums

module _ (cores : ℕ) (runs : List ℕ) (counts : List Tally) (size : length runs ≡ length counts * cores)
    (cores' : ℕ) (more : List ℕ) (others : List Tally) (more_size : length more ≡ length others * cores')
    (same : shape (tallies_in cores runs counts) ≡ shape (tallies_in cores' more others)) where
  pub same_tasks : length counts ≡ length others
  same_tasks = sym (length_tallies cores runs counts) ∙ same_length (tallies_in cores runs counts) (tallies_in cores' more others) same ∙ length_tallies cores'
      more others

  same_cores : (task : ℕ) → task < length counts → cores ≡ cores'
  same_cores task low =
      sym (ap (λ (t : TaskTally). length t.run) (tally_there cores runs counts task low) ∙ length_runs cores runs task)
      ∙ run_lengths (tallies_in cores runs counts) (tallies_in cores' more others) task same (omega (arith, low, length_tallies cores runs counts))
      ∙ ap (λ (t : TaskTally). length t.run) (tally_there cores' more others task (omega (arith, low, same_tasks))) ∙ length_runs cores' more task

  pub same_places : length runs ≡ length more
  same_places = elim (cases_lt 0 (length counts)) [
    | inl some ↦ omega (arith, size, more_size, ap (λ n. n * cores) same_tasks, ap (λ n. length others * n) (same_cores 0 some))
    | inr none ↦ let no : length counts ≡ 0 = omega (arith, none) in
        omega (arith, size, more_size, ap (λ n. n * cores) no, ap (λ n. n * cores') (sym same_tasks ∙ no))
  ]

  runs_summed : (task : ℕ) → task < length counts → runs_of cores (sums_of runs more) task ≡ map
      (λ core. get_or (runs_of cores runs task) core 0 + get_or (runs_of cores' more task) core 0) (numbers (length (runs_of cores runs task)))
  unfolding runs_of
  runs_summed task low =
      let sum : ℕ → ℕ = λ place. get_or runs place 0 + get_or more place 0 in
      numbers_so (λ core. get_or (sums_of runs more) (task * cores + core) 0)
      (λ core. get_or (runs_of cores runs task) core 0 + get_or (runs_of cores' more task) core 0) cores (length (runs_of cores runs task))
      (sym (length_runs cores runs task))
      (λ core within.
      let inside : core < cores = omega (arith, within, length_runs cores runs task) in
      let within' : core < cores' = omega (arith, inside, same_cores task low) in
      let there : get_or more (task * cores + core) 0 ≡ get_or (runs_of cores' more task) core 0 =
      ap (λ n. get_or more (task * n + core) 0) (same_cores task low) ∙ sym (run_there cores' more task core 0 within') in
      each_at sum (length runs) (task * cores + core) 0 (omega (arith, size, place_within cores task (length counts) core low inside))
      ∙ ap₂ (λ n m. n + m) (sym (run_there cores runs task core 0 inside)) there)

  one_summed : (task : ℕ) → task < length counts → tally_in cores (sums_of runs more) (all_added_counts counts others) task ≡ added_tally
      (tally_in cores runs counts task) (tally_in cores' more others task)
  unfolding added_tally
  one_summed task low =
      same_parts (runs_summed task low) (each_at (λ task. added_counts (counts_of counts task) (counts_of others task)) (length counts) task (no_counts 0) low)

  pub summed : tallies_in cores (sums_of runs more) (all_added_counts counts others) ≡ added (tallies_in cores runs counts) (tallies_in cores' more others)
  unfolding tallies_in added
  summed =
      let a = tallies_in cores runs counts in
      let b = tallies_in cores' more others in
      let tasks = length_each (λ task. added_counts (counts_of counts task) (counts_of others task)) (length counts) in
      numbers_so (tally_in cores (sums_of runs more) (all_added_counts counts others)) (λ task. added_tally (tally_at a task) (tally_at b task))
      (length (all_added_counts counts others)) (length a)
      (tasks ∙ sym (length_tallies cores runs counts))
      (λ task within.
      let low : task < length counts = omega (arith, within, length_tallies cores runs counts) in
      one_summed task low
      ∙ sym (ap₂ added_tally (tally_there cores runs counts task low) (tally_there cores' more others task (omega (arith, low, same_tasks)))))

  pub summed_size : length (sums_of runs more) ≡ length (all_added_counts counts others) * cores
  summed_size =
      let sum : ℕ → ℕ = λ place. get_or runs place 0 + get_or more place 0 in
      let tasks = length_each (λ task. added_counts (counts_of counts task) (counts_of others task)) (length counts) in
      length_each sum (length runs) ∙ size ∙ ap (λ n. n * cores) (sym tasks)

  pub summed_tasks : length (all_added_counts counts others) ≡ length counts
  summed_tasks = length_each (λ task. added_counts (counts_of counts task) (counts_of others task)) (length counts)

  module _ (room : AllCountsBelow (2 ^ 32) (added (tallies_in cores runs counts) (tallies_in cores' more others))) where
    summed_room : AllCountsBelow (2 ^ 32) (tallies_in cores (sums_of runs more) (all_added_counts counts others))
    summed_room = subst (AllCountsBelow (2 ^ 32)) (sym summed) room

    pub ticks_fit : All (λ ticks. ticks < 2 ^ 32) (sums_of runs more)
    ticks_fit = ticks_room cores (sums_of runs more) (all_added_counts counts others) (2 ^ 32) summed_size summed_room

    pub counts_fit : All (λ (c : Tally). CountsBelow (2 ^ 32) (record { run = []; counts = c })) (all_added_counts counts others)
    counts_fit = counts_room cores (sums_of runs more) (all_added_counts counts others) (2 ^ 32) summed_size summed_room

-- ---- by the tallies that they are

module _ (a b a' b' : List TaskTally) (is_a : a' ≡ a) (is_b : b' ≡ b) where
  pub seen_shapes : shape a ≡ shape b → shape a' ≡ shape b'
  seen_shapes same = ap shape is_a ∙ same ∙ sym (ap shape is_b)

  pub seen_sum : added a' b' ≡ added a b
  seen_sum = ap₂ added is_a is_b

  pub seen_room : AllCountsBelow (2 ^ 32) (added a b) → AllCountsBelow (2 ^ 32) (added a' b')
  seen_room room = subst (AllCountsBelow (2 ^ 32)) (sym seen_sum) room
