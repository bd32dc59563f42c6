-- How many cores tallies have numbers for, and how great their numbers get.
use Rattle.std.proofs.Common.{◌≡◌, ℕ, suc, ◌+◌, ◌<◌, ◌≤◌, Bool, true, false, List, length, sym, subst, ◌∙◌, arith}
use Rattle.std.proofs.lemmas.List.{length-replicate, get_or-replicate}
use Rattle.std.proofs.lemmas.List.Elements.{All-get_or}
use Rattle.std.proofs.lemmas.List.FromFn.{length-range_with_len}
use Rattle.std.proofs.lemmas.Simd.{splat_is_map}
use Rattle.bench_types.specs.declared.kernel_data.Settings.{Settings}
use Rattle.list_orders.specs.Search.{numbers}
use Rattle.bench_model.specs.Control.{Control}
use Rattle.bench_model.specs.State.{QueueOps}
use Rattle.bench_model.specs.Tally.{TaskTally, Moment, is_displaced, is_found_on, is_found_wanting, is_inverted, is_switched_in, is_timeout}
use Rattle.bench_model.specs.Tallied.{added, added_tally, first_tallies, first_tally, one_if, run_at, shape, shape_of, tallied, tally_after, tally_at}
use Rattle.bench_model.specs.Tallied.{CountsBelow, AllCountsBelow}
use Rattle.session_laws.proofs.Shapes.{shape_of_each}
use Rattle.session_laws.proofs.Tallies.{each_at, length_each, numbers_agree}
use Rattle.tallies.proofs.Additions.{nothing, same_length, run_lengths}

-- Before any step there is a number for each task and core, and each is 0.
pub first_shape : (settings : Settings) (control : Control) → shape (first_tallies settings control) ≡ shape_of settings
first_shape settings control =
    let tasks = settings.tasks in
    shape_of_each (first_tally settings control) (numbers tasks)
    ∙ numbers_agree (λ task. length (first_tally settings control task).run) (λ task. settings.cores) tasks
    (λ task low. length-replicate {A = ℕ} settings.cores 0)
    ∙ sym (splat_is_map (numbers tasks) tasks settings.cores (length-range_with_len 0 tasks))

pub first_room : (settings : Settings) (control : Control) → AllCountsBelow 1 (first_tallies settings control)
first_room settings control task d low =
    let f = first_tally settings control in
    let below : task < settings.tasks = omega (arith, low, length_each f settings.tasks) in
    subst (CountsBelow 1) (sym (each_at f settings.tasks task d below)) (record {
      run = λ core e within.
          let inside : core < settings.cores = omega (arith, within, length-replicate {A = ℕ} settings.cores 0) in
          omega (arith, get_or-replicate settings.cores core 0 e inside);
      wait = omega arith;
      inverted = omega arith;
      switched = omega arith;
      displaced = omega arith;
      timeouts = omega arith;
    })

-- A step adds at most one to each number.
pub one_at_most : (b : Bool) → one_if b ≤ 1
one_at_most true = omega arith
one_at_most false = omega arith

module _ {Orders : Type 0} (ops : QueueOps Orders) (moment : Moment Orders) where
  one_step : (task bound : ℕ) (tally : TaskTally) → CountsBelow bound tally → CountsBelow (suc bound) (tally_after ops moment task tally)
  unfolding tally_after
  one_step task bound tally counts = record {
    run = λ core d within.
        let ticks = λ (core : ℕ). run_at tally core + one_if (is_found_on core task moment) in
        let low : core < length tally.run = omega (arith, within, length_each ticks (length tally.run)) in
        omega (arith, each_at ticks (length tally.run) core d low, counts.run core 0 low, one_at_most (is_found_on core task moment));
    wait = omega (arith, counts.wait, one_at_most (is_found_wanting ops task moment));
    inverted = omega (arith, counts.inverted, one_at_most (is_inverted ops task moment));
    switched = omega (arith, counts.switched, one_at_most (is_switched_in task moment));
    displaced = omega (arith, counts.displaced, one_at_most (is_displaced task moment));
    timeouts = omega (arith, counts.timeouts, one_at_most (is_timeout task moment));
  }

  pub step_room : (tallies : List TaskTally) (bound : ℕ) → AllCountsBelow bound tallies → AllCountsBelow (suc bound) (tallied ops moment tallies)
  unfolding tallied
  step_room tallies bound room task d low =
      let f = λ (task : ℕ). tally_after ops moment task (tally_at tallies task) in
      let below : task < length tallies = omega (arith, low, length_each f (length tallies)) in
      subst (CountsBelow (suc bound)) (sym (each_at f (length tallies) task d below))
      (one_step task bound (tally_at tallies task) (All-get_or (CountsBelow bound) tallies task nothing below room))

-- The numbers of two parts are below the sum of their bounds.
sum_below : (a b : TaskTally) (bound more : ℕ) → length a.run ≡ length b.run → CountsBelow (suc bound) a → CountsBelow (suc more) b → CountsBelow
    (suc (bound + more)) (added_tally a b)
unfolding added_tally
sum_below a b bound more same one other = record {
  run = λ core d within.
      let ticks = λ (core : ℕ). run_at a core + run_at b core in
      let low : core < length a.run = omega (arith, within, length_each ticks (length a.run)) in
      omega (arith, each_at ticks (length a.run) core d low, one.run core 0 low, other.run core 0 (omega (arith, low, same)));
  wait = omega (arith, one.wait, other.wait);
  inverted = omega (arith, one.inverted, other.inverted);
  switched = omega (arith, one.switched, other.switched);
  displaced = omega (arith, one.displaced, other.displaced);
  timeouts = omega (arith, one.timeouts, other.timeouts);
}

pub sum_room : (a b : List TaskTally) (bound more : ℕ) → shape a ≡ shape b → AllCountsBelow (suc bound) a → AllCountsBelow (suc more) b → AllCountsBelow
    (suc (bound + more)) (added a b)
unfolding added
sum_room a b bound more same one other task d low =
    let f = λ (task : ℕ). added_tally (tally_at a task) (tally_at b task) in
    let below : task < length a = omega (arith, low, length_each f (length a)) in
    let inside : task < length b = omega (arith, below, same_length a b same) in
    subst (CountsBelow (suc (bound + more))) (sym (each_at f (length a) task d below))
    (sum_below (tally_at a task) (tally_at b task) bound more (run_lengths a b task same below)
    (All-get_or (CountsBelow (suc bound)) a task nothing below one) (All-get_or (CountsBelow (suc more)) b task nothing inside other))

-- A bound is one of any greater bound.
wider : {bound most : ℕ} {tally : TaskTally} → bound ≤ most → CountsBelow bound tally → CountsBelow most tally
wider low counts = record {
  run = λ core d within. omega (arith, counts.run core d within, low);
  wait = omega (arith, counts.wait, low);
  inverted = omega (arith, counts.inverted, low);
  switched = omega (arith, counts.switched, low);
  displaced = omega (arith, counts.displaced, low);
  timeouts = omega (arith, counts.timeouts, low);
}

pub wider_room : {bound most : ℕ} (tallies : List TaskTally) → bound ≤ most → AllCountsBelow bound tallies → AllCountsBelow most tallies
wider_room tallies low room task d within = wider low (room task d within)
