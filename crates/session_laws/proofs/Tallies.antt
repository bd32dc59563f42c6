-- Tallies: counts over places are counts step by step, and those of two parts add up.
use Rattle.std.proofs.Common.{◌≡◌, ℕ, zero, suc, ◌+◌, ◌<◌, ◌≤◌, max, Bool, true, false, cond, ◌&&◌, List, [], ◌∷◌, ◌++◌, length, map, take, replicate, not}
use Rattle.std.proofs.Common.{refl, sym, ap, subst, ◌∙◌, arith, add-one}
use Rattle.std.specs.Prelude.{count_by, slice_index_or, slice_get, option_map}
use Rattle.std.specs.Option.{option_map_or}
use Rattle.std.specs.List.{range_with_len}
use Rattle.std.proofs.lemmas.List.{get_or-replicate, length-replicate}
use Rattle.std.proofs.lemmas.List.FromFn.{length-map-range_with_len, get_or-map-range_with_len, fill_by_all}
use Rattle.std.proofs.lemmas.List.Sums.{sum_by-cons}
use Rattle.bench_types.specs.declared.header.Header.{Header}
use Rattle.bench_types.specs.declared.kernel_data.Settings.{Settings}
use Rattle.bench_types.specs.declared.step.Step.{Step}
use Rattle.bench_types.specs.Step.{settings_of}
use Rattle.list_orders.specs.Search.{numbers}
use Rattle.bench_model.specs.Control.{task_at}
use Rattle.bench_model.specs.Lists.{list_queues}
use Rattle.bench_model.specs.Sound.{IsConsistent}
use Rattle.bench_model.specs.Start.{start}
use Rattle.bench_model.specs.Session.{step_of, state_after, state_at}
use Rattle.bench_model.specs.Table.{Stamps, Table, stamp_queues}
use Rattle.bench_model.specs.Tally.{TaskTally, Moment, greatest, is_tick, is_current, outranks_some, is_found_on, is_found_wanting, is_inverted, is_switched_in}
use Rattle.bench_model.specs.Tally.{is_displaced, is_timeout, moment_at, tally_of, tallies}
use Rattle.bench_model.specs.Tallied.{tally_at, run_at, first_tally, first_tallies, one_if, tally_after, tallied, moment_of, tallied_after, part_tallies}
use Rattle.bench_model.specs.Tallied.{added_tally, added, CountsBelow, AllCountsBelow}
use Rattle.session_laws.specs.TallyLaws.{seen_moment}
use Rattle.list_orders.proofs.Filters.{map_agrees, All-weaker}
use Rattle.order_laws.proofs.SeenMoves.{is_ready_seen}
use Rattle.list_orders.proofs.Stamped.{numbers_below}

-- lists that are made from the numbers below n
module _ {X : Type 0} where
  pub numbers_agree : (f g : ℕ → X) (n : ℕ) → ((k : ℕ) → k < n → f k ≡ g k) → map f (numbers n) ≡ map g (numbers n)
  numbers_agree f g n same = map_agrees f g (numbers n) (All-weaker (λ k. k < n) (λ k. f k ≡ g k) same (numbers n) (numbers_below n))

  pub length_each : (f : ℕ → X) (n : ℕ) → length (map f (numbers n)) ≡ n
  length_each f n = length-map-range_with_len f 0 n

  pub each_at : (f : ℕ → X) (n k : ℕ) (d : X) → k < n → slice_index_or (map f (numbers n)) k d ≡ f k
  each_at f n k d below = get_or-map-range_with_len f 0 n k k d below (omega arith)

  pub numbers_so : (f g : ℕ → X) (m n : ℕ) → m ≡ n → ((k : ℕ) → k < n → f k ≡ g k) → map f (numbers m) ≡ map g (numbers n)
  numbers_so f g m n same each = ap (λ k. map f (numbers k)) same ∙ numbers_agree f g n each

  -- a list is made from its items
  pub own_items : (xs : List X) (d : X) → map (λ k. slice_index_or xs k d) (numbers (length xs)) ≡ xs
  own_items xs d = sym (fill_by_all (λ k. slice_index_or xs k d) xs (length xs) d refl (λ k below. refl))

-- a count from one number on
count_later : (p : ℕ → Bool) (a n : ℕ) → count_by p (range_with_len (a + 1) n) ≡ count_by (λ k. p (suc k)) (range_with_len a n)
count_later p a zero = refl
count_later p a (suc n) =
    sum_by-cons (λ k. cond (p k) 1 0) (a + 1) (range_with_len (a + 1 + 1) n)
    ∙ ap (λ k. cond (p k) 1 0 + count_by p (range_with_len (a + 1 + 1) n)) (add-one a)
    ∙ ap (λ rest. cond (p (suc a)) 1 0 + rest) (count_later p (a + 1) n)
    ∙ sym (sum_by-cons (λ k. cond (p (suc k)) 1 0) a (range_with_len (a + 1) n))

map_later : {X : Type 0} (f : ℕ → X) (a n : ℕ) → map f (range_with_len (a + 1) n) ≡ map (λ k. f (suc k)) (range_with_len a n)
map_later f a zero = refl
map_later f a (suc n) = ap (λ k. f k ∷ map f (range_with_len (a + 1 + 1) n)) (add-one a) ∙ ap (λ rest. f (suc a) ∷ rest) (map_later f (a + 1) n)

abbrev passes_at : (Moment Stamps → Bool) → Table → List Step → ℕ → Bool
passes_at test table steps place = let here = state_after table (take place steps) in option_map_or test (option_map (λ step. record {
  before = here;
  step = step;
  reply = (step_of step here).0;
  after = state_after table (take (suc place) steps);
}) (slice_get steps place)) false

-- how many of the steps after a table pass a test, step by step
abbrev pub count_after : (Moment Stamps → Bool) → Table → List Step → ℕ
count_after test table [] = 0
count_after test table (step ∷ steps) = one_if (test (moment_of table step)) + count_after test (step_of step table).1 steps

places_counted : (test : Moment Stamps → Bool) (table : Table) (steps : List Step) → count_by (passes_at test table steps) (numbers (length steps)) ≡
    count_after test table steps
places_counted test table [] = refl
places_counted test table (step ∷ steps) =
    let passes = passes_at test table (step ∷ steps) in
    sum_by-cons (λ place. cond (passes place) 1 0) 0 (range_with_len (0 + 1) (length steps))
    ∙ ap (λ rest. one_if (test (moment_of table step)) + rest) (count_later passes 0 (length steps) ∙ places_counted test (step_of step table).1 steps)

-- the greatest priority in use after each of the steps
abbrev in_use_of : ℕ → Table → ℕ
in_use_of task table = (task_at table.control task).in_use

abbrev top_after : ℕ → Table → List Step → ℕ
top_after task table [] = 0
top_after task table (step ∷ steps) = let next = (step_of step table).1 in max (in_use_of task next) (top_after task next steps)

places_topped : (task : ℕ) (table : Table) (steps : List Step) → greatest
    (map (λ place. in_use_of task (state_after table (take place steps))) (numbers (suc (length steps)))) ≡ max (in_use_of task table)
    (top_after task table steps)
places_topped task table [] = refl
places_topped task table (step ∷ steps) =
    let top = λ (place : ℕ). in_use_of task (state_after table (take place (step ∷ steps))) in
    ap (λ rest. max (in_use_of task table) (greatest rest)) (map_later top 0 (suc (length steps))) ∙ ap (max (in_use_of task table))
    (places_topped task (step_of step table).1 steps)

-- tallies whose numbers are equal
same_tally : {run run' : List ℕ} {a a' b b' c c' d d' e e' f f' : ℕ} → run ≡ run' → a ≡ a' → b ≡ b' → c ≡ c' → d ≡ d' → e ≡ e' → f ≡ f' →
    let tally : TaskTally = record { run = run; counts = record { wait = a; inverted = b; switched = c; displaced = d; timeouts = e; top = f } } in
    let tally' : TaskTally = record { run = run'; counts = record { wait = a'; inverted = b'; switched = c'; displaced = d'; timeouts = e'; top = f' } } in
    tally ≡ tally'
same_tally run a b c d e f = cc

-- the tally of a task with all the steps after a table
unfoldable pub counted_after : Table → List Step → ℕ → TaskTally → TaskTally
counted_after table steps task tally = let count = λ (test : Moment Stamps → Bool). count_after test table steps in record {
  run = map (λ core. run_at tally core + count (is_found_on core task)) (numbers (length tally.run));
  counts = record {
    wait = tally.counts.wait + count (is_found_wanting stamp_queues task);
    inverted = tally.counts.inverted + count (is_inverted stamp_queues task);
    switched = tally.counts.switched + count (is_switched_in task);
    displaced = tally.counts.displaced + count (is_displaced task);
    timeouts = tally.counts.timeouts + count (is_timeout task);
    top = max tally.counts.top (top_after task table steps);
  };
}

counted_none : (table : Table) (task : ℕ) (tally : TaskTally) → counted_after table [] task tally ≡ tally
unfolding counted_after
counted_none table task tally =
    same_tally (numbers_agree (λ core. run_at tally core + 0) (run_at tally) (length tally.run) (λ core below. omega arith) ∙ own_items tally.run 0)
    (omega arith) (omega arith) (omega arith) (omega arith) (omega arith) (omega arith)

counted_one_more : (table : Table) (step : Step) (steps : List Step) (task : ℕ) (tally : TaskTally) →
    counted_after (step_of step table).1 steps task (tally_after stamp_queues (moment_of table step) task tally) ≡ counted_after table (step ∷ steps) task tally
unfolding counted_after tally_after
counted_one_more table step steps task tally =
    let one = λ (core : ℕ). run_at tally core + one_if (is_found_on core task (moment_of table step)) in
    let rest = λ (core : ℕ). count_after (is_found_on core task) (step_of step table).1 steps in
    same_tally
    (numbers_so (λ core. run_at (tally_after stamp_queues (moment_of table step) task tally) core + rest core)
    (λ core. run_at tally core + (one_if (is_found_on core task (moment_of table step)) + rest core)) (length (map one (numbers (length tally.run))))
    (length tally.run) (length_each one (length tally.run))
    (λ core below. omega (arith, each_at one (length tally.run) core 0 below)))
    (omega arith) (omega arith) (omega arith) (omega arith) (omega arith) (omega arith)

pub length_tallied : (moment : Moment Stamps) (tallies : List TaskTally) → length (tallied stamp_queues moment tallies) ≡ length tallies
unfolding tallied
length_tallied moment tallies = length_each (λ task. tally_after stamp_queues moment task (tally_at tallies task)) (length tallies)

tallied_at : (moment : Moment Stamps) (tallies : List TaskTally) (task : ℕ) → task < length tallies → tally_at (tallied stamp_queues moment tallies) task ≡
    tally_after stamp_queues moment task (tally_at tallies task)
unfolding tallied
tallied_at moment tallies task below = each_at (λ task. tally_after stamp_queues moment task (tally_at tallies task)) (length tallies) task _ below

-- the tallies with all the steps after a table, task by task
pub tallied_each : (table : Table) (steps : List Step) (tallies : List TaskTally) → tallied_after table steps tallies ≡ map
    (λ task. counted_after table steps task (tally_at tallies task)) (numbers (length tallies))
tallied_each table [] tallies =
    sym (numbers_agree (λ task. counted_after table [] task (tally_at tallies task)) (tally_at tallies) (length tallies)
    (λ task below. counted_none table task (tally_at tallies task)) ∙ own_items tallies _)
tallied_each table (step ∷ steps) tallies =
    let next = (step_of step table).1 in
    let later = tallied stamp_queues (moment_of table step) tallies in
    tallied_each next steps later
    ∙ numbers_so (λ task. counted_after next steps task (tally_at later task)) (λ task. counted_after table (step ∷ steps) task (tally_at tallies task))
    (length later) (length tallies) (length_tallied (moment_of table step) tallies)
    (λ task below. ap (counted_after next steps task) (tallied_at (moment_of table step) tallies task below) ∙ counted_one_more table step steps task
    (tally_at tallies task))

-- those from the first tallies on
pub part_each : (settings : Settings) (table : Table) (steps : List Step) → part_tallies settings table steps ≡ map
    (λ task. counted_after table steps task (first_tally settings table.control task)) (numbers settings.tasks)
part_each settings table steps =
    let first = first_tallies settings table.control in
    tallied_each table steps first
    ∙ numbers_so (λ task. counted_after table steps task (tally_at first task))
    (λ task. counted_after table steps task (first_tally settings table.control task)) (length first) settings.tasks
    (length_each (first_tally settings table.control) settings.tasks)
    (λ task below. ap (counted_after table steps task) (each_at (first_tally settings table.control) settings.tasks task _ below))

run_from_zero : (cores core n : ℕ) → core < cores → slice_index_or (replicate cores 0) core 0 + n ≡ n
run_from_zero cores core n below = omega (arith, get_or-replicate {A = ℕ} cores core 0 0 below)

-- the tally of a session, task by task
session_tally : (header : Header) (steps : List Step) (task : ℕ) → tally_of header steps task ≡ counted_after (start header) steps task
    (first_tally (settings_of header) (start header).control task)
unfolding counted_after moment_at state_at
session_tally header steps task =
    let table = start header in
    let cores = header.config.cores in
    same_tally
    (sym (numbers_so (λ core. run_at (first_tally (settings_of header) table.control task) core + count_after (is_found_on core task) table steps)
    (λ core. count_by (passes_at (is_found_on core task) table steps) (numbers (length steps))) (length (replicate cores 0)) cores
    (length-replicate cores 0)
    (λ core below. run_from_zero cores core _ below ∙ sym (places_counted (is_found_on core task) table steps))))
    (omega (arith, places_counted (is_found_wanting stamp_queues task) table steps))
    (omega (arith, places_counted (is_inverted stamp_queues task) table steps))
    (omega (arith, places_counted (is_switched_in task) table steps))
    (omega (arith, places_counted (is_displaced task) table steps))
    (omega (arith, places_counted (is_timeout task) table steps))
    (places_topped task table steps)

pub stepwise : (header : Header) (steps : List Step) → tallies header steps ≡ part_tallies (settings_of header) (start header) steps
stepwise header steps =
    numbers_agree (tally_of header steps) (λ task. counted_after (start header) steps task (first_tally (settings_of header) (start header).control task))
    (settings_of header).tasks (λ task below. session_tally header steps task)
    ∙ sym (part_each (settings_of header) (start header) steps)

-- A session that is cut in two.
count_parts : (test : Moment Stamps → Bool) (table : Table) (first second : List Step) → count_after test table (first ++ second) ≡ count_after test table first
    + count_after test (state_after table first) second
count_parts test table [] second = omega arith
count_parts test table (step ∷ first) second = omega (arith, count_parts test (step_of step table).1 first second)

-- the priority in use at the cut is one of those of the first part
top_at_cut : (task : ℕ) (table : Table) (first : List Step) → in_use_of task (state_after table first) ≤ max (in_use_of task table) (top_after task table first)
top_at_cut task table [] = omega arith
top_at_cut task table (step ∷ first) = omega (arith, top_at_cut task (step_of step table).1 first)

top_parts : (task : ℕ) (table : Table) (first second : List Step) → top_after task table (first ++ second) ≡ max (top_after task table first)
    (top_after task (state_after table first) second)
top_parts task table [] second = omega arith
top_parts task table (step ∷ first) second = omega (arith, top_parts task (step_of step table).1 first second)

added_parts : (settings : Settings) (table : Table) (first second : List Step) (task : ℕ) →
    counted_after table (first ++ second) task (first_tally settings table.control task)
    ≡ added_tally (counted_after table first task (first_tally settings table.control task))
    (counted_after (state_after table first) second task (first_tally settings (state_after table first).control task))
unfolding counted_after added_tally
added_parts settings table first second task =
    let cut = state_after table first in
    let none : List ℕ = replicate settings.cores 0 in
    let cores : ℕ = length none in
    let before = λ (core : ℕ). run_at (first_tally settings table.control task) core + count_after (is_found_on core task) table first in
    let later = λ (core : ℕ). run_at (first_tally settings cut.control task) core + count_after (is_found_on core task) cut second in
    same_tally
    (sym (numbers_so (λ core. slice_index_or (map before (numbers cores)) core 0 + slice_index_or (map later (numbers cores)) core 0)
    (λ core. run_at (first_tally settings table.control task) core + count_after (is_found_on core task) table (first ++ second))
    (length (map before (numbers cores))) cores (length_each before cores)
    (λ core below.
    let low : core < settings.cores = omega (arith, length-replicate {A = ℕ} settings.cores 0, below) in
    omega (
      arith,
      each_at before cores core 0 below,
      each_at later cores core 0 below,
      run_from_zero settings.cores core 0 low,
      count_parts
          (is_found_on core task) table first second,
    ))))
    (omega (arith, count_parts (is_found_wanting stamp_queues task) table first second))
    (omega (arith, count_parts (is_inverted stamp_queues task) table first second))
    (omega (arith, count_parts (is_switched_in task) table first second))
    (omega (arith, count_parts (is_displaced task) table first second))
    (omega (arith, count_parts (is_timeout task) table first second))
    (omega (arith, top_parts task table first second, top_at_cut task table first))

length_part : (settings : Settings) (table : Table) (steps : List Step) → length (part_tallies settings table steps) ≡ settings.tasks
length_part settings table steps = ap length (part_each settings table steps) ∙ length_each
    (λ task. counted_after table steps task (first_tally settings table.control task)) settings.tasks

part_at : (settings : Settings) (table : Table) (steps : List Step) (task : ℕ) → task < settings.tasks → tally_at (part_tallies settings table steps) task ≡
    counted_after table steps task (first_tally settings table.control task)
part_at settings table steps task below = ap (λ tallies. tally_at tallies task) (part_each settings table steps) ∙ each_at
    (λ task. counted_after table steps task (first_tally settings table.control task)) settings.tasks task _ below

pub parts_added : (settings : Settings) (table : Table) (first second : List Step) → part_tallies settings table (first ++ second) ≡ added
    (part_tallies settings table first) (part_tallies settings (state_after table first) second)
unfolding added
parts_added settings table first second =
    let cut = state_after table first in
    let before = part_tallies settings table first in
    let later = part_tallies settings cut second in
    part_each settings table (first ++ second)
    ∙ sym (numbers_so (λ task. added_tally (tally_at before task) (tally_at later task))
    (λ task. counted_after table (first ++ second) task (first_tally settings table.control task)) (length before) settings.tasks
    (length_part settings table first)
    (λ task below. ap (λ tally. added_tally tally (tally_at later task)) (part_at settings table first task below) ∙ ap
    (added_tally (counted_after table first task (first_tally settings table.control task))) (part_at settings cut second task below) ∙ sym
    (added_parts settings table first second task)))

-- A count is at most the number of steps.
one_at_most : (b : Bool) → one_if b ≤ 1
one_at_most true = omega arith
one_at_most false = omega arith

count_few : (test : Moment Stamps → Bool) (table : Table) (steps : List Step) → count_after test table steps < suc (length steps)
count_few test table [] = omega arith
count_few test table (step ∷ steps) = omega (arith, count_few test (step_of step table).1 steps, one_at_most (test (moment_of table step)))

few_after : (settings : Settings) (table : Table) (steps : List Step) (task : ℕ) → CountsBelow (suc (length steps))
    (counted_after table steps task (first_tally settings table.control task))
unfolding counted_after
few_after settings table steps task =
    let first = first_tally settings table.control task in
    let cores = length first.run in
    let run = λ (core : ℕ). run_at first core + count_after (is_found_on core task) table steps in
    record {
      run = λ core d low.
          let below : core < cores = omega (arith, low, length_each run cores) in
          let zero_so = run_from_zero settings.cores core 0 (omega (arith, below, length-replicate {A = ℕ} settings.cores 0)) in
          omega (arith, each_at run cores core d below, zero_so, count_few (is_found_on core task) table steps);
      wait = omega (arith, count_few (is_found_wanting stamp_queues task) table steps);
      inverted = omega (arith, count_few (is_inverted stamp_queues task) table steps);
      switched = omega (arith, count_few (is_switched_in task) table steps);
      displaced = omega (arith, count_few (is_displaced task) table steps);
      timeouts = omega (arith, count_few (is_timeout task) table steps);
    }

pub part_few : (settings : Settings) (table : Table) (steps : List Step) → AllCountsBelow (suc (length steps)) (part_tallies settings table steps)
part_few settings table steps task d low =
    let below : task < settings.tasks = omega (arith, low, length_part settings table steps) in
    let each = λ (task : ℕ). counted_after table steps task (first_tally settings table.control task) in
    subst (CountsBelow (suc (length steps))) (sym
    (ap (λ tallies. slice_index_or tallies task d) (part_each settings table steps) ∙ each_at each settings.tasks task d below))
    (few_after settings table steps task)

-- A step over lists.
waiting_seen : (moment : Moment Stamps) (task : ℕ) → IsConsistent moment.before → task < moment.before.settings.tasks → is_found_wanting stamp_queues task
    moment ≡ is_found_wanting list_queues task (seen_moment moment)
waiting_seen moment task sound below =
    let before = moment.before in
    let ready = is_ready_seen before.control before.orders task sound.stamped.given (omega (arith, sound.sized.rows, below)) in
    ap (λ b. is_tick moment.step && (b && not (is_current before.control task))) (sym ready)

counted_seen : (moment : Moment Stamps) (task : ℕ) (tally : TaskTally) → IsConsistent moment.before → task < moment.before.settings.tasks → tally_after
    stamp_queues moment task tally ≡ tally_after list_queues (seen_moment moment) task tally
unfolding tally_after
counted_seen moment task tally sound below =
    let waiting = waiting_seen moment task sound below in
    same_tally refl
    (ap (λ b. tally.counts.wait + one_if b) waiting)
    (ap (λ b. tally.counts.inverted + one_if (b && outranks_some moment.before.control task)) waiting)
    refl refl refl refl

pub tallied_seen : (moment : Moment Stamps) (tallies : List TaskTally) → IsConsistent moment.before → length tallies ≤ moment.before.settings.tasks → tallied
    stamp_queues moment tallies ≡ tallied list_queues (seen_moment moment) tallies
unfolding tallied
tallied_seen moment tallies sound few =
    numbers_agree (λ task. tally_after stamp_queues moment task (tally_at tallies task))
    (λ task. tally_after list_queues (seen_moment moment) task (tally_at tallies task)) (length tallies)
    (λ task below. counted_seen moment task (tally_at tallies task) sound (omega (arith, below, few)))
