-- The tick: tasks that are woken in turn, each with its seek, and the slices after them; as lists, and that soundness stays.
use Rattle.std.proofs.Common.{◌≡◌, ℕ, ◌<◌, List, [], ◌∷◌, length, refl, sym, ap, subst, ◌∙◌, arith}
use Rattle.std.specs.List.{fold, AllByRecursion}
use Rattle.bench_model.specs.Control.{Control, in_mask}
use Rattle.bench_model.specs.State.{State}
use Rattle.bench_model.specs.Steps.{woken, ticked}
use Rattle.bench_model.specs.Table.{Table, stamp_queues, advance, due}
use Rattle.bench_model.specs.Lists as seen
use Rattle.bench_model.specs.Lists.{list_queues, view_of}
use Rattle.bench_model.specs.Seek.{seek, wake, sliced}
use Rattle.bench_model.specs.Sound.{WakesInTime, IsConsistent}
use Rattle.list_orders.proofs.Filters.{All-weaker}
use Rattle.order_laws.proofs.Restamps.{IsGiven}
use Rattle.order_laws.proofs.SeenMoves.{advance_seen, due_seen}
use Rattle.order_laws.proofs.SeenSteps.{same_state, add_to_ready_given, add_to_ready_length, advanced_given, in_time_ahead, advanced_near, due_below}
use Rattle.order_laws.proofs.SoundSteps.{IsAskedMore, more_sound, readied, readied_sound}
use Rattle.rule_laws.proofs.Seeks.{wake_seen, seek_more, sliced_seen, sliced_sound}

abbrev pub with_orders : {Orders : Type 0} → State Orders → Orders → State Orders
with_orders state orders = record state { orders = orders }

wake_given : (table : Table) (task : ℕ) → IsGiven table.orders → task < length table.orders.rows → IsGiven (wake stamp_queues 0 task table).orders
unfolding wake
wake_given table task given below = add_to_ready_given table.orders task given below

wake_length : (table : Table) (task : ℕ) → task < length table.orders.rows → length (wake stamp_queues 0 task table).orders.rows ≡ length table.orders.rows
unfolding wake
wake_length table task below = add_to_ready_length table.orders task below

-- tasks that are woken in turn
pub woken_seen : (tasks : List ℕ) (table : Table) → IsGiven table.orders → AllByRecursion (λ task. task < length table.orders.rows) tasks → view_of
    (woken stamp_queues tasks table) ≡ woken list_queues tasks (view_of table)
woken_seen [] table given below = refl
woken_seen (task ∷ tasks) table given below =
    let later = wake stamp_queues 0 task table in
    let rest = All-weaker (λ i. i < length table.orders.rows) (λ i. i < length later.orders.rows) (λ i h. omega (arith, wake_length table task below.0)) tasks
    below.1 in
    woken_seen tasks later (wake_given table task given below.0) rest ∙ ap (woken list_queues tasks) (wake_seen table 0 task given below.0)

-- the cores after the seeks of tasks that are woken in turn
abbrev sought_each : List ℕ → Control → Control
sought_each tasks control = fold (λ later task. seek 0 task (in_mask later task) later) control tasks

more_chain : (one two three : Control) → IsAskedMore one two → IsAskedMore two three → IsAskedMore one three
more_chain one two three first second = record {
  cores = second.cores ∙ first.cores;
  tasks = second.tasks ∙ first.tasks;
  currents = λ c. second.currents c ∙ first.currents c;
  due = λ c is. second.due c (first.due c is);
}

sought_more : (tasks : List ℕ) (control : Control) → IsAskedMore control (sought_each tasks control)
sought_more [] control = record { cores = refl; tasks = refl; currents = λ c. refl; due = λ c is. is }
sought_more (task ∷ tasks) control =
    let later = seek 0 task (in_mask control task) control in
    more_chain control later (sought_each tasks later) (seek_more 0 task (in_mask control task) control) (sought_more tasks later)

-- what waking does to the cores, and what it does to the orders
pub woken_parts : (tasks : List ℕ) (table : Table) → woken stamp_queues tasks table ≡ record table
    { control = sought_each tasks table.control; orders = readied table.orders tasks }
unfolding wake
woken_parts [] table = refl
woken_parts (task ∷ tasks) table = woken_parts tasks (wake stamp_queues 0 task table)

-- the table after the wakes of a tick
abbrev pub after_wakes : Table → Table
after_wakes table = let later = advance table.orders in woken stamp_queues (due later) (with_orders table later)

pub wakes_sound : (table : Table) → IsConsistent table → IsConsistent (after_wakes table)
wakes_sound table sound =
    let later = advance table.orders in
    let tasks = due later in
    subst IsConsistent (sym (woken_parts tasks (with_orders table later)))
    (more_sound (with_orders table (readied later tasks)) (sought_each tasks table.control) (sought_more tasks table.control) (readied_sound table sound))

pub ticked_sound : (table : Table) → IsConsistent table → IsConsistent (ticked stamp_queues table)
unfolding ticked
ticked_sound table sound = sliced_sound (after_wakes table) (wakes_sound table sound)

advanced_view : (table : Table) → WakesInTime table.orders → view_of (with_orders table (advance table.orders)) ≡ with_orders (view_of table)
    (seen.advance (view_of table).orders)
advanced_view table in_time = same_state table.settings table.control table.control table.calls table.notes table.holders table.queues table.hold _ _ refl
    (advance_seen table.control table.orders (in_time_ahead table.orders in_time))

due_seen_later : (table : Table) → WakesInTime table.orders → due (advance table.orders) ≡ seen.due (seen.advance (view_of table).orders)
due_seen_later table in_time =
    sym (due_seen table.control (advance table.orders) (advanced_near table.orders in_time)) ∙ ap seen.due
    (advance_seen table.control table.orders (in_time_ahead table.orders in_time))

pub ticked_seen : (table : Table) → IsConsistent table → view_of (ticked stamp_queues table) ≡ ticked list_queues (view_of table)
unfolding ticked
ticked_seen table sound =
    let later = advance table.orders in
    let advanced = with_orders (view_of table) (seen.advance (view_of table).orders) in
    sliced_seen (after_wakes table) (wakes_sound table sound)
    ∙ ap (sliced list_queues)
    (woken_seen (due later) (with_orders table later) (advanced_given table.orders sound.stamped.given) (due_below later)
    ∙ ap (woken list_queues (due later)) (advanced_view table sound.in_time)
    ∙ ap (λ tasks. woken list_queues tasks advanced) (due_seen_later table sound.in_time))
