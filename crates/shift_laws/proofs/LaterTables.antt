-- A table that is moved in time: what can be seen of it is what could be seen, with another tick count, and it is as sound.
use Rattle.std.proofs.Common.{◌≡◌, ℕ, ◌+◌, ◌-◌, ◌^◌, ◌||◌, Bool, length, map, Option, Some, None, refl, sym, ap, ap₂, ◌∙◌, arith}
use Rattle.std.specs.Prelude.{is_some, option_map, unwrap_or}
use Rattle.std.proofs.lemmas.List.{length-map}
use Rattle.std.proofs.Math.ListN.{get_or-map}
use Rattle.std.proofs.Math.Nat.{mod-add-mod}
use Rattle.std.proofs.Math.Path.{fun_ext}
use mathlib.Core.List.{map-map}
use Rattle.bench_types.specs.declared.kernel_data.Delayed.{Delayed}
use Rattle.bench_types.specs.declared.kernel_data.Hold.{Hold}
use Rattle.bench_types.specs.declared.kernel_data.Waiter.{Waiter}
use Rattle.bench_model.specs.declared.row.TaskRow.{TaskRow}
use Rattle.bench_model.specs.declared.row.TaskState.{TaskState}
use Rattle.bench_model.specs.declared.row.TaskState.TheVariants.{Ready, Blocked}
use Rattle.bench_model.specs.Control.{Control, current}
use Rattle.bench_model.specs.Equal.{StandsFor}
use Rattle.bench_model.specs.Lists.{View, lists_of, view_of, delayed_of, outranks, wakes_first}
use Rattle.bench_model.specs.Shifted.{later_tick, shifted}
use Rattle.bench_model.specs.Sound.{IsStamped, HasCurrentTasks, WakesInTime, HasMutexes, IsConsistent, IsHeldWell, IsSound, IsWaiter}
use Rattle.bench_model.specs.Table as rows
use Rattle.bench_model.specs.Table.{Stamps, Table, row_at, stamp_of, wake_in, stands_ready, is_ready, deadline_at}
use Rattle.bench_model.specs.Waiters.{list_awaited}
use Rattle.list_orders.specs.Search.{numbers, by_stamp, ranked}
use Rattle.list_orders.proofs.Filters.{All-weaker, All_each}
use Rattle.order_laws.proofs.Served.{turn_moved}
use Rattle.order_laws.proofs.Restamps.{standing_so, waits}
use Rattle.order_laws.proofs.SeenMoves.{same_seen}
use Rattle.order_laws.proofs.Sizes.{resized, lengths_of}
use Rattle.shift_laws.specs.Later.{later_standing, later_row, later_stamps, later}
use Rattle.shift_laws.specs.Shifts.{IsShifted}

-- ---- one row

ready_later : (by : ℕ) (standing : TaskState) → stands_ready (later_standing by standing) ≡ stands_ready standing
ready_later by Ready = refl
ready_later by (Blocked wake) = refl

pub wake_later : (by : ℕ) (standing : TaskState) → wake_in (later_standing by standing) ≡ option_map (λ wake. wake + by) (wake_in standing)
wake_later by Ready = refl
wake_later by (Blocked wake) = refl

some_later : (by : ℕ) (wake : Option ℕ) → is_some (option_map (λ wake. wake + by) wake) ≡ is_some wake
some_later by None = refl
some_later by (Some wake) = refl

left_later : (by tick : ℕ) (wake : Option ℕ) → unwrap_or (option_map (λ wake. wake + by) wake) 0 - (tick + by) ≡ unwrap_or wake 0 - tick
left_later by tick None = omega arith
left_later by tick (Some wake) = omega arith

-- the ticks to a deadline
pub deadline_later :
    (by tick : ℕ) (deadline : Option ℕ)
    → option_map (λ deadline. deadline - (tick + by)) (option_map (λ deadline. deadline + by) deadline) ≡ option_map (λ deadline. deadline - tick) deadline
deadline_later by tick None = refl
deadline_later by tick (Some deadline) = let left : (deadline + by) - (tick + by) ≡ deadline - tick = omega arith in ap Some left

-- what is so many ticks later was there before
was_before : (by found : ℕ) (wake : Option ℕ) → option_map (λ wake. wake + by) wake ≡ Some found → (before : ℕ) × (wake ≡ Some before) × (found ≡ before + by)
was_before by found None is = absurd (cc (is))
was_before by found (Some wake) is = (wake, refl, cc (is))

-- ---- all rows

module _ (by : ℕ) (stamps : Stamps) where
  row_later : (task : ℕ) → row_at (later_stamps by stamps) task ≡ later_row by (row_at stamps task)
  row_later task = get_or-map (later_row by) stamps.rows task (record { stamp = 0; standing = Ready })

  pub stands_later : (task : ℕ) → (row_at (later_stamps by stamps) task).standing ≡ later_standing by (row_at stamps task).standing
  stands_later task = ap (λ (row : TaskRow). row.standing) (row_later task)

  pub stamp_later : (task : ℕ) → stamp_of (later_stamps by stamps) task ≡ stamp_of stamps task
  stamp_later task = ap (λ (row : TaskRow). row.stamp) (row_later task)

  pub is_ready_later : (task : ℕ) → is_ready task (later_stamps by stamps) ≡ is_ready task stamps
  is_ready_later task = ap stands_ready (stands_later task) ∙ ready_later by (row_at stamps task).standing

  rows_later : length (later_stamps by stamps).rows ≡ length stamps.rows
  rows_later = length-map stamps.rows (later_row by)

  standing_later :
      (test : TaskState → Bool) → ((standing : TaskState) → test (later_standing by standing) ≡ test standing)
      → standing_so test (later_stamps by stamps) ≡ standing_so test stamps
  standing_later test same =
      let stamp = fun_ext stamp_later in
      let passes = fun_ext (λ task. ap test (stands_later task) ∙ same (row_at stamps task).standing) in
      λ i. by_stamp (stamp i) (passes i) (numbers (rows_later i)) stamps.next

  delayed_later : (task : ℕ) → delayed_of (later_stamps by stamps) task ≡ delayed_of stamps task
  delayed_later task =
      let entry = λ (left : ℕ). let delayed : Delayed = record { task = task; left = left } in delayed in
      let wake = ap wake_in (stands_later task) ∙ wake_later by (row_at stamps task).standing in
      ap (λ wake. entry (unwrap_or wake 0 - (stamps.tick + by))) wake ∙ ap entry (left_later by stamps.tick (wake_in (row_at stamps task).standing))

  waits_later : (standing : TaskState) → waits (later_standing by standing) ≡ waits standing
  waits_later standing = ap is_some (wake_later by standing) ∙ some_later by (wake_in standing)

  lists_later : (control : Control)
      → lists_of control (later_stamps by stamps) ≡ record (lists_of control stamps) { tick = later_tick by (lists_of control stamps).tick }
  unfolding lists_of
  lists_later control = same_seen _ _ _ _ _ _ _ _ _ _ _
      (ap (ranked (outranks control)) (standing_later stands_ready (ready_later by)))
      (sym (mod-add-mod stamps.tick (2 ^ 32) by))
      (ap (ranked wakes_first) (ap₂ map (fun_ext delayed_later) (standing_later waits waits_later)))
      refl
      (map-map (option_map (λ deadline. deadline - (stamps.tick + by))) (option_map (λ deadline. deadline + by)) stamps.deadlines
      ∙ ap (λ f. map f stamps.deadlines) (fun_ext (deadline_later by stamps.tick)))

pub later_shifted : (by : ℕ) (table : Table) → IsShifted by table (later by table)
unfolding later
later_shifted by table = ap (λ lists. record (view_of table) { orders = lists }) (lists_later by table.orders table.control)

-- ---- it is sound

stamped_later : (by : ℕ) (stamps : Stamps) → IsStamped stamps → IsStamped (later_stamps by stamps)
stamped_later by stamps stamped = record {
  given = λ i low. omega (arith, stamp_later by stamps i, stamped.given i (omega (arith, rows_later by stamps, low)));
  once = λ i j low high same.
      stamped.once i j (omega (arith, rows_later by stamps, low)) (omega (arith, rows_later by stamps, high))
      (sym (stamp_later by stamps i) ∙ same ∙ stamp_later by stamps j);
}

currents_later : (by : ℕ) (control : Control) (stamps : Stamps) → HasCurrentTasks control stamps → HasCurrentTasks control (later_stamps by stamps)
currents_later by control stamps current_tasks = record {
  is_task = λ c low. omega (arith, rows_later by stamps, current_tasks.is_task c low);
  on_one_core = current_tasks.on_one_core;
  blocked_is_due = λ c low blocked. current_tasks.blocked_is_due c low (sym (is_ready_later by stamps (current control c)) ∙ blocked);
  idle_is_ready = λ i low. is_ready_later by stamps i ∙ current_tasks.idle_is_ready i low;
}

in_time_later : (by : ℕ) (stamps : Stamps) → WakesInTime stamps → WakesInTime (later_stamps by stamps)
in_time_later by stamps in_time i wake low is =
    let standing = (row_at stamps i).standing in
    let before = was_before by wake (wake_in standing) (sym (ap wake_in (stands_later by stamps i) ∙ wake_later by standing) ∙ is) in
    let was = in_time i before.0 (omega (arith, rows_later by stamps, low)) before.1 in
    (omega (arith, was.0, before.2), omega (arith, was.1, before.2))

pub deadline_at_later :
    (by : ℕ) (stamps : Stamps) (i : ℕ) → deadline_at (later_stamps by stamps) i ≡ option_map (λ deadline. deadline + by) (deadline_at stamps i)
deadline_at_later by stamps i = get_or-map (option_map (λ deadline. deadline + by)) stamps.deadlines i None

-- a task waits later where it waited before
still_waits : (by : ℕ) (stamps : Stamps) (i : ℕ) → rows.waits i (later_stamps by stamps) ≡ rows.waits i stamps
still_waits by stamps i =
    ap (λ wake. is_some wake || is_some (list_awaited i stamps.waiters))
    (ap wake_in (stands_later by stamps i) ∙ wake_later by (row_at stamps i).standing)
    ∙ ap (λ some. some || is_some (list_awaited i stamps.waiters)) (some_later (wake_in (row_at stamps i).standing))
  where
    some_later : (wake : Option ℕ) → is_some (option_map (λ wake. wake + by) wake) ≡ is_some wake
    some_later None = refl
    some_later (Some wake) = refl

mutexes_later :
    (by : ℕ) (table : Table) → HasMutexes table.settings table.calls table.holders table.orders
    → HasMutexes table.settings table.calls table.holders (later_stamps by table.orders)
mutexes_later by table mutexes = record {
  held_by_tasks = mutexes.held_by_tasks;
  waits = All-weaker (IsWaiter table.settings table.orders) (IsWaiter table.settings (later_stamps by table.orders))
      (λ waiter is. (omega (arith, rows_later by table.orders, is.0), is_ready_later by table.orders waiter.task ∙ is.1, is.2)) table.orders.waiters
      mutexes.waits;
  once = mutexes.once;
  by_list = mutexes.by_list;
  awaited = λ i low blocked. mutexes.awaited i (omega (arith, rows_later by table.orders, low)) (sym (still_waits by table.orders i) ∙ blocked);
  turns = λ none. turn_moved table.orders (later_stamps by table.orders) table.orders.waiters
      (All_each (λ (w : Waiter). stamp_of (later_stamps by table.orders) w.task ≡ stamp_of table.orders w.task) (λ w. stamp_later by table.orders w.task)
      table.orders.waiters) (mutexes.turns none);
  values = mutexes.values;
  deadlines = λ i deadline is.
      let before = was_before by deadline (deadline_at table.orders i) (sym (deadline_at_later by table.orders i) ∙ is) in
      let was = mutexes.deadlines i before.0 before.1 in
      (omega (arith, was.0, before.2), was.1);
}

pub consistent_later : (by : ℕ) (table : Table) → IsConsistent table → IsConsistent (later by table)
unfolding later
consistent_later by table consistent = record {
  sized = resized table (later by table) refl
      (ap₂ (λ rows deadlines. record (lengths_of table) { rows = rows; deadlines = deadlines }) (rows_later by table.orders)
      (length-map table.orders.deadlines (option_map (λ deadline. deadline + by))))
      consistent.sized;
  stamped = stamped_later by table.orders consistent.stamped;
  in_place = currents_later by table.control table.orders consistent.in_place;
  in_time = in_time_later by table.orders consistent.in_time;
  blocks = consistent.blocks;
  calls = consistent.calls;
  notes = consistent.notes;
  mutexes = mutexes_later by table consistent.mutexes;
}

held_later : (by : ℕ) (table : Table) (hold : Hold) → IsHeldWell table hold → IsHeldWell (later by table) hold
unfolding later
held_later by table hold held = record {
  core_below = held.core_below;
  depth = held.depth;
  user = held.user;
  ready = is_ready_later by table.orders (current table.control hold.core) ∙ held.ready;
  no_call = held.no_call;
}

pub later_sound : (by : ℕ) (table : Table) → IsSound table → IsSound (later by table)
unfolding later
later_sound by table sound = record {
  consistent = consistent_later by table sound.consistent;
  held = λ hold is. held_later by table hold (sound.held hold is);
}

pub shifted_stands : (by : ℕ) (view : View) (table : Table) → StandsFor view table → StandsFor (shifted by view) (later by table)
shifted_stands by view table stands = record {
  sound = later_sound by table stands.sound;
  shows = later_shifted by table ∙ ap (shifted by) stands.shows;
}

pub stands_shifted : (by : ℕ) (view : View) (a b : Table) → StandsFor view a → IsShifted by a b → IsSound b → StandsFor (shifted by view) b
stands_shifted by view a b stands same sound = record { sound = sound; shows = same ∙ ap (shifted by) stands.shows }
