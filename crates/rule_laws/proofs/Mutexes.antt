-- Mutexes with priority inheritance: each rule as lists, and that it keeps a table sound.
use Rattle.std.proofs.Common.{◌≡◌, zero, suc, ℕ, ◌+◌, ◌-◌, ◌*◌, ◌<◌, ◌≤◌, ◌^◌, Bool, true, false, cond, not, eqb, ltb, ◌&&◌, List, [], ◌∷◌, length, Option, Some, None, refl, sym, ap}
use Rattle.std.proofs.Common.{ap₂, subst, ◌∙◌, arith}
use Rattle.std.specs.Prelude.{slice_set, option_map, unwrap_or, All}
use Rattle.std.specs.Option.{option_map_or}
use Rattle.std.proofs.lemmas.Bool.Decides.{nat_tests}
use Rattle.std.proofs.lemmas.List.{length-set}
use Rattle.bench_types.specs.declared.kernel_data.EventWait.{EventWait}
use Rattle.bench_types.specs.declared.kernel_data.Waiter.{Waiter}
use Rattle.bench_types.specs.declared.reply.Reply.{Reply}
use Rattle.bench_types.specs.declared.reply.Reply.TheVariants.{Blocked, Flag}
use Rattle.bench_types.specs.declared.step.Unfinished.{Unfinished}
use Rattle.bench_types.specs.declared.step.Unfinished.TheVariants.{Take}
use Rattle.bench_types.specs.Step.{queue_total}
use Rattle.bench_model.specs.ControlFields.{in_use_set, in_use_and_value_set}
use Rattle.bench_model.specs.Control.{task_at, current, in_mask, ask_its_core}
use Rattle.bench_model.specs.Lists.{seen_of}
use Rattle.bench_model.specs.Lists.{View, list_queues, view_of}
use Rattle.bench_model.specs.Mutexes.{held_by, is_marked, taken, inherited, waited_at, take_from, mutex_take, owed, after_disinherit, timed_out}
use Rattle.bench_model.specs.Mutexes.{disinherit_priority, finish_from, take_finished, disinherited, first_woken, give_from, mutex_give}
use Rattle.bench_model.specs.Notifying.{timeout_of}
use Rattle.bench_model.specs.Seek.{seek, wake}
use Rattle.rule_laws.specs.SeekLaws.{sought}
use Rattle.rule_laws.specs.SetLaws.{on_control}
use Rattle.bench_model.specs.Sound.{IsCaller, IsConsistent, IsWait, IsEventTime, IsWaiter}
use Rattle.bench_model.specs.Waiters.{list_value_of}
use Rattle.bench_model.specs.State.{State, holder_at, blocked, after_return}
use Rattle.bench_model.specs.Table.{Stamps, Table, stamp_queues, is_ready, add_to_ready_list, deadline_at, deadline_left, forget_deadline, first_waiter, set_list_value}
use Rattle.rule_laws.proofs.Awaiting.{waits_on, waits_short}
use Rattle.rule_laws.proofs.ControlFields.{both_seen, both_sound}
use Rattle.order_laws.proofs.FirstWaiters.{first_waiter_seen, first_waiter_all}
use Rattle.order_laws.proofs.SeenMoves.{deadline_left_seen, forget_deadline_seen, list_value_seen}
use Rattle.order_laws.proofs.SeenSteps.{blocked_seen}
use Rattle.rule_laws.proofs.Seeks.{seek_seen, seek_sound, seek_more, wake_seen, wake_sound}
use Rattle.rule_laws.proofs.PriorityAffinity.{either_seen, either_sound, ready_seen, its_core_seen, its_core_sound}
use Rattle.order_laws.proofs.SoundMutexes.{freed_mutexes, held_mutexes}
use Rattle.order_laws.proofs.SoundSteps.{blocked_sound, call_set, add_to_ready_keeps}
use Rattle.order_laws.proofs.Sizes.{lengths_of, resized}

-- ---- holding

pub taken_seen : (table : Table) (task mutex : ℕ) → view_of (taken task mutex table) ≡ taken task mutex (view_of table)
unfolding taken
taken_seen table task mutex = refl

-- a mutex that a task holds from now on, or none
given_sound : (table : Table) (mutex : ℕ) (given : Option ℕ) → IsConsistent table → mutex < table.settings.mutexes →
    ((task : ℕ) → given ≡ Some task → task < table.settings.tasks) → IsConsistent (record table { holders = slice_set table.holders mutex given })
given_sound table mutex given sound low one = record {
  sized = resized table _ refl (ap (λ a. record (lengths_of table) { holders = a }) (length-set table.holders mutex given)) sound.sized;
  stamped = sound.stamped;
  in_place = sound.in_place;
  in_time = sound.in_time;
  blocks = sound.blocks;
  calls = sound.calls;
  notes = sound.notes;
  mutexes = held_mutexes table.settings table.calls table.holders table.orders sound.mutexes mutex given (omega (arith, sound.sized.holders)) one;
}

some_same : (task other : ℕ) → Some task ≡ Some other → other ≡ task
some_same task other same = cc (same)

pub taken_sound : (table : Table) (task mutex : ℕ) → IsConsistent table → task < table.settings.tasks → mutex < table.settings.mutexes → IsConsistent
    (taken task mutex table)
unfolding taken
taken_sound table task mutex sound low below = given_sound table mutex (Some task) sound below
    (λ other same. subst (λ i. i < table.settings.tasks) (sym (some_same task other same)) low)

-- ---- inheriting

module _ (table : Table) (acting holder priority : ℕ) (sound : IsConsistent table) (low : holder < table.settings.tasks) where
  abbrev later : Table
  later = in_use_and_value_set stamp_queues holder priority table

  abbrev later_view : View
  later_view = in_use_and_value_set list_queues holder priority (view_of table)

  abbrev sought_for : {Orders : Type 0} → State Orders → State Orders
  sought_for state = record state { control = seek acting holder (in_mask state.control holder) state.control }

  abbrev is_below : Bool
  is_below = ltb (task_at table.control holder).in_use priority

  pub inherited_seen : view_of (inherited stamp_queues acting holder priority table) ≡ inherited list_queues acting holder priority (view_of table)
  unfolding inherited
  inherited_seen =
      let raised = both_seen table holder priority sound low in
      let ready = is_ready holder table.orders in
      either_seen is_below (cond ready (sought_for later) later) table (cond ready (sought_for later_view) later_view) (view_of table)
      (either_seen ready (sought_for later) later (sought_for later_view) later_view
      (seek_seen later acting holder (in_mask later.control holder) ∙ ap sought_for raised) raised)
      refl
      ∙ ap (λ ready. cond is_below (cond ready (sought_for later_view) later_view) (view_of table)) (ready_seen table holder sound low)

  pub inherited_sound : priority < table.settings.priorities → IsConsistent (inherited stamp_queues acting holder priority table)
  unfolding inherited
  inherited_sound below =
      let raised = both_sound table holder priority sound low below in
      either_sound is_below (cond (is_ready holder table.orders) (sought_for later) later) table
      (either_sound (is_ready holder table.orders) (sought_for later) later (seek_sound later acting holder (in_mask later.control holder) raised) raised)
      sound

-- ---- a task that waits for a mutex keeps its core until then

-- what a task and its core keep where others are raised and sought a core
record IsKept (table other : Table) : Type 0 where
  cores : length other.control.cores ≡ length table.control.cores
  currents : (core : ℕ) → current other.control core ≡ current table.control core
  ready : (task : ℕ) → is_ready task table.orders ≡ true → is_ready task other.orders ≡ true

kept_same : (table : Table) → IsKept table table
kept_same table = record { cores = refl; currents = λ core. refl; ready = λ task is. is }

either_kept : (b : Bool) (table one other : Table) → IsKept table one → IsKept table other → IsKept table (cond b one other)
either_kept true table one other first second = first
either_kept false table one other first second = second

in_use_kept : (table : Table) (task priority : ℕ) → IsConsistent table → task < table.settings.tasks → IsKept table
    (in_use_and_value_set stamp_queues task priority table)
unfolding in_use_set in_use_and_value_set set_list_value
in_use_kept table task priority sound low = record {
  cores = refl;
  currents = λ core. refl;
  ready = λ i is. still (is_ready task table.orders) i is;
}
  where
    still : (b : Bool) (i : ℕ) → is_ready i table.orders ≡ true → is_ready i (cond b (add_to_ready_list task table.orders) table.orders) ≡ true
    still true i is = add_to_ready_keeps table.orders task i (omega (arith, sound.sized.rows)) is
    still false i is = is

sought_kept : (table other : Table) (acting task : ℕ) (among : ℕ → Bool) → IsKept table other → IsKept table (sought acting task among other)
sought_kept table other acting task among kept =
    let more = seek_more acting task among other.control in
    record { cores = more.cores ∙ kept.cores; currents = λ core. more.currents core ∙ kept.currents core; ready = kept.ready }

inherited_kept : (table : Table) (acting holder priority : ℕ) → IsConsistent table → holder < table.settings.tasks → IsKept table
    (inherited stamp_queues acting holder priority table)
unfolding inherited
inherited_kept table acting holder priority sound low =
    let later = in_use_and_value_set stamp_queues holder priority table in
    let kept = in_use_kept table holder priority sound low in
    either_kept (ltb (task_at table.control holder).in_use priority) table _ table
    (either_kept (is_ready holder table.orders) table _ later (sought_kept table later acting holder (in_mask later.control holder) kept) kept)
    (kept_same table)

-- settings and mutexes are as they were
inherited_settings : (table : Table) (acting holder priority : ℕ) → (inherited stamp_queues acting holder priority table).settings ≡ table.settings
unfolding inherited in_use_set in_use_and_value_set
inherited_settings table acting holder priority = at (ltb (task_at table.control holder).in_use priority) (is_ready holder table.orders)
  where
    later : Table
    later = in_use_and_value_set stamp_queues holder priority table

    at : (b d : Bool) → (cond b (cond d (record later { control = seek acting holder (in_mask later.control holder) later.control }) later) table).settings ≡
        table.settings
    at true true = refl
    at true false = refl
    at false d = refl

-- ---- waiting

-- a list value is a priority that there is, and so is the priority in use
pub waiting_below : (values : List ℕ) (task mine bound : ℕ) → All (λ value. value < bound) values → mine < bound → unwrap_or (list_value_of task values) mine <
    bound
waiting_below [] task mine bound all low = low
waiting_below (value ∷ values) zero mine bound all low = all 0 0 (omega arith)
waiting_below (value ∷ values) (suc task) mine bound all low = waiting_below values task mine bound (λ i d below. all (suc i) d (omega (arith, below))) low

abbrev outcome : Reply → View → Reply × View
outcome reply view = (reply, view)

module _ (table : Table) (core task mutex holder : ℕ) (ticks : Option ℕ) (sound : IsConsistent table) (place : IsCaller table core task)
    (low : holder < table.settings.tasks) where
  abbrev mine : ℕ
  mine = (task_at table.control task).in_use

  abbrev raised : Table
  raised = inherited stamp_queues core holder mine table

  abbrev marked : Unfinished
  marked = Take mutex (is_marked table.control task holder)

  -- the wait with this list value, where there is one
  abbrev wait_with : Option ℕ → Option EventWait
  wait_with value = Some (record { list = mutex; priority = unwrap_or value mine })

  abbrev wait : Option EventWait
  wait = wait_with (list_value_of task table.orders.values)

  caller_low : task < table.settings.tasks
  caller_low = omega (arith, sound.sized.rows, place.2)

  raised_sound : IsConsistent raised
  raised_sound = inherited_sound table core holder mine sound low (sound.blocks task caller_low).in_use

  raised_place : IsCaller raised core task
  raised_place =
      let kept = inherited_kept table core holder mine sound low in
      let same = inherited_settings table core holder mine in
      let tasks : task < raised.settings.tasks = subst (λ s. task < s.tasks) (sym same) caller_low in
      (omega (arith, kept.cores, place.0), kept.currents core ∙ place.1, omega (arith, raised_sound.sized.rows, tasks), kept.ready task place.3)

  pub waited_seen : view_of (waited_at stamp_queues core task mutex holder ticks table) ≡ waited_at list_queues core task mutex holder ticks (view_of table)
  unfolding waited_at
  waited_seen = blocked_seen core task marked ticks wait raised raised_sound.stamped.given raised_place.2 raised_place.3 ∙ ap
      (blocked list_queues core task marked ticks wait) (inherited_seen table core holder mine sound low) ∙ ap
      (λ value. blocked list_queues core task marked ticks (wait_with value) (inherited list_queues core holder mine (view_of table)))
      (sym (list_value_seen table.control table.orders task))

  pub waited_sound : length table.control.cores ≤ task → IsWait ticks → IsEventTime ticks → mutex < table.settings.mutexes → IsConsistent
      (waited_at stamp_queues core task mutex holder ticks table)
  unfolding waited_at
  waited_sound user fits short below =
      let same = sym (inherited_settings table core holder mine) in
      let there : mutex < raised.settings.mutexes = subst (λ s. mutex < s.mutexes) same below in
      let listed : mutex < raised.settings.mutexes + 2 * queue_total raised.settings = omega (arith, there) in
      let waiting = unwrap_or (list_value_of task table.orders.values) mine in
      let rank : waiting < raised.settings.priorities = subst (λ s. waiting < s.priorities) same
      (waiting_below table.orders.values task mine table.settings.priorities sound.mutexes.values (sound.blocks task caller_low).in_use) in
      blocked_sound core task marked ticks wait raised raised_sound raised_place there
      (omega (arith, (inherited_kept table core holder mine sound low).cores, user)) fits (listed, rank) (refl, λ is. short)

-- ---- taking

module _ (table : Table) (core task mutex ticks : ℕ) (sound : IsConsistent table) (place : IsCaller table core task) where
  pub take_seen : seen_of (mutex_take stamp_queues core task mutex ticks table) ≡ mutex_take list_queues core task mutex ticks (view_of table)
  unfolding mutex_take
  take_seen = from (holder_at table.holders mutex) refl
    where
      either : (b : Bool) (holder : ℕ) → holder < table.settings.tasks → seen_of
          (cond b (Flag false, table) (Blocked, waited_at stamp_queues core task mutex holder (timeout_of ticks) table)) ≡ cond b (Flag false, view_of table)
          (Blocked, waited_at list_queues core task mutex holder (timeout_of ticks) (view_of table))
      either true holder low = refl
      either false holder low = ap (outcome Blocked) (waited_seen table core task mutex holder (timeout_of ticks) sound place low)

      from : (held : Option ℕ) → holder_at table.holders mutex ≡ held → seen_of (take_from stamp_queues held core task mutex ticks table) ≡ take_from
          list_queues held core task mutex ticks (view_of table)
      from None free = ap (outcome (Flag true)) (taken_seen table task mutex)
      from (Some holder) held = either (eqb ticks 0) holder (sound.mutexes.held_by_tasks mutex holder held)

  pub take_sound : length table.control.cores ≤ task → ticks < 2 ^ 32 → mutex < table.settings.mutexes → IsConsistent
      (mutex_take stamp_queues core task mutex ticks table).1
  unfolding mutex_take
  take_sound user few below = from (holder_at table.holders mutex) refl
    where
      either : (b : Bool) → eqb ticks 0 ≡ b → (holder : ℕ) → holder < table.settings.tasks → IsConsistent
          (cond {A = Reply × Table} b (Flag false, table) (Blocked, waited_at stamp_queues core task mutex holder (timeout_of ticks) table)).1
      either true none holder low = sound
      either false some holder low = waited_sound table core task mutex holder (timeout_of ticks) sound place low user
          (waits_on ticks (grind (arith, nat_tests, some)) few) (waits_short ticks few) below

      from : (held : Option ℕ) → holder_at table.holders mutex ≡ held → IsConsistent (take_from stamp_queues held core task mutex ticks table).1
      from None free = taken_sound table task mutex sound (omega (arith, sound.sized.rows, place.2)) below
      from (Some holder) held = either (eqb ticks 0) refl holder (sound.mutexes.held_by_tasks mutex holder held)

-- ---- a wait that is over

pub ended_seen : (table : Table) (task : ℕ) → view_of (after_return stamp_queues task table) ≡ after_return list_queues task (view_of table)
ended_seen table task = ap (λ orders. record (view_of table) { calls = slice_set table.calls task None; orders = orders })
    (forget_deadline_seen table.control table.orders task)

forgotten_length : (stamps : Stamps) (task : ℕ) → length (forget_deadline task stamps).deadlines ≡ length stamps.deadlines
unfolding forget_deadline
forgotten_length stamps task = length-set stamps.deadlines task None

-- a table with a forgotten deadline is otherwise as it was
pub forgotten_sound : (table : Table) (task : ℕ) → IsConsistent table → task < table.settings.tasks → is_ready task table.orders ≡ true → IsConsistent
    (after_return stamp_queues task table)
unfolding forget_deadline
forgotten_sound table task sound low ready = record {
  sized = resized table _ refl (ap₂ (λ a b. record (lengths_of table) { calls = a; deadlines = b }) (length-set table.calls task None)
      (forgotten_length table.orders task)) sound.sized;
  stamped = record { given = sound.stamped.given; once = sound.stamped.once };
  in_place = record {
    is_task = sound.in_place.is_task;
    on_one_core = sound.in_place.on_one_core;
    blocked_is_due = sound.in_place.blocked_is_due;
    idle_is_ready = sound.in_place.idle_is_ready;
  };
  in_time = sound.in_time;
  blocks = sound.blocks;
  calls = call_set table.settings table.calls task None (omega (arith, sound.sized.calls)) (λ other same. absurd (cc (same))) sound.calls;
  notes = sound.notes;
  mutexes = freed_mutexes table.settings table.calls table.holders table.orders sound.mutexes task ready (omega (arith, sound.sized.calls))
      (omega (arith, sound.sized.deadlines));
}

-- ---- disinheriting

module _ (table : Table) (acting task priority : ℕ) (sound : IsConsistent table) (low : task < table.settings.tasks) where
  pub after_disinherit_seen : view_of (after_disinherit stamp_queues acting task priority table) ≡ after_disinherit list_queues acting task priority
      (view_of table)
  unfolding after_disinherit
  after_disinherit_seen =
      let now = in_use_and_value_set stamp_queues task priority table in
      either_seen (eqb (task_at table.control task).in_use priority) table (on_control (ask_its_core acting task) now) (view_of table)
      (on_control (ask_its_core acting task) (in_use_and_value_set list_queues task priority (view_of table)))
      refl
      (its_core_seen now acting task ∙ ap (on_control (ask_its_core acting task)) (both_seen table task priority sound low))

  pub after_disinherit_sound : priority < table.settings.priorities → IsConsistent (after_disinherit stamp_queues acting task priority table)
  unfolding after_disinherit
  after_disinherit_sound below =
      let now = in_use_and_value_set stamp_queues task priority table in
      either_sound (eqb (task_at table.control task).in_use priority) table (on_control (ask_its_core acting task) now) sound
      (its_core_sound now acting task (both_sound table task priority sound low below))

disinherit_seen : (table : Table) (task mutex : ℕ) → IsConsistent table → owed list_queues task mutex (view_of table) ≡ owed stamp_queues task mutex table
disinherit_seen table task mutex sound = ap (λ first. disinherit_priority first (task_at table.control task).base)
    (first_waiter_seen mutex table.orders table.control)

greater_below : (base rank bound : ℕ) → base < bound → rank < bound → cond (ltb base rank) rank base < bound
greater_below base rank bound low high = at (ltb base rank)
  where
    at : (b : Bool) → cond b rank base < bound
    at true = high
    at false = low

disinherit_below : (table : Table) (task mutex : ℕ) → IsConsistent table → task < table.settings.tasks → owed stamp_queues task mutex table <
    table.settings.priorities
disinherit_below table task mutex sound low = from (first_waiter mutex table.orders) refl
  where
    base : ℕ
    base = (task_at table.control task).base

    from : (first : Option Waiter) → first_waiter mutex table.orders ≡ first → disinherit_priority first base < table.settings.priorities
    from None none = greater_below base base table.settings.priorities (sound.blocks task low).base (sound.blocks task low).base
    from (Some waiter) some =
        let waits = first_waiter_all (IsWaiter table.settings table.orders) mutex table.orders waiter sound.mutexes.waits some in
        greater_below base waiter.wait.priority table.settings.priorities (sound.blocks task low).base waits.2.1

module _ (table : Table) (acting task mutex : ℕ) (mark : Bool) (holder : ℕ) (sound : IsConsistent table) (low : holder < table.settings.tasks) where
  abbrev gives_back : Bool
  gives_back = mark && not (eqb holder task) && eqb (held_by table.holders holder) 1

  pub timed_out_seen : view_of (timed_out stamp_queues acting task mutex mark holder table) ≡ timed_out list_queues acting task mutex mark holder
      (view_of table)
  unfolding timed_out
  timed_out_seen =
      either_seen gives_back (after_disinherit stamp_queues acting holder (owed stamp_queues holder mutex table) table) table
      (after_disinherit list_queues acting holder (owed stamp_queues holder mutex table) (view_of table)) (view_of table)
      (after_disinherit_seen table acting holder (owed stamp_queues holder mutex table) sound low) refl
      ∙ ap (λ rank. cond gives_back (after_disinherit list_queues acting holder rank (view_of table)) (view_of table))
      (sym (disinherit_seen table holder mutex sound))

  pub timed_out_sound : IsConsistent (timed_out stamp_queues acting task mutex mark holder table)
  unfolding timed_out
  timed_out_sound =
      either_sound gives_back (after_disinherit stamp_queues acting holder (owed stamp_queues holder mutex table) table) table
      (after_disinherit_sound table acting holder (owed stamp_queues holder mutex table) sound low (disinherit_below table holder mutex sound low)) sound

-- ---- finishing a wait

abbrev is_over : Option ℕ → Bool
is_over left = option_map_or (λ ticks. eqb ticks 0) left false

-- the ticks of a wait that goes on
goes_on : (tick : ℕ) (deadline : Option ℕ) → ((at : ℕ) → deadline ≡ Some at → suc at < tick + 2 ^ 32) → is_over (option_map (λ at. at - tick) deadline) ≡ false
    → IsWait (option_map (λ at. at - tick) deadline) × IsEventTime (option_map (λ at. at - tick) deadline)
goes_on tick None near on = (tt, tt)
goes_on tick (Some at) near on =
    let some : 0 < at - tick = grind (arith, nat_tests, on) in
    ((some, omega (arith, near at refl)), omega (arith, near at refl, some))

pub still_waits : (table : Table) (task : ℕ) → IsConsistent table → is_over (deadline_left task table.orders) ≡ false → IsWait (deadline_left task table.orders) ×
    IsEventTime (deadline_left task table.orders)
unfolding deadline_left
still_waits table task sound on = goes_on table.orders.tick (deadline_at table.orders task) (λ at is. (sound.mutexes.deadlines task at is).0) on

module _ (table : Table) (core task mutex : ℕ) (mark : Bool) (sound : IsConsistent table) (place : IsCaller table core task) where
  abbrev over : Table
  over = after_return stamp_queues task table

  over_low : task < table.settings.tasks
  over_low = omega (arith, sound.sized.rows, place.2)

  over_sound : IsConsistent over
  over_sound = forgotten_sound table task sound over_low place.3

  abbrev finished_view : Option ℕ → ℕ → Reply × View
  finished_view left holder =
      cond (is_over left)
      (Flag false, timed_out list_queues core task mutex mark holder (after_return list_queues task (view_of table)))
      (Blocked, waited_at list_queues core task mutex holder left (view_of table))

  pub finish_seen : seen_of (take_finished stamp_queues core task mutex mark table) ≡ take_finished list_queues core task mutex mark (view_of table)
  unfolding take_finished
  finish_seen = from (holder_at table.holders mutex) refl
    where
      left : Option ℕ
      left = deadline_left task table.orders

      either : (b : Bool) (holder : ℕ) → holder < table.settings.tasks → seen_of
          (cond b (Flag false, timed_out stamp_queues core task mutex mark holder over) (Blocked, waited_at stamp_queues core task mutex holder left table)) ≡
          cond b (Flag false, timed_out list_queues core task mutex mark holder (after_return list_queues task (view_of table)))
          (Blocked, waited_at list_queues core task mutex holder left (view_of table))
      either true holder low = ap (outcome (Flag false)) (timed_out_seen over core task mutex mark holder over_sound low ∙ ap
          (timed_out list_queues core task mutex mark holder) (ended_seen table task))
      either false holder low = ap (outcome Blocked) (waited_seen table core task mutex holder left sound place low)

      from : (held : Option ℕ) → holder_at table.holders mutex ≡ held → seen_of (finish_from stamp_queues held core task mutex mark table) ≡ finish_from
          list_queues held core task mutex mark (view_of table)
      from None free = ap (outcome (Flag true)) (taken_seen over task mutex ∙ ap (taken task mutex) (ended_seen table task))
      from (Some holder) held = either (is_over left) holder (sound.mutexes.held_by_tasks mutex holder held) ∙ ap (λ left. finished_view left holder)
          (sym (deadline_left_seen table.control table.orders task))

  pub finish_sound : length table.control.cores ≤ task → mutex < table.settings.mutexes → IsConsistent (take_finished stamp_queues core task mutex mark table).1
  unfolding take_finished
  finish_sound user below = from (holder_at table.holders mutex) refl
    where
      left : Option ℕ
      left = deadline_left task table.orders

      either : (b : Bool) → is_over left ≡ b → (holder : ℕ) → holder < table.settings.tasks → IsConsistent
          (cond {A = Reply × Table} b (Flag false, timed_out stamp_queues core task mutex mark holder over)
          (Blocked, waited_at stamp_queues core task mutex holder left table)).1
      either true is holder low = timed_out_sound over core task mutex mark holder over_sound low
      either false on holder low =
          let waits = still_waits table task sound on in
          waited_sound table core task mutex holder left sound place low user waits.0 waits.1 below

      from : (held : Option ℕ) → holder_at table.holders mutex ≡ held → IsConsistent (finish_from stamp_queues held core task mutex mark table).1
      from None free = taken_sound over task mutex over_sound over_low below
      from (Some holder) held = either (is_over left) refl holder (sound.mutexes.held_by_tasks mutex holder held)

-- ---- giving

module _ (table : Table) (acting mutex : ℕ) (sound : IsConsistent table) where
  pub woken_seen : view_of (first_woken stamp_queues acting mutex table) ≡ first_woken list_queues acting mutex (view_of table)
  unfolding first_woken
  woken_seen = from (first_waiter mutex table.orders) refl ∙ ap (λ first. option_map_or
      (λ (waiter : Waiter). wake list_queues acting waiter.task (view_of table)) first (view_of table))
      (sym (first_waiter_seen mutex table.orders table.control))
    where
      from : (first : Option Waiter) → first_waiter mutex table.orders ≡ first → view_of
          (option_map_or (λ (waiter : Waiter). wake stamp_queues acting waiter.task table) first table) ≡ option_map_or
          (λ (waiter : Waiter). wake list_queues acting waiter.task (view_of table)) first (view_of table)
      from None none = refl
      from (Some waiter) some = wake_seen table acting waiter.task sound.stamped.given (first_waiter_all (IsWaiter table.settings table.orders) mutex table.orders waiter sound.mutexes.waits some).0

  pub woken_sound : IsConsistent (first_woken stamp_queues acting mutex table)
  unfolding first_woken
  woken_sound = from (first_waiter mutex table.orders) refl
    where
      from : (first : Option Waiter) → first_waiter mutex table.orders ≡ first → IsConsistent
          (option_map_or (λ (waiter : Waiter). wake stamp_queues acting waiter.task table) first table)
      from None none = sound
      from (Some waiter) some = wake_sound table acting waiter.task sound
          (omega (arith, sound.sized.rows, (first_waiter_all (IsWaiter table.settings table.orders) mutex table.orders waiter sound.mutexes.waits some).0))

module _ (table : Table) (core task : ℕ) (sound : IsConsistent table) (low : task < table.settings.tasks) where
  pub disinherited_seen : view_of (disinherited stamp_queues core task table) ≡ disinherited list_queues core task (view_of table)
  unfolding disinherited
  disinherited_seen =
      let base = (task_at table.control task).base in
      either_seen (eqb (held_by table.holders task) 0) (after_disinherit stamp_queues core task base table) table
      (after_disinherit list_queues core task base (view_of table)) (view_of table)
      (after_disinherit_seen table core task base sound low) refl

  pub disinherited_sound : IsConsistent (disinherited stamp_queues core task table)
  unfolding disinherited
  disinherited_sound =
      let base = (task_at table.control task).base in
      either_sound (eqb (held_by table.holders task) 0) (after_disinherit stamp_queues core task base table) table
      (after_disinherit_sound table core task base sound low (sound.blocks task low).base) sound

module _ (table : Table) (core task mutex : ℕ) (sound : IsConsistent table) (low : task < table.settings.tasks) (below : mutex < table.settings.mutexes) where
  abbrev freed : Table
  freed = record table { holders = slice_set table.holders mutex None }

  freed_sound : IsConsistent freed
  freed_sound = given_sound table mutex None sound below (λ other same. absurd (cc (same)))

  pub lower_sound : IsConsistent (disinherited stamp_queues core task freed)
  lower_sound = disinherited_sound freed core task freed_sound low

  pub give_seen : seen_of (mutex_give stamp_queues core task mutex table) ≡ mutex_give list_queues core task mutex (view_of table)
  unfolding mutex_give
  give_seen = from (holder_at table.holders mutex)
    where
      from : (held : Option ℕ) → seen_of (give_from stamp_queues held core task mutex table) ≡ give_from list_queues held core task mutex (view_of table)
      from None = refl
      from (Some holder) = ap (outcome (Flag true))
          (woken_seen (disinherited stamp_queues core task freed) core mutex lower_sound
          ∙ ap (first_woken list_queues core mutex) (disinherited_seen freed core task freed_sound low))

  pub give_sound : IsConsistent (mutex_give stamp_queues core task mutex table).1
  unfolding mutex_give
  give_sound = from (holder_at table.holders mutex)
    where
      from : (held : Option ℕ) → IsConsistent (give_from stamp_queues held core task mutex table).1
      from None = sound
      from (Some holder) = woken_sound (disinherited stamp_queues core task freed) core mutex lower_sound
