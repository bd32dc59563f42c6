-- The rules that seek no core keep a sound table sound.
use Rattle.std.proofs.Common.{◌≡◌, ◌≢◌, ℕ, suc, ◌+◌, ◌<◌, ◌≤◌, ◌^◌, Bool, true, false, cond, not, eqb, ◌&&◌, ◌||◌, List, [], ◌∷◌, length, Option, Some, None}
use Rattle.std.proofs.Common.{refl, sym, ap, ap₂, subst, ◌∙◌, arith, inl, inr}
use Rattle.std.specs.Prelude.{unwrap_or, slice_set, option_map, IsSome, IfSome}
use Rattle.std.specs.Option.{option_map_or}
use Rattle.std.specs.List.{fold, AllByRecursion}
use Rattle.std.proofs.lemmas.Bool.Decides.{nat_tests}
use Rattle.std.proofs.lemmas.Bool.{cases_eq}
use Rattle.std.proofs.lemmas.List.{length-set, get_or-set_same, get_or-set_other}
use Rattle.bench_types.specs.declared.step.Unfinished.{Unfinished}
use Rattle.bench_types.specs.declared.kernel_data.EventWait.{EventWait}
use Rattle.bench_types.specs.declared.kernel_data.CoreLook.{CoreLook}
use Rattle.bench_types.specs.declared.kernel_data.Settings.{Settings}
use Rattle.bench_types.specs.declared.kernel_data.TaskControl.{TaskControl}
use Rattle.bench_types.specs.Step.{IsCheckedUnfinished}
use Rattle.bench_model.specs.declared.row.TaskState.{TaskState}
use Rattle.bench_model.specs.declared.row.TaskState.TheVariants.{Ready, Blocked}
use Rattle.list_orders.specs.Search.{numbers, has}
use Rattle.bench_model.specs.Control.{Control, core_at, task_at, with_core, current, is_due, may_select, asked_by, ask, run_on}
use Rattle.bench_model.specs.State.{selected, call_at, after_select, yielded, blocked}
use Rattle.bench_model.specs.Table.{Stamps, Table, stamp_queues, row_at, stamp_of, is_ready, stands_ready, wake_in, ahead, wakes_at, tasks_of, restamped, pick}
use Rattle.bench_model.specs.Table.{add_to_ready_list, delay, suspend, advance, due}
use Rattle.bench_model.specs.Sound.{IsCaller, IsStamped, HasCurrentTasks, IsWait, IsEventWait, WakesInTime, IsControlBlock, HasMutexes}
use Rattle.bench_model.specs.Sound.{IsConsistent, IsWaitOf}
use Rattle.list_orders.proofs.Filters.{All-weaker}
use Rattle.list_orders.proofs.Stamped.{numbers_have, has-by_stamp}
use Rattle.order_laws.proofs.Restamps.{moved_length, moved_once}
use Rattle.order_laws.proofs.SoundMutexes.{standing_same, standing_other, readied_field, readied_mutexes, suspended_mutexes, advanced_mutexes, waiting_mutexes}
use Rattle.order_laws.proofs.Selects.{selects, list_any_at}
use Rattle.order_laws.proofs.Sizes.{lengths_of, resized}
use Rattle.order_laws.proofs.SeenSteps.{queued, queued_once, add_to_ready_once, due_below}

module _ (control : Control) (core : ℕ) (look : CoreLook) where
  abbrev changed : Control
  changed = with_core core look control

  pub look_same : core < length control.cores → core_at changed core ≡ look
  look_same below = get_or-set_same control.cores core look (record { current = 0; pend = false; asked = false }) below

  pub look_other : (other : ℕ) → other ≢ core → core_at changed other ≡ core_at control other
  look_other other away = get_or-set_other control.cores core other look (record { current = 0; pend = false; asked = false }) away

  pub cores_length : length changed.cores ≡ length control.cores
  cores_length = length-set control.cores core look

-- a task that was set to stand so
module _ (stamps : Stamps) (task : ℕ) (standing : TaskState) (below : task < length stamps.rows) where
  abbrev moved : Stamps
  moved = restamped task standing stamps

  ready_other : (i : ℕ) → i ≢ task → is_ready i moved ≡ is_ready i stamps
  ready_other i away = ap stands_ready (standing_other stamps task standing below i away)

-- a ready task stays ready when some task is made ready
pub add_to_ready_keeps : (stamps : Stamps) (task i : ℕ) → task < length stamps.rows → is_ready i stamps ≡ true → is_ready i (add_to_ready_list task stamps) ≡
    true
unfolding add_to_ready_list
add_to_ready_keeps stamps task i below ready = elim (cases_eq i task) [
  | inl here ↦ ap (λ j. is_ready j (restamped task Ready stamps)) here ∙ ap stands_ready (standing_same stamps task Ready below)
  | inr away ↦ ready_other stamps task Ready below i away ∙ ready
]

pub add_to_ready_length : (stamps : Stamps) (task : ℕ) → task < length stamps.rows → length (add_to_ready_list task stamps).rows ≡ length stamps.rows
unfolding add_to_ready_list
add_to_ready_length stamps task below = moved_length stamps task Ready below

add_to_ready_deadlines : (stamps : Stamps) (task : ℕ) → length (add_to_ready_list task stamps).deadlines ≡ length stamps.deadlines
unfolding add_to_ready_list
add_to_ready_deadlines stamps task = refl

add_to_ready_values : (stamps : Stamps) (task : ℕ) → (add_to_ready_list task stamps).values ≡ stamps.values
unfolding add_to_ready_list
add_to_ready_values stamps task = refl

pub add_to_ready_tick : (stamps : Stamps) (task : ℕ) → (add_to_ready_list task stamps).tick ≡ stamps.tick
unfolding add_to_ready_list
add_to_ready_tick stamps task = refl

false_before : (b : Bool) → (b ≡ true → ⊥) → b ≡ false
false_before true not_true = absurd (not_true refl)
false_before false not_true = refl

abbrev running_look : ℕ → CoreLook
running_look task = record { current = task; pend = false; asked = false }

-- making a task ready keeps the places of all
add_to_ready_placed : (control : Control) (stamps : Stamps) (task : ℕ) → task < length stamps.rows → HasCurrentTasks control stamps → HasCurrentTasks control
    (add_to_ready_list task stamps)
add_to_ready_placed control stamps task below place = record {
  is_task = λ c low. omega (arith, place.is_task c low, add_to_ready_length stamps task below);
  on_one_core = place.on_one_core;
  blocked_is_due = λ c low waits. place.blocked_is_due c low (false_before (is_ready (current control c) stamps)
      (λ ready. cc (add_to_ready_keeps stamps task (current control c) below ready, waits)));
  idle_is_ready = λ i low. add_to_ready_keeps stamps task i below (place.idle_is_ready i low);
}

add_to_ready_in_time : (stamps : Stamps) (task : ℕ) → task < length stamps.rows → WakesInTime stamps → WakesInTime (add_to_ready_list task stamps)
add_to_ready_in_time stamps task below in_time i wake low waits =
    let before = readied_field wake_in refl stamps task i wake below waits in
    let bounds = in_time i wake (omega (arith, add_to_ready_length stamps task below)) before.0 in
    let same = add_to_ready_tick stamps task in
    (omega (arith, same, bounds.0), omega (arith, same, bounds.1))

-- a ready task runs on a core that may select it
run_placed : (control : Control) (core task : ℕ) (stamps : Stamps) → HasCurrentTasks control stamps → core < length control.cores → task < length stamps.rows →
    is_ready task stamps ≡ true → may_select control core task ≡ true → HasCurrentTasks (run_on core task control) stamps
run_placed control core task stamps place below low ready may = record {
  is_task = λ c h. elim (cases_eq c core) [
    | inl here ↦ subst (λ i. i < length stamps.rows) (sym (current_here c here)) low
    | inr away ↦ subst (λ i. i < length stamps.rows) (sym (current_away c away))
        (place.is_task c (omega (arith, cores_length control core (running_look task))))
  ];
  on_one_core = λ c d h k same. elim (cases_eq c core) [
    | inl here ↦ elim (cases_eq d core) [
      | inl there ↦ here ∙ sym there
      | inr away ↦ absurd (alone d (omega (arith, cores_length control core (running_look task))) away
          (sym (current_away d away) ∙ sym same ∙ current_here c here))
    ]
    | inr off ↦ elim (cases_eq d core) [
      | inl there ↦ absurd (alone c (omega (arith, cores_length control core (running_look task))) off (sym (current_away c off) ∙ same ∙ current_here d there))
      | inr away ↦ place.on_one_core c d (omega (arith, cores_length control core (running_look task)))
          (omega (arith, cores_length control core (running_look task))) (sym (current_away c off) ∙ same ∙ current_away d away)
    ]
  ];
  blocked_is_due = λ c h waits. elim (cases_eq c core) [
    | inl here ↦ absurd (cc (ap (λ i. is_ready i stamps) (current_here c here), ready, waits))
    | inr away ↦ ap (λ (l : CoreLook). l.pend || l.asked) (look_other control core (running_look task) c away) ∙ place.blocked_is_due c
        (omega (arith, cores_length control core (running_look task))) (ap (λ i. is_ready i stamps) (sym (current_away c away)) ∙ waits)
  ];
  idle_is_ready = λ i h. place.idle_is_ready i (omega (arith, cores_length control core (running_look task)));
}
  where
    current_here : (c : ℕ) → c ≡ core → current (run_on core task control) c ≡ task
    current_here c here = ap (current (run_on core task control)) here ∙ ap (λ (l : CoreLook). l.current) (look_same control core (running_look task) below)

    current_away : (c : ℕ) → c ≢ core → current (run_on core task control) c ≡ current control c
    current_away c away = ap (λ (l : CoreLook). l.current) (look_other control core (running_look task) c away)

    alone : (d : ℕ) → d < length control.cores → d ≢ core → current control d ≡ task → ⊥
    alone d h away same =
        let seen = list_any_at (λ other. not (eqb other core) && eqb (current control other) task) d (numbers (length control.cores))
        (numbers_have (length control.cores) d h) (grind (arith, nat_tests, away, same)) in
        absurd (grind (arith, seen, may))

-- making a task ready keeps a table sound
pub ready_sound : (table : Table) (task : ℕ) → IsConsistent table → task < table.settings.tasks → IsConsistent
    (record table { orders = add_to_ready_list task table.orders })
ready_sound table task sound low =
    let below : task < length table.orders.rows = omega (arith, sound.sized.rows) in
    record {
      sized = resized table _ refl (cc (
        add_to_ready_length table.orders task below,
        add_to_ready_deadlines table.orders task,
        add_to_ready_values table.orders task,
      )) sound.sized;
      stamped = add_to_ready_once table.orders task sound.stamped below;
      in_place = add_to_ready_placed table.control table.orders task below sound.in_place;
      in_time = add_to_ready_in_time table.orders task below sound.in_time;
      blocks = sound.blocks;
      calls = sound.calls;
      notes = sound.notes;
      mutexes = readied_mutexes table.settings table.calls table.holders table.orders sound.mutexes task below;
    }

-- the core of a task is due
abbrev pub IsDueWith : Control → ℕ → Type 0
IsDueWith control task = (c : ℕ) → c < length control.cores → current control c ≡ task → is_due control c ≡ true

-- a task that is suspended
module _ (stamps : Stamps) (task : ℕ) (below : task < length stamps.rows) where
  abbrev gone : TaskState
  gone = Blocked None

  pub suspended_length : length (suspend task stamps).rows ≡ length stamps.rows
  unfolding suspend
  suspended_length = moved_length stamps task gone below

  pub suspended_deadlines : length (suspend task stamps).deadlines ≡ length stamps.deadlines
  unfolding suspend
  suspended_deadlines = refl

  suspended_values : (suspend task stamps).values ≡ stamps.values
  unfolding suspend
  suspended_values = refl

  pub suspended_ready : is_ready task (suspend task stamps) ≡ false
  unfolding suspend
  suspended_ready = ap stands_ready (standing_same stamps task gone below)

  pub suspended_other : (i : ℕ) → i ≢ task → is_ready i (suspend task stamps) ≡ is_ready i stamps
  unfolding suspend
  suspended_other i away = ready_other stamps task gone below i away

  suspended_stamped : IsStamped stamps → IsStamped (suspend task stamps)
  unfolding suspend
  suspended_stamped stamped =
      let moved = moved_once stamps task gone below stamped in
      record { given = moved.given; once = moved.once }

  suspended_in_time : WakesInTime stamps → WakesInTime (suspend task stamps)
  unfolding suspend
  suspended_in_time in_time i wake low waits = elim (cases_eq i task) [
    | inl here ↦ absurd (cc (sym (ap wake_in (standing_same stamps task gone below)) ∙ ap (λ j. wake_in (row_at (restamped task gone stamps) j).standing)
        (sym here) ∙ waits))
    | inr away ↦ in_time i wake (omega (arith, moved_length stamps task gone below, low))
        (ap wake_in (sym (standing_other stamps task gone below i away)) ∙ waits)
  ]

  suspended_placed : (control : Control) → IsDueWith control task → length control.cores ≤ task → HasCurrentTasks control stamps → HasCurrentTasks control
      (suspend task stamps)
  suspended_placed control due user place = record {
    is_task = λ c low. omega (arith, place.is_task c low, suspended_length);
    on_one_core = place.on_one_core;
    blocked_is_due = λ c low waits. elim (cases_eq (current control c) task) [
      | inl here ↦ due c low here
      | inr away ↦ place.blocked_is_due c low (sym (suspended_other (current control c) away) ∙ waits)
    ];
    idle_is_ready = λ i low. suspended_other i (λ same. omega (arith, same, low, user)) ∙ place.idle_is_ready i low;
  }

-- suspending a user task whose core is due keeps a table sound
pub suspend_sound : (table : Table) (task : ℕ) → IsConsistent table → task < table.settings.tasks → table.settings.cores ≤ task → IsDueWith table.control task
    → IsConsistent (record table { orders = suspend task table.orders })
suspend_sound table task sound low user due =
    let below : task < length table.orders.rows = omega (arith, sound.sized.rows) in
    record {
      sized = resized table _ refl (cc (
        suspended_length table.orders task below,
        suspended_deadlines table.orders task below,
        suspended_values table.orders task below,
      )) sound.sized;
      stamped = suspended_stamped table.orders task below sound.stamped;
      in_place = suspended_placed table.orders task below table.control due (omega (arith, sound.sized.cores, user)) sound.in_place;
      in_time = suspended_in_time table.orders task below sound.in_time;
      blocks = sound.blocks;
      calls = sound.calls;
      notes = sound.notes;
      mutexes = suspended_mutexes table.settings table.calls table.holders table.orders sound.mutexes task below;
    }

queued_placed : (control : Control) (stamps : Stamps) (task : ℕ) → task < length stamps.rows → HasCurrentTasks control stamps → HasCurrentTasks control
    (queued stamps task)
queued_placed control stamps task below place = either (is_ready task stamps)
  where
    either : (b : Bool) → HasCurrentTasks control (cond b (add_to_ready_list task stamps) stamps)
    either true = add_to_ready_placed control stamps task below place
    either false = place

queued_in_time : (stamps : Stamps) (task : ℕ) → task < length stamps.rows → WakesInTime stamps → WakesInTime (queued stamps task)
queued_in_time stamps task below in_time = either (is_ready task stamps)
  where
    either : (b : Bool) → WakesInTime (cond b (add_to_ready_list task stamps) stamps)
    either true = add_to_ready_in_time stamps task below in_time
    either false = in_time

pub queued_length : (stamps : Stamps) (task : ℕ) → task < length stamps.rows → length (queued stamps task).rows ≡ length stamps.rows
queued_length stamps task below = either (is_ready task stamps)
  where
    either : (b : Bool) → length (cond b (add_to_ready_list task stamps) stamps).rows ≡ length stamps.rows
    either true = add_to_ready_length stamps task below
    either false = refl

queued_deadlines : (stamps : Stamps) (task : ℕ) → length (queued stamps task).deadlines ≡ length stamps.deadlines
queued_deadlines stamps task = either (is_ready task stamps)
  where
    either : (b : Bool) → length (cond b (add_to_ready_list task stamps) stamps).deadlines ≡ length stamps.deadlines
    either true = add_to_ready_deadlines stamps task
    either false = refl

queued_values : (stamps : Stamps) (task : ℕ) → (queued stamps task).values ≡ stamps.values
queued_values stamps task = either (is_ready task stamps)
  where
    either : (b : Bool) → (cond b (add_to_ready_list task stamps) stamps).values ≡ stamps.values
    either true = add_to_ready_values stamps task
    either false = refl

queued_mutexes : (table : Table) (task : ℕ) → task < length table.orders.rows → HasMutexes table.settings table.calls table.holders table.orders → HasMutexes
    table.settings table.calls table.holders (queued table.orders task)
queued_mutexes table task below kept = either (is_ready task table.orders)
  where
    either : (b : Bool) → HasMutexes table.settings table.calls table.holders (cond b (add_to_ready_list task table.orders) table.orders)
    either true = readied_mutexes table.settings table.calls table.holders table.orders kept task below
    either false = kept

pub after_select_sound : (core : ℕ) (table : Table) → IsConsistent table → core < length table.control.cores → IsConsistent
    (after_select stamp_queues core table)
unfolding after_select
after_select_sound core table sound below =
    let control = table.control in
    let left = current control core in
    let low = sound.in_place.is_task core below in
    let orders = queued table.orders left in
    let same = queued_length table.orders left low in
    let place = queued_placed control table.orders left low sound.in_place in
    let found = selects control core orders (queued_once table.orders left sound.stamped low) below
    (omega (arith, same, sound.sized.cores, sound.sized.rows, sound.sized.idle_tasks)) place.idle_is_ready in
    let now = ap (λ o. unwrap_or o left) found.1 in
    record {
      sized = resized table _ refl (cc (cores_length control core _, same, queued_deadlines table.orders left, queued_values table.orders left)) sound.sized;
      stamped = queued_once table.orders left sound.stamped low;
      in_place = subst (λ task. HasCurrentTasks (run_on core task control) orders) (sym now)
          (run_placed control core found.0 orders place below found.2 found.3 found.4);
      in_time = queued_in_time table.orders left low sound.in_time;
      blocks = sound.blocks;
      calls = sound.calls;
      notes = sound.notes;
      mutexes = queued_mutexes table left low sound.mutexes;
    }

-- the tasks that are made ready in turn
abbrev pub readied : Stamps → List ℕ → Stamps
readied stamps tasks = fold (λ orders task. add_to_ready_list task orders) stamps tasks

readied_low : (stamps : Stamps) (task : ℕ) (tasks : List ℕ) → task < length stamps.rows → AllByRecursion (λ i. i < length stamps.rows) tasks → AllByRecursion
    (λ i. i < length (add_to_ready_list task stamps).rows) tasks
readied_low stamps task tasks below all = All-weaker (λ i. i < length stamps.rows) (λ i. i < length (add_to_ready_list task stamps).rows)
    (λ i h. omega (arith, add_to_ready_length stamps task below)) tasks all

readied_length : (tasks : List ℕ) (stamps : Stamps) → AllByRecursion (λ i. i < length stamps.rows) tasks → length (readied stamps tasks).rows ≡ length
    stamps.rows
readied_length [] stamps all = refl
readied_length (task ∷ tasks) stamps all = readied_length tasks (add_to_ready_list task stamps) (readied_low stamps task tasks all.0 all.1) ∙
    add_to_ready_length stamps task all.0

pub readied_tick : (tasks : List ℕ) (stamps : Stamps) → (readied stamps tasks).tick ≡ stamps.tick
readied_tick [] stamps = refl
readied_tick (task ∷ tasks) stamps = readied_tick tasks (add_to_ready_list task stamps) ∙ add_to_ready_tick stamps task

readied_stamped : (tasks : List ℕ) (stamps : Stamps) → AllByRecursion (λ i. i < length stamps.rows) tasks → IsStamped stamps → IsStamped (readied stamps tasks)
readied_stamped [] stamps all stamped = stamped
readied_stamped (task ∷ tasks) stamps all stamped = readied_stamped tasks (add_to_ready_list task stamps) (readied_low stamps task tasks all.0 all.1)
    (add_to_ready_once stamps task stamped all.0)

readied_placed : (control : Control) (tasks : List ℕ) (stamps : Stamps) → AllByRecursion (λ i. i < length stamps.rows) tasks → HasCurrentTasks control stamps →
    HasCurrentTasks control (readied stamps tasks)
readied_placed control [] stamps all place = place
readied_placed control (task ∷ tasks) stamps all place = readied_placed control tasks (add_to_ready_list task stamps)
    (readied_low stamps task tasks all.0 all.1) (add_to_ready_placed control stamps task all.0 place)

-- what still waits waited before, and is none of them
readied_blocked : (tasks : List ℕ) (stamps : Stamps) → AllByRecursion (λ i. i < length stamps.rows) tasks → (i wake : ℕ) → wake_in
    (row_at (readied stamps tasks) i).standing ≡ Some wake → (wake_in (row_at stamps i).standing ≡ Some wake) × (has i tasks ≡ false)
readied_blocked [] stamps all i wake waits = (waits, refl)
readied_blocked (task ∷ tasks) stamps all i wake waits =
    let rest = readied_blocked tasks (add_to_ready_list task stamps) (readied_low stamps task tasks all.0 all.1) i wake waits in
    let first = readied_field wake_in refl stamps task i wake all.0 rest.0 in
    (first.0, grind (arith, nat_tests, first.1, rest.1))

-- a task that waits until the tick count is due then
waits_due : (stamps : Stamps) (i : ℕ) → IsStamped stamps → i < length stamps.rows → wake_in (row_at stamps i).standing ≡ Some stamps.tick → has i (due stamps) ≡
    true
unfolding due
waits_due stamps i stamped low waits =
    let passes : wakes_at stamps.tick (row_at stamps i).standing ≡ true = ap (λ wake. option_map_or (λ at. eqb at stamps.tick) wake false) waits ∙ grind
    (arith, nat_tests) in
    has-by_stamp (stamp_of stamps) (λ task. wakes_at stamps.tick (row_at stamps task).standing) (tasks_of stamps) i stamps.next ∙ grind
    (arith, nat_tests, passes, stamped.given i low, numbers_have (length stamps.rows) i low)

pub advanced_stamped : (stamps : Stamps) → IsStamped stamps → IsStamped (advance stamps)
unfolding advance
advanced_stamped stamps stamped = record { given = stamped.given; once = stamped.once }

advanced_placed : (control : Control) (stamps : Stamps) → HasCurrentTasks control stamps → HasCurrentTasks control (advance stamps)
unfolding advance
advanced_placed control stamps place = record {
  is_task = place.is_task;
  on_one_core = place.on_one_core;
  blocked_is_due = place.blocked_is_due;
  idle_is_ready =
      place.idle_is_ready;
}

advanced_row : (stamps : Stamps) (i : ℕ) → row_at (advance stamps) i ≡ row_at stamps i
unfolding advance
advanced_row stamps i = refl

advanced_length : (stamps : Stamps) → length (advance stamps).rows ≡ length stamps.rows
unfolding advance
advanced_length stamps = refl

pub advanced_tick : (stamps : Stamps) → (advance stamps).tick ≡ suc stamps.tick
unfolding advance
advanced_tick stamps = refl

-- what waits and is not due waits on
still_in_time : (stamps : Stamps) → IsStamped stamps → WakesInTime stamps → WakesInTime (readied (advance stamps) (due (advance stamps)))
unfolding advance
still_in_time stamps stamped in_time i wake low waits =
    let later = advance stamps in
    let before = readied_blocked (due later) later (due_below later) i wake waits in
    let within : i < length later.rows = omega (arith, readied_length (due later) later (due_below later)) in
    let bounds = in_time i wake (omega (arith, advanced_length stamps)) before.0 in
    let not_now : wake ≡ later.tick → ⊥ = λ now. cc (waits_due later i (advanced_stamped stamps stamped) within (before.0 ∙ ap Some now), before.1) in
    let same = readied_tick (due later) later in
    (omega (arith, same, advanced_tick stamps, bounds.0, not_now), omega (arith, same, advanced_tick stamps, bounds.1))

readied_deadlines : (tasks : List ℕ) (stamps : Stamps) → length (readied stamps tasks).deadlines ≡ length stamps.deadlines
readied_deadlines [] stamps = refl
readied_deadlines (task ∷ tasks) stamps = readied_deadlines tasks (add_to_ready_list task stamps) ∙ add_to_ready_deadlines stamps task

readied_values : (tasks : List ℕ) (stamps : Stamps) → (readied stamps tasks).values ≡ stamps.values
readied_values [] stamps = refl
readied_values (task ∷ tasks) stamps = readied_values tasks (add_to_ready_list task stamps) ∙ add_to_ready_values stamps task

advanced_values : (stamps : Stamps) → (advance stamps).values ≡ stamps.values
unfolding advance
advanced_values stamps = refl

advanced_deadlines : (stamps : Stamps) → length (advance stamps).deadlines ≡ length stamps.deadlines
unfolding advance
advanced_deadlines stamps = refl

all_readied_mutexes : (table : Table) (tasks : List ℕ) (stamps : Stamps) → AllByRecursion (λ i. i < length stamps.rows) tasks → HasMutexes table.settings
    table.calls table.holders stamps → HasMutexes table.settings table.calls table.holders (readied stamps tasks)
all_readied_mutexes table [] stamps all kept = kept
all_readied_mutexes table (task ∷ tasks) stamps all kept =
    all_readied_mutexes table tasks (add_to_ready_list task stamps) (readied_low stamps task tasks all.0 all.1)
    (readied_mutexes table.settings table.calls table.holders stamps kept task all.0)

-- when a tick has passed, and the tasks that are due are ready
pub readied_sound : (table : Table) → IsConsistent table → IsConsistent (record table { orders = readied (advance table.orders) (due (advance table.orders)) })
readied_sound table sound =
    let later = advance table.orders in
    let low = due_below later in
    record {
      sized = resized table _ refl (cc (
        readied_length (due later) later low ∙ advanced_length table.orders,
        readied_deadlines (due later) later ∙ advanced_deadlines table.orders,
        readied_values (due later) later ∙ advanced_values table.orders,
      ))
          sound.sized;
      stamped = readied_stamped (due later) later low (advanced_stamped table.orders sound.stamped);
      in_place = readied_placed table.control (due later) later low (advanced_placed table.control table.orders sound.in_place);
      in_time = still_in_time table.orders sound.stamped sound.in_time;
      blocks = sound.blocks;
      calls = sound.calls;
      notes = sound.notes;
      mutexes = all_readied_mutexes table (due later) later low (advanced_mutexes table.settings table.calls table.holders table.orders sound.mutexes);
    }

-- Cores of which some were asked: the others are as they were, and none has another current task.
pub record IsAskedMore (control other : Control) : Type 0 where
  pub cores : length other.cores ≡ length control.cores
  pub tasks : other.tasks ≡ control.tasks
  pub currents : (c : ℕ) → current other c ≡ current control c
  pub due : (c : ℕ) → is_due control c ≡ true → is_due other c ≡ true

more_placed : (control other : Control) (stamps : Stamps) → IsAskedMore control other → HasCurrentTasks control stamps → HasCurrentTasks other stamps
more_placed control other stamps more place = record {
  is_task = λ c low. subst (λ i. i < length stamps.rows) (sym (more.currents c)) (place.is_task c (omega (arith, more.cores)));
  on_one_core = λ c d low high same. place.on_one_core c d (omega (arith, more.cores)) (omega (arith, more.cores))
      (sym (more.currents c) ∙ same ∙ more.currents d);
  blocked_is_due = λ c low waits. more.due c (place.blocked_is_due c (omega (arith, more.cores)) (ap (λ i. is_ready i stamps) (sym (more.currents c)) ∙ waits));
  idle_is_ready = λ i low. place.idle_is_ready i (omega (arith, more.cores));
}

abbrev pub with_control : Table → Control → Table
with_control table control = record table { control = control }

-- asking cores keeps a table sound
pub more_sound : (table : Table) (other : Control) → IsAskedMore table.control other → IsConsistent table → IsConsistent (with_control table other)
more_sound table other more sound = record {
  sized = resized table _ refl (ap₂ (λ a b. record (lengths_of table) { cores = a; controls = b }) (more.cores)
      (ap (λ (tasks : List TaskControl). length tasks) more.tasks)) sound.sized;
  stamped = sound.stamped;
  in_place = more_placed table.control other table.orders more sound.in_place;
  in_time = sound.in_time;
  blocks = λ i low. subst (λ (tasks : List TaskControl). IsControlBlock table.settings (task_at (record { cores = other.cores; tasks = tasks }) i))
      (sym more.tasks) (sound.blocks i low);
  calls = sound.calls;
  notes = sound.notes;
  mutexes = sound.mutexes;
}

pub asked_runs : (acting core : ℕ) (look : CoreLook) → (asked_by acting core look).current ≡ look.current
asked_runs acting core look = elim (eqb core acting) as (λ b. (cond b (record look { pend = true }) (record look { asked = true })).current ≡ look.current)
    [ true ↦ refl | false ↦ refl ]

pub asked_is_due : (acting core : ℕ) (look : CoreLook) → ((asked_by acting core look).pend || (asked_by acting core look).asked) ≡ true
asked_is_due acting core look = at (eqb core acting)
  where
    at : (b : Bool) → ((cond b (record look { pend = true }) (record look { asked = true })).pend ||
        (cond b (record look { pend = true }) (record look { asked = true })).asked) ≡ true
    at true = refl
    at false = grind (arith)

-- a core that was asked
module _ (control : Control) (acting core : ℕ) (below : core < length control.cores) where
  asked_here : core_at (ask acting core control) core ≡ asked_by acting core (core_at control core)
  asked_here = look_same control core (asked_by acting core (core_at control core)) below

  asked_current : (c : ℕ) → current (ask acting core control) c ≡ current control c
  asked_current c = elim (cases_eq c core) [
    | inl here ↦ ap (current (ask acting core control)) here ∙ ap (λ (l : CoreLook). l.current) asked_here ∙ asked_runs acting core (core_at control core) ∙ ap
        (current control) (sym here)
    | inr away ↦ ap (λ (l : CoreLook). l.current) (look_other control core (asked_by acting core (core_at control core)) c away)
  ]

  pub asked_due : is_due (ask acting core control) core ≡ true
  asked_due = ap (λ (l : CoreLook). l.pend || l.asked) asked_here ∙ asked_is_due acting core (core_at control core)

  asked_others : (c : ℕ) → c ≢ core → is_due (ask acting core control) c ≡ is_due control c
  asked_others c away = ap (λ (l : CoreLook). l.pend || l.asked) (look_other control core (asked_by acting core (core_at control core)) c away)

  asked_length : length (ask acting core control).cores ≡ length control.cores
  asked_length = cores_length control core (asked_by acting core (core_at control core))

  pub asked_more : IsAskedMore control (ask acting core control)
  asked_more = record {
    cores = asked_length;
    tasks = refl;
    currents = asked_current;
    due = λ c is. elim (cases_eq c core) [
      | inl here ↦ ap (is_due (ask acting core control)) here ∙ asked_due
      | inr away ↦ asked_others c away ∙ is
    ];
  }

  -- its task waits from now on
  waiting_placed : (stamps : Stamps) (task : ℕ) (standing : TaskState) → task < length stamps.rows → current control core ≡ task → length control.cores ≤ task →
      HasCurrentTasks control stamps → HasCurrentTasks (ask acting core control) (restamped task standing stamps)
  waiting_placed stamps task standing low here user place = record {
    is_task = λ c h. omega (arith, moved_length stamps task standing low, asked_current c, place.is_task c (omega (arith, asked_length)));
    on_one_core = (more_placed control (ask acting core control) stamps asked_more place).on_one_core;
    blocked_is_due = λ c h waits. elim (cases_eq c core) [
      | inl on ↦ ap (is_due (ask acting core control)) on ∙ asked_due
      | inr away ↦ asked_others c away ∙ place.blocked_is_due c (omega (arith, asked_length))
          (sym (ready_other stamps task standing low (current control c)
          (λ same. away (place.on_one_core c core (omega (arith, asked_length)) below (same ∙ sym here)))) ∙ ap
          (λ i. is_ready i (restamped task standing stamps)) (sym (asked_current c)) ∙ waits)
    ];
    idle_is_ready = λ i h. ready_other stamps task standing low i (λ same. absurd (omega (arith, asked_length))) ∙ place.idle_is_ready i
        (omega (arith, asked_length));
  }

pub yielded_sound : (core : ℕ) (table : Table) → IsConsistent table → core < length table.control.cores → IsConsistent (yielded stamp_queues core table)
unfolding yielded
yielded_sound core table sound below = more_sound table (ask core core table.control) (asked_more table.control core core below) sound

-- the unfinished calls stay checked where one begins or ends
pub call_set : (settings : Settings) (calls : List (Option Unfinished)) (task : ℕ) (given : Option Unfinished) → task < length calls →
    ((call : Unfinished) → given ≡ Some call → IsCheckedUnfinished settings call) →
    ((i : ℕ) (call : Unfinished) → call_at calls i ≡ Some call → IsCheckedUnfinished settings call) → (i : ℕ) (call : Unfinished) → call_at
    (slice_set calls task given) i ≡ Some call → IsCheckedUnfinished settings call
call_set settings calls task given below one all i call found = elim (cases_eq i task) [
  | inl here ↦ one call (sym (get_or-set_same calls task given None below) ∙ ap (call_at (slice_set calls task given)) (sym here) ∙ found)
  | inr away ↦ all i call (sym (get_or-set_other calls task i given None away) ∙ found)
]

-- where a task stands that waits from now on
abbrev waiting_for : Stamps → Option ℕ → TaskState
waiting_for stamps ticks = Blocked (ahead stamps ticks)

-- a wake that is there is in time
wake_in_time : (tick wake : ℕ) (ticks : Option ℕ) → IsWait ticks → option_map (λ ticks. tick + ticks) ticks ≡ Some wake → (tick < wake) × (wake < tick + 2 ^ 32)
wake_in_time tick wake None fits same = absurd (cc (same))
wake_in_time tick wake (Some ticks) fits same =
    let at : tick + ticks ≡ wake = cc (same) in
    (omega (arith, at, fits.0), omega (arith, at, fits.1))

module _ (stamps : Stamps) (task : ℕ) (ticks : Option ℕ) (wait : Option EventWait) (below : task < length stamps.rows) where
  delayed_in_time : IsWait ticks → WakesInTime stamps → WakesInTime (delay task ticks wait stamps)
  unfolding delay
  delayed_in_time fits in_time i wake low waits =
      let standing = waiting_for stamps ticks in
      elim (cases_eq i task) [
        | inl here ↦ wake_in_time stamps.tick wake ticks fits (ap wake_in (sym (standing_same stamps task standing below)) ∙ ap
            (λ j. wake_in (row_at (restamped task standing stamps) j).standing) (sym here) ∙ waits)
        | inr away ↦ in_time i wake (omega (arith, moved_length stamps task standing below))
            (ap wake_in (sym (standing_other stamps task standing below i away)) ∙ waits)
      ]

  delayed_length : length (delay task ticks wait stamps).rows ≡ length stamps.rows
  unfolding delay
  delayed_length = moved_length stamps task (waiting_for stamps ticks) below

  delayed_deadlines : length (delay task ticks wait stamps).deadlines ≡ length stamps.deadlines
  unfolding delay
  delayed_deadlines = length-set stamps.deadlines task _

  delayed_values : (delay task ticks wait stamps).values ≡ stamps.values
  unfolding delay
  delayed_values = refl

  delayed_stamped : IsStamped stamps → IsStamped (delay task ticks wait stamps)
  unfolding delay
  delayed_stamped stamped =
      let moved = moved_once stamps task (waiting_for stamps ticks) below stamped in
      record { given = moved.given; once = moved.once }

  delayed_placed : (control : Control) (core : ℕ) → core < length control.cores → current control core ≡ task → length control.cores ≤ task → HasCurrentTasks
      control stamps → HasCurrentTasks (ask core core control) (delay task ticks wait stamps)
  unfolding delay
  delayed_placed control core low here user place =
      let moved = waiting_placed control core core low stamps task (waiting_for stamps ticks) below here user place in
      record { is_task = moved.is_task; on_one_core = moved.on_one_core; blocked_is_due = moved.blocked_is_due; idle_is_ready = moved.idle_is_ready }

pub blocked_sound : (core task : ℕ) (call : Unfinished) (ticks : Option ℕ) (wait : Option EventWait) (table : Table) → IsConsistent table → IsCaller table core
    task → IsCheckedUnfinished table.settings call → length table.control.cores ≤ task → IsWait ticks → IfSome wait (IsEventWait table.settings) →
    IsWaitOf table.settings call ticks wait → IsConsistent (blocked stamp_queues core task call ticks wait table)
unfolding blocked
blocked_sound core task call ticks wait table sound place checked user fits there takes =
    let low : task < table.settings.tasks = omega (arith, sound.sized.rows, place.2) in
    let in_calls : task < length table.calls = omega (arith, sound.sized.calls, low) in
    record {
      sized = resized table _ refl (cc (
        asked_length table.control core core place.0,
        length-set table.calls task (Some call),
        delayed_length table.orders task
            ticks wait place.2,
        delayed_deadlines table.orders task ticks wait place.2,
        delayed_values table.orders task ticks wait place.2,
      )) sound.sized;
      stamped = delayed_stamped table.orders task ticks wait place.2 sound.stamped;
      in_place = delayed_placed table.orders task ticks wait place.2 table.control core place.0 place.1 user sound.in_place;
      in_time = delayed_in_time table.orders task ticks wait place.2 fits sound.in_time;
      blocks = sound.blocks;
      calls = call_set table.settings table.calls task (Some call) in_calls
          (λ other same. subst (IsCheckedUnfinished table.settings) (call_of call other same) checked) sound.calls;
      notes = sound.notes;
      mutexes = waiting_mutexes table.settings table.calls table.holders table.orders sound.mutexes task call ticks wait place.2
          sound.stamped.given place.3 in_calls
          (omega (arith, sound.sized.deadlines, low)) there takes;
    }
  where
    call_of : (one other : Unfinished) → Some one ≡ Some other → one ≡ other
    call_of one other same = cc

-- a switch of a sound table selects a task
pub switch_selects : (table : Table) (core : ℕ) → IsConsistent table → core < table.settings.cores → IsSome (selected stamp_queues core table)
switch_selects table core sound low =
    let below : core < length table.control.cores = omega (arith, sound.sized.cores) in
    let left = current table.control core in
    let task = sound.in_place.is_task core below in
    let orders = queued table.orders left in
    let same = queued_length table.orders left task in
    let place = queued_placed table.control table.orders left task sound.in_place in
    let found = selects table.control core orders (queued_once table.orders left sound.stamped task) below
    (omega (arith, same, sound.sized.cores, sound.sized.rows, sound.sized.idle_tasks)) place.idle_is_ready in
    some_found (pick table.control core orders) found.0 found.1
  where
    some_found : (o : Option ℕ) (i : ℕ) → o ≡ Some i → IsSome o
    some_found (Some j) i same = refl
    some_found None i same = absurd (cc (same))
