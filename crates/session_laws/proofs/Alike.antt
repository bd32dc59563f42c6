-- What can be seen of two tables is equal just where they are alike pair by pair.
use Rattle.std.proofs.Common.{◌≡◌, ℕ, ◌-◌, ◌<◌, true, leb, List, length, map, Option, Some, None, refl, sym, ap, subst, ◌∙◌, arith}
use Rattle.std.specs.Prelude.{◌↔◌, is_some, option_map, unwrap_or}
use Rattle.std.specs.List.{AllByRecursion}
use Rattle.std.proofs.lemmas.List.{map-id, length-map, ext_get_or}
use Rattle.std.proofs.lemmas.Bool.Decides.{nat_tests}
use Rattle.bench_types.specs.declared.kernel_data.Hold.{Hold}
use Rattle.bench_types.specs.declared.kernel_data.Delayed.{Delayed}
use Rattle.bench_types.specs.declared.kernel_data.QueueLook.{QueueLook}
use Rattle.bench_types.specs.declared.kernel_data.Settings.{Settings}
use Rattle.bench_types.specs.declared.kernel_data.Waiter.{Waiter}
use Rattle.bench_types.specs.declared.note.Notification.{Notification}
use Rattle.bench_types.specs.declared.step.Unfinished.{Unfinished}
use Rattle.bench_model.specs.Alike.{SamePairwise, InOneReadyList, AreDelayedTogether, SameOrder, SameWaitOrder}
use Rattle.bench_model.specs.Control.{Control, task_at}
use Rattle.bench_model.specs.Equal.{Same}
use Rattle.bench_model.specs.Looks.{ticks_left, left_in}
use Rattle.bench_model.specs.Lists as seen
use Rattle.bench_model.specs.Lists.{Lists, View, lists_of, delayed_of, outranks, wakes_first}
use Rattle.list_orders.specs.Search.{ranked, has}
use Rattle.bench_model.specs.Sound.{IsConsistent, IsWaiter}
use Rattle.bench_model.specs.Table.{Stamps, Table, row_at, is_ready, stands_ready, wake_in, deadline_left}
use Rattle.bench_model.specs.Waiters.{wait_of}
use Rattle.list_orders.proofs.Filters.{All-weaker}
use Rattle.order_laws.proofs.Looks.{left_seen}
use Rattle.order_laws.proofs.Restamps.{standing_so, waits}
use Rattle.session_laws.proofs.SameOrders.{same_orders}
use Rattle.session_laws.proofs.SameWaiters.{same_waiters, waits_from_same}
use Rattle.order_laws.proofs.SeenMoves.{is_ready_seen, deadline_from, deadline_left_seen, same_seen}
use Rattle.bench_model.proofs.Ranks.{outranks-IsRank, wakes_first-IsRank}

-- ---- ticks left, as they stand in entries

left_value : (tick : ℕ) (wake : Option ℕ) → unwrap_or wake 0 - tick ≡ unwrap_or (option_map (λ wake. wake - tick) wake) 0
left_value tick None = omega arith
left_value tick (Some wake) = refl

left_some : (tick : ℕ) (wake : Option ℕ) → is_some wake ≡ is_some (option_map (λ wake. wake - tick) wake)
left_some tick None = refl
left_some tick (Some wake) = refl

level : (x y : ℕ) → x ≡ y → leb x y ≡ true
level x y same = grind (arith, nat_tests, same)

both_ways : (x y : ℕ) → leb x y ≡ true → leb y x ≡ true → x ≡ y
both_ways x y forth back = grind (arith, nat_tests, forth, back)

one_left : (x y : Option ℕ) → is_some x ≡ true → is_some y ≡ true → unwrap_or x 0 ≡ unwrap_or y 0 → x ≡ y
one_left None y some other same = absurd (cc (some))
one_left (Some x) None some other same = absurd (cc (other))
one_left (Some x) (Some y) some other same = ap Some same

same_view : (settings other : Settings) (control cores : Control) (calls unfinished : List (Option Unfinished)) (notes noted : List Notification)
    (holders held : List (Option ℕ)) (queues filled : List QueueLook) (hold kept : Option Hold) (orders lists : Lists) →
    settings ≡ other → control ≡ cores → calls ≡ unfinished → notes ≡ noted → holders ≡ held → queues ≡ filled → hold ≡ kept → orders ≡ lists →
    (let view : View = record { settings = settings; control = control; calls = calls; notes = notes; holders = holders; queues = queues; hold = hold; orders = orders } in view)
    ≡ record { settings = other; control = cores; calls = unfinished; notes = noted; holders = held; queues = filled; hold = kept; orders = lists }
same_view settings other control cores calls unfinished notes noted holders held queues filled hold kept orders lists a b c d e f g h = cc

module _ (a b : Table) (first : IsConsistent a) (second : IsConsistent b) (settings : a.settings ≡ b.settings) (control : a.control ≡ b.control) where
  tasks : a.settings.tasks ≡ b.settings.tasks
  tasks = ap (λ (s : Settings). s.tasks) settings

  rows : length a.orders.rows ≡ length b.orders.rows
  rows = first.sized.rows ∙ tasks ∙ sym second.sized.rows

  in_a : (i : ℕ) → i < a.settings.tasks → i < length a.orders.rows
  in_a i low = omega (arith, first.sized.rows, low)

  in_b : (i : ℕ) → i < a.settings.tasks → i < length b.orders.rows
  in_b i low = omega (arith, second.sized.rows, tasks, low)

  is_task : (i : ℕ) → i < length a.orders.rows → i < a.settings.tasks
  is_task i low = omega (arith, first.sized.rows, low)

  -- each task by itself
  record AgreeOnTasks : Type 0 where
    ready : (i : ℕ) → i < a.settings.tasks → is_ready i a.orders ≡ is_ready i b.orders
    left : (i : ℕ) → i < a.settings.tasks → ticks_left i a.orders ≡ ticks_left i b.orders

  -- the orders of a table, its ready lists by the priorities of a
  abbrev ready_of : Table → List ℕ
  ready_of table = ranked (outranks a.control) (map (λ i. i) (standing_so stands_ready table.orders))

  abbrev delayed_in : Table → List Delayed
  delayed_in table = ranked wakes_first (map (delayed_of table.orders) (standing_so waits table.orders))

  ready_listed : (ready_of a ≡ ready_of b) ↔ ((lists_of a.control a.orders).ready ≡ (lists_of b.control b.orders).ready)
  unfolding lists_of
  ready_listed =
      let plain = λ (table : Table). ap (ranked (outranks a.control)) (map-id (standing_so stands_ready table.orders)) in
      let cores = ap (λ cores. ranked (outranks cores) (standing_so stands_ready b.orders)) control in
      (λ same. sym (plain a) ∙ same ∙ plain b ∙ cores, λ same. plain a ∙ same ∙ sym cores ∙ sym (plain b))

  module _ (agree : AgreeOnTasks) where
    some_left : (i : ℕ) → i < length a.orders.rows → waits (row_at a.orders i).standing ≡ waits (row_at b.orders i).standing
    some_left i low = left_some a.orders.tick (wake_in (row_at a.orders i).standing) ∙ ap is_some (agree.left i (is_task i low)) ∙ sym
        (left_some b.orders.tick (wake_in (row_at b.orders i).standing))

    delayed_so : (i : ℕ) → i < length a.orders.rows → delayed_of a.orders i ≡ delayed_of b.orders i
    delayed_so i low =
        let same = left_value a.orders.tick (wake_in (row_at a.orders i).standing) ∙ ap (λ left. unwrap_or left 0) (agree.left i (is_task i low)) ∙ sym
        (left_value b.orders.tick (wake_in (row_at b.orders i).standing)) in
        ap (λ left. let entry : Delayed = record { task = i; left = left } in entry) same

    -- the lists are equal just where the tasks that stand together came in the same order

    ready_pairs : (ready_of a ≡ ready_of b) ↔ SameOrder InOneReadyList a b
    ready_pairs =
        let rank = λ (i : ℕ). (task_at a.control i).in_use in
        let both = same_orders (outranks a.control) (outranks-IsRank a.control) stands_ready (λ i. i) (λ i. i) (λ i. i) a.orders b.orders rows (λ i. refl)
        (λ i h. agree.ready i (is_task i h)) (λ i h. refl) first.stamped second.stamped in (
          λ same i j low below together. both.0 same i j (in_a i low) (in_a j below)
              (together.0, together.1, level (rank j) (rank i) (sym together.2), level (rank i) (rank j) together.2),
          λ came. both.1 (λ i j low below one. came i j (is_task i low) (is_task j below) (one.0, one.1, both_ways (rank i) (rank j) one.3 one.2)),
        )

    delayed_pairs : (delayed_in a ≡ delayed_in b) ↔ SameOrder AreDelayedTogether a b
    delayed_pairs =
        let tick = a.orders.tick in
        let wake = λ (i : ℕ). wake_in (row_at a.orders i).standing in
        let left = λ (i : ℕ). (delayed_of a.orders i).left in
        let value : (i : ℕ) → left i ≡ unwrap_or (ticks_left i a.orders) 0 = λ i. left_value tick (wake i) in
        let some : (i : ℕ) → waits (row_at a.orders i).standing ≡ is_some (ticks_left i a.orders) = λ i. left_some tick (wake i) in
        let both = same_orders wakes_first wakes_first-IsRank waits (λ e. e.task) (delayed_of a.orders) (delayed_of b.orders) a.orders b.orders rows (λ i. refl)
        some_left delayed_so first.stamped second.stamped in (
          λ same i j low below together.
              let one : left i ≡ left j = value i ∙ ap (λ left. unwrap_or left 0) together.1 ∙ sym (value j) in
              both.0 same i j (in_a i low) (in_a j below) (
                some i ∙ together.0,
                some j ∙ sym (ap is_some together.1) ∙ together.0,
                level (left i) (left j) one,
                level (left j) (left i) (sym one),
              ),
          λ came. both.1 (λ i j low below one.
              let same = both_ways (left i) (left j) one.2 one.3 in
              came i j (is_task i low) (is_task j below) (
                sym (some i) ∙ one.0,
                one_left (ticks_left i a.orders) (ticks_left j a.orders) (sym (some i) ∙ one.0)
                    (sym (some j) ∙ one.1) (sym (value i) ∙ same ∙ value j),
              )),
        )

  deadlines_same : ((i : ℕ) → i < a.settings.tasks → deadline_left i a.orders ≡ deadline_left i b.orders) → (lists_of a.control a.orders).deadlines ≡
      (lists_of b.control b.orders).deadlines
  unfolding lists_of
  deadlines_same same =
      let left = λ (stamps : Stamps). map (deadline_from stamps.tick) stamps.deadlines in
      let long_a : length (left a.orders) ≡ a.settings.tasks = length-map a.orders.deadlines (deadline_from a.orders.tick) ∙ first.sized.deadlines in
      let long_b : length (left b.orders) ≡ b.settings.tasks = length-map b.orders.deadlines (deadline_from b.orders.tick) ∙ second.sized.deadlines in
      ext_get_or None (left a.orders) (left b.orders) (long_a ∙ tasks ∙ sym long_b)
      (λ i low. deadline_left_seen a.control a.orders i ∙ same i (omega (arith, long_a, low)) ∙ sym (deadline_left_seen b.control b.orders i))

  -- each waiter is a task of its table
  below_in : (table : Table) → IsConsistent table → AllByRecursion (λ (w : Waiter). w.task < table.settings.tasks) table.orders.waiters
  below_in table sound = All-weaker (IsWaiter table.settings table.orders) (λ (w : Waiter). w.task < table.settings.tasks)
      (λ w is. omega (arith, is.0, sound.sized.rows)) table.orders.waiters sound.mutexes.waits

  waiters_same : ((i : ℕ) → i < a.settings.tasks → wait_of i a.orders.waiters ≡ wait_of i b.orders.waiters) → SameWaitOrder a.settings.tasks a.orders.waiters
      b.orders.waiters → a.orders.waiters ≡ b.orders.waiters
  waiters_same waits order =
      let one = first.mutexes in
      let other = second.mutexes in
      same_waiters a.settings.tasks a.orders.waiters b.orders.waiters one.once other.once one.by_list other.by_list (below_in a first)
      (subst (λ n. AllByRecursion (λ (w : Waiter). w.task < n) b.orders.waiters) (sym tasks) (below_in b second)) waits order

  lists_same : SamePairwise a b → lists_of a.control a.orders ≡ lists_of b.control b.orders
  unfolding lists_of
  lists_same alike =
      let agree : AgreeOnTasks = record { ready = alike.ready; left = alike.left } in
      same_seen _ _ _ _ _ _ _ _ _ _ _
      (ready_listed.0 ((ready_pairs agree).1 alike.ready_order))
      alike.ticks
      ((delayed_pairs agree).1 alike.delay_order)
      (waiters_same alike.waits alike.wait_order)
      (deadlines_same alike.deadlines)
      ∙ ap (λ (values : List ℕ). record (lists_of b.control b.orders) { values = values }) alike.values

pub same_from_alike : (a b : Table) → IsConsistent a → IsConsistent b → SamePairwise a b → Same a b
same_from_alike a b first second alike =
    same_view _ _ _ _ _ _ _ _ _ _ _ _ _ _ _ _ alike.settings alike.control alike.calls alike.notes alike.holders alike.queues alike.hold
    (lists_same a b first second alike.settings alike.control alike)

pub alike_from_same : (a b : Table) → IsConsistent a → IsConsistent b → Same a b → SamePairwise a b
unfolding lists_of
alike_from_same a b first second same = record {
  settings = settings;
  control = control;
  calls = ap (λ (v : View). v.calls) same;
  notes = ap (λ (v : View). v.notes) same;
  holders = ap (λ (v : View). v.holders) same;
  queues = ap (λ (v : View). v.queues) same;
  hold = ap (λ (v : View). v.hold) same;
  ticks = ap (λ (l : Lists). l.tick) lists;
  ready = agree.ready;
  left = agree.left;
  deadlines = λ i low. sym (deadline_left_seen a.control a.orders i) ∙ ap (seen.deadline_left i) lists ∙ deadline_left_seen b.control b.orders i;
  ready_order = (ready_pairs a b first second settings control agree).0 ((ready_listed a b first second settings control).1
      (ap (λ (l : Lists). l.ready) lists));
  delay_order = (delayed_pairs a b first second settings control agree).0 (ap (λ (l : Lists). l.delayed) lists);
  waits = (waits_from_same a.settings.tasks a.orders.waiters b.orders.waiters waiters).0;
  values = ap (λ (l : Lists). l.values) lists;
  wait_order = (waits_from_same a.settings.tasks a.orders.waiters b.orders.waiters waiters).1;
}
  where
    settings : a.settings ≡ b.settings
    settings = ap (λ (v : View). v.settings) same

    control : a.control ≡ b.control
    control = ap (λ (v : View). v.control) same

    lists : lists_of a.control a.orders ≡ lists_of b.control b.orders
    lists = ap (λ (v : View). v.orders) same

    waiters : a.orders.waiters ≡ b.orders.waiters
    waiters = ap (λ (l : Lists). l.waiters) lists

    agree : AgreeOnTasks a b first second settings control
    agree = record {
      ready = λ i low. sym (is_ready_seen a.control a.orders i first.stamped.given (in_a a b first second settings control i low)) ∙ ap
          (λ (l : Lists). has i l.ready) lists ∙ is_ready_seen b.control b.orders i second.stamped.given (in_b a b first second settings control i low);
      left = λ i low. sym (left_seen a.control a.orders i first.stamped.given (in_a a b first second settings control i low)) ∙ ap
          (λ (l : Lists). left_in i l.delayed) lists ∙ left_seen b.control b.orders i second.stamped.given (in_b a b first second settings control i low);
    }
