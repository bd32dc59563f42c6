-- What two lists by wakes keep, this turn's and the next one's, and the delays that they stand for.
use Rattle.std.proofs.Common.{◌≡◌, ◌≢◌, ℕ, ◌+◌, ◌-◌, ◌<◌, ◌≤◌, ◌%◌, ◌^◌, ◌||◌, Bool, true, false, cond, not, eqb, ltb, leb, List, [], ◌∷◌, ◌++◌, map, Some}
use Rattle.std.proofs.Common.{None, option_map, refl, sym, ap, subst, ◌∙◌, append_assoc, arith}
use Rattle.std.specs.List.{filter, find, insert, prefix_len, AllByRecursion, IsDistinct}
use Rattle.std.proofs.lemmas.List.{map-append, append-nil}
use Rattle.std.proofs.lemmas.List.Elements.{filter-append}
use Rattle.std.proofs.lemmas.List.Sorted.{IsPermutation-map, IsPermutation-insert, IsPermutation-append_left, IsPermutation-append_comm}
use Rattle.std.proofs.lemmas.Bool.Decides.{nat_tests}
use Rattle.std.proofs.lemmas.Option.{same_Some}
use Rattle.bench_types.specs.declared.kernel_data.Delayed.{Delayed}
use Rattle.list_orders.specs.Search.{placed, ranked, has}
use Rattle.list_orders.specs.Listings.{IsListing}
use Rattle.list_orders.proofs.Filters.{filter_none, filter_all, filter-map, All-filter, All-weaker, All-both, All-append, All-map, list_any-append}
use Rattle.list_orders.proofs.Listings.{listing_without}
use Rattle.list_orders.proofs.Placements.{placed_at, ranked-placed, first_in_order}
use Rattle.list_orders.proofs.Ranks.{ranked-push, map-ranked, filter-ranked, All-placed}
use Rattle.index_lists.specs.Listed.{Listed, items_of, without_item, first_of, lowest_first}
use Rattle.index_lists.proofs.Places.{lowest_first-IsRank}
use Rattle.bench_model.specs.Lists.{wakes_first, without_delay, one_tick_less, due_tasks}
use Rattle.bench_model.specs.Looks.{left_in}
use Rattle.bench_model.specs.Until.{ticks_to}
use Rattle.tick_delay.specs.Parts.{is_delayed, listed_at, wakes_this_turn}
use Rattle.tick_delay.specs.Shape.{delayed_at, IsTwoTurns}
use Rattle.tick_delay.proofs.Waits.{none_elapsed, not_among, listing_more, listing_permuted, first_is_due}

-- ---- ticks to a wake
pub this_left : (tick key : ℕ) → tick ≤ key → key < 2 ^ 32 → ticks_to tick key ≡ key - tick
this_left tick key ahead low = omega (arith, ahead, low)

pub next_left : (tick key : ℕ) → tick < 2 ^ 32 → key < tick → ticks_to tick key ≡ key + 2 ^ 32 - tick
next_left tick key tick_low passed = omega (arith, tick_low, passed)

one_less : (tick key : ℕ) → tick < 2 ^ 32 → key < 2 ^ 32 → 0 < ticks_to tick key → ticks_to tick key - 1 ≡ ticks_to ((tick + 1) % 2 ^ 32) key
one_less tick key tick_low low some = omega (arith, tick_low, low, some)

wake_back : (tick key : ℕ) → tick < 2 ^ 32 → key < 2 ^ 32 → (tick + ticks_to tick key) % 2 ^ 32 ≡ key
wake_back tick key tick_low low = omega (arith, tick_low, low)

abbrev InThis : ℕ → Listed → Type 0
InThis tick entry = (tick ≤ entry.key) × (entry.key < 2 ^ 32)

abbrev InNext : ℕ → Listed → Type 0
InNext tick entry = entry.key < tick

abbrev IsLow : Listed → Type 0
IsLow entry = entry.key < 2 ^ 32

abbrev passes_item : ℕ → Listed → Bool
passes_item task entry = eqb entry.item task

-- in one turn the order of ticks left is that of wakes
pub this_order_kept : (tick : ℕ) (a b : Listed) → InThis tick a → InThis tick b → wakes_first (delayed_at tick a) (delayed_at tick b) ≡ lowest_first a b
this_order_kept tick a b h k =
    let left = this_left tick a.key h.0 h.1 in
    let other = this_left tick b.key k.0 k.1 in
    ap (λ n. leb n (ticks_to tick b.key)) left ∙ ap (leb (a.key - tick)) other ∙ grind (arith, nat_tests, h.0, k.0)

pub next_order_kept : (tick : ℕ) → tick < 2 ^ 32 → (a b : Listed) → InNext tick a → InNext tick b → wakes_first (delayed_at tick a) (delayed_at tick b) ≡
    lowest_first a b
next_order_kept tick tick_low a b h k =
    let left = next_left tick a.key tick_low h in
    let other = next_left tick b.key tick_low k in
    ap (λ n. leb n (ticks_to tick b.key)) left ∙ ap (leb (a.key + 2 ^ 32 - tick)) other ∙ grind (arith, nat_tests, h, k, tick_low)

-- an item goes to its place by its wake where it goes by its ticks left
map-placed_in_order : (tick : ℕ) (P : Listed → Type 0) → ((a b : Listed) → P a → P b → wakes_first (delayed_at tick a) (delayed_at tick b) ≡ lowest_first a b) →
    (entry : Listed) (xs : List Listed) → P entry → AllByRecursion P xs → ranked lowest_first xs ≡ xs
    → map (delayed_at tick) (placed lowest_first entry xs) ≡ placed wakes_first (delayed_at tick entry) (map (delayed_at tick) xs)
map-placed_in_order tick P keeps entry xs here all order =
    let f = delayed_at tick in
    ap (λ ys. map f (placed lowest_first entry ys)) (sym order)
    ∙ ap (map f) (sym (ranked-push lowest_first xs entry))
    ∙ map-ranked lowest_first wakes_first f P keeps (xs ++ entry ∷ []) (All-append P xs (entry ∷ []) all (here, tt))
    ∙ ap (ranked wakes_first) (map-append f xs (entry ∷ []))
    ∙ ranked-push wakes_first (map f xs) (f entry)
    ∙ ap (placed wakes_first (f entry)) (sym (map-ranked lowest_first wakes_first f P keeps xs all) ∙ ap (map f) order)

-- an item is placed among the first of two lists where all of the second stay after it, and among the second where all of the first stay in front of it
placed_left : (x : Delayed) (xs ys : List Delayed) → AllByRecursion (λ y. wakes_first y x ≡ false) ys → placed wakes_first x (xs ++ ys) ≡ placed wakes_first x
    xs ++ ys
unfolding placed
placed_left x xs ys later =
    let p = λ (y : Delayed). wakes_first y x in
    let q = λ (y : Delayed). not (wakes_first y x) in
    let before : filter p (xs ++ ys) ≡ filter p xs = filter-append p xs ys ∙ ap (λ zs. filter p xs ++ zs) (filter_none p ys later) ∙ append-nil (filter p xs) in
    let after : filter q (xs ++ ys) ≡ filter q xs ++ ys = filter-append q xs ys ∙ ap (λ zs. filter q xs ++ zs)
    (filter_all q ys (All-weaker (λ y. wakes_first y x ≡ false) (λ y. q y ≡ true) (λ y h. ap not h) ys later)) in
    ap (λ zs. zs ++ x ∷ filter q (xs ++ ys)) before ∙ ap (λ zs. filter p xs ++ x ∷ zs) after ∙ sym (append_assoc (filter p xs) (x ∷ filter q xs) ys)

placed_right : (x : Delayed) (xs ys : List Delayed) → AllByRecursion (λ y. wakes_first y x ≡ true) xs → placed wakes_first x (xs ++ ys) ≡ xs ++ placed
    wakes_first x ys
unfolding placed
placed_right x xs ys sooner =
    let p = λ (y : Delayed). wakes_first y x in
    let q = λ (y : Delayed). not (wakes_first y x) in
    let before : filter p (xs ++ ys) ≡ xs ++ filter p ys = filter-append p xs ys ∙ ap (λ zs. zs ++ filter p ys) (filter_all p xs sooner) in
    let after : filter q (xs ++ ys) ≡ filter q ys = filter-append q xs ys ∙ ap (λ zs. zs ++ filter q ys)
    (filter_none q xs (All-weaker (λ y. wakes_first y x ≡ true) (λ y. q y ≡ false) (λ y h. ap not h) xs sooner)) in
    ap (λ zs. zs ++ x ∷ filter q (xs ++ ys)) before ∙ ap (λ zs. (xs ++ filter p ys) ++ x ∷ zs) after ∙ append_assoc xs (filter p ys) (x ∷ filter q ys)

-- one more task in the first of two lists, or in the second
listing_came : (n : ℕ) (entry : Listed) (xs ys : List Listed) → IsListing n (items_of (xs ++ ys)) → ranked lowest_first xs ≡ xs → entry.item < n → has
    entry.item (items_of (xs ++ ys)) ≡ false → IsListing n (items_of (placed lowest_first entry xs ++ ys))
listing_came n entry xs ys listing order low free =
    let item = λ (e : Listed). e.item in
    let index = prefix_len (λ other. lowest_first other entry) xs in
    let moved = IsPermutation-map item (entry ∷ (xs ++ ys)) (insert xs index entry ++ ys)
    (IsPermutation-append_left ys (entry ∷ xs) (insert xs index entry) (IsPermutation-insert xs index entry)) in
    subst (λ entries. IsListing n (items_of (entries ++ ys))) (sym (placed_at lowest_first lowest_first-IsRank entry xs order))
    (listing_permuted n (entry.item ∷ items_of (xs ++ ys)) (items_of (insert xs index entry ++ ys)) moved
    (listing_more n entry.item (items_of (xs ++ ys)) listing low free))

listing_turned : (n : ℕ) (xs ys : List Listed) → IsListing n (items_of (xs ++ ys)) → IsListing n (items_of (ys ++ xs))
listing_turned n xs ys listing = listing_permuted n (items_of (xs ++ ys)) (items_of (ys ++ xs))
    (IsPermutation-map (λ (e : Listed). e.item) (xs ++ ys) (ys ++ xs) (IsPermutation-append_comm xs ys)) listing

has_turned : (task : ℕ) (xs ys : List Listed) → has task (items_of (xs ++ ys)) ≡ false → has task (items_of (ys ++ xs)) ≡ false
has_turned task xs ys free =
    ap (has task) (map-append (λ (e : Listed). e.item) ys xs) ∙ list_any-append (λ m. eqb m task) (items_of ys) (items_of xs)
    ∙ turned (has task (items_of xs)) (has task (items_of ys)) (sym
    (ap (has task) (map-append (λ (e : Listed). e.item) xs ys) ∙ list_any-append (λ m. eqb m task) (items_of xs) (items_of ys)) ∙ free)
  where
    turned : (a b : Bool) → (a || b) ≡ false → (b || a) ≡ false
    turned a b none = grind (arith, none)

pub tasks_seen : (tick : ℕ) (xs : List Listed) → map (λ (e : Delayed). e.task) (map (delayed_at tick) xs) ≡ items_of xs
tasks_seen tick [] = refl
tasks_seen tick (e ∷ xs) = ap (λ ns. e.item ∷ ns) (tasks_seen tick xs)

head_left : (tick : ℕ) (e : Listed) (ds : List Delayed) → left_in e.item (delayed_at tick e ∷ ds) ≡ Some (ticks_to tick e.key)
head_left tick e ds =
    let itself : eqb e.item e.item ≡ true = grind (arith, nat_tests) in
    ap (λ b. option_map (λ (d : Delayed). d.left) (cond b (Some (delayed_at tick e)) (find (λ (d : Delayed). eqb d.task e.item) ds))) itself

module _ (tasks tick : ℕ) (this next : List Listed) (tick_low : tick < 2 ^ 32) (turns : IsTwoTurns tasks tick this next) where
  abbrev seen : List Delayed
  seen = map (delayed_at tick) (this ++ next)

  pub all_low : AllByRecursion IsLow (this ++ next)
  all_low = All-append IsLow this next (All-weaker (InThis tick) IsLow (λ e h. h.1) this turns.this_turn)
      (All-weaker (InNext tick) IsLow (λ e h. omega (arith, h, tick_low)) next turns.next_turn)

  seen_parts : seen ≡ map (delayed_at tick) this ++ map (delayed_at tick) next
  seen_parts = map-append (delayed_at tick) this next

  -- ---- a task comes to wait
  free_item : (task : ℕ) → is_delayed task seen ≡ false → has task (items_of (this ++ next)) ≡ false
  free_item task free = ap (has task) (sym (tasks_seen tick (this ++ next))) ∙ not_among task seen free

  pub came_this : (task ticks : ℕ) → task < tasks → is_delayed task seen ≡ false → tick + ticks < 2 ^ 32 → IsTwoTurns tasks tick
      (placed lowest_first (record { item = task; key = tick + ticks }) this) next
  came_this task ticks low free soon =
      let entry : Listed = record { item = task; key = tick + ticks } in record {
        waiting_tasks = listing_came tasks entry this next turns.waiting_tasks turns.this_order low (free_item task free);
        this_turn = All-placed lowest_first (InThis tick) entry this (omega arith, soon) turns.this_turn;
        next_turn = turns.next_turn;
        this_order = ranked-placed lowest_first lowest_first-IsRank entry this turns.this_order;
        next_order = turns.next_order;
      }

  pub seen_this : (task ticks : ℕ) → tick + ticks < 2 ^ 32 → map (delayed_at tick)
      (placed lowest_first (record { item = task; key = tick + ticks }) this ++ next) ≡ placed wakes_first (record { task = task; left = ticks }) seen
  seen_this task ticks soon =
      let entry : Listed = record { item = task; key = tick + ticks } in
      let left : ticks_to tick (tick + ticks) ≡ ticks = omega (arith, soon) in
      let later : AllByRecursion (λ y. wakes_first y (record { task = task; left = ticks }) ≡ false) (map (delayed_at tick) next) =
      All-map (λ y. wakes_first y (record { task = task; left = ticks }) ≡ false) (delayed_at tick) next
      (All-weaker (InNext tick) (λ e. wakes_first (delayed_at tick e) (record { task = task; left = ticks }) ≡ false)
      (λ e h. ap (λ n. leb n ticks) (next_left tick e.key tick_low h) ∙ grind (arith, nat_tests, soon, h, tick_low)) next turns.next_turn) in
      map-append (delayed_at tick) (placed lowest_first entry this) next
      ∙ ap (λ xs. xs ++ map (delayed_at tick) next) (map-placed_in_order tick (InThis tick) (this_order_kept tick) entry this (omega arith, soon)
      turns.this_turn turns.this_order)
      ∙ ap (λ n. placed wakes_first (record { task = task; left = n }) (map (delayed_at tick) this) ++ map (delayed_at tick) next) left
      ∙ sym (placed_left (record { task = task; left = ticks }) (map (delayed_at tick) this) (map (delayed_at tick) next) later)
      ∙ ap (placed wakes_first (record { task = task; left = ticks })) (sym seen_parts)

  pub came_next : (task ticks : ℕ) → task < tasks → is_delayed task seen ≡ false → ticks < 2 ^ 32 → 2 ^ 32 ≤ tick + ticks → IsTwoTurns tasks tick this
      (placed lowest_first (record { item = task; key = tick + ticks - 2 ^ 32 }) next)
  came_next task ticks low free few late =
      let entry : Listed = record { item = task; key = tick + ticks - 2 ^ 32 } in record {
        waiting_tasks = listing_turned tasks (placed lowest_first entry next) this
            (listing_came tasks entry next this (listing_turned tasks this next turns.waiting_tasks) turns.next_order low
            (has_turned task this next (free_item task free)));
        this_turn = turns.this_turn;
        next_turn = All-placed lowest_first (InNext tick) entry next (omega (arith, few, late)) turns.next_turn;
        this_order = turns.this_order;
        next_order = ranked-placed lowest_first lowest_first-IsRank entry next turns.next_order;
      }

  pub seen_next : (task ticks : ℕ) → ticks < 2 ^ 32 → 2 ^ 32 ≤ tick + ticks → map (delayed_at tick)
      (this ++ placed lowest_first (record { item = task; key = tick + ticks - 2 ^ 32 }) next) ≡ placed wakes_first (record { task = task; left = ticks }) seen
  seen_next task ticks few late =
      let entry : Listed = record { item = task; key = tick + ticks - 2 ^ 32 } in
      let left : ticks_to tick (tick + ticks - 2 ^ 32) ≡ ticks = omega (arith, few, late, tick_low) in
      let sooner : AllByRecursion (λ y. wakes_first y (record { task = task; left = ticks }) ≡ true) (map (delayed_at tick) this) =
      All-map (λ y. wakes_first y (record { task = task; left = ticks }) ≡ true) (delayed_at tick) this
      (All-weaker (InThis tick) (λ e. wakes_first (delayed_at tick e) (record { task = task; left = ticks }) ≡ true)
      (λ e h. ap (λ n. leb n ticks) (this_left tick e.key h.0 h.1) ∙ grind (arith, nat_tests, late, h.0, h.1)) this turns.this_turn) in
      map-append (delayed_at tick) this (placed lowest_first entry next)
      ∙ ap (λ xs. map (delayed_at tick) this ++ xs) (map-placed_in_order tick (InNext tick) (next_order_kept tick tick_low) entry next
      (omega (arith, few, late)) turns.next_turn turns.next_order)
      ∙ ap (λ n. map (delayed_at tick) this ++ placed wakes_first (record { task = task; left = n }) (map (delayed_at tick) next)) left
      ∙ sym (placed_right (record { task = task; left = ticks }) (map (delayed_at tick) this) (map (delayed_at tick) next) sooner)
      ∙ ap (placed wakes_first (record { task = task; left = ticks })) (sym seen_parts)

  -- ---- a task waits no more
  pub turns_without : (task : ℕ) → IsTwoTurns tasks tick (without_item task this) (without_item task next)
  turns_without task =
      let kept = λ (e : Listed). not (eqb e.item task) in record {
        waiting_tasks = subst (λ ns. IsListing tasks ns) (filter-map (λ m. not (eqb m task)) (λ (e : Listed). e.item) (this ++ next) ∙ ap items_of
            (filter-append kept this next)) (listing_without tasks task (items_of (this ++ next)) turns.waiting_tasks);
        this_turn = All-filter (InThis tick) kept this turns.this_turn;
        next_turn = All-filter (InNext tick) kept next turns.next_turn;
        this_order = sym (filter-ranked lowest_first lowest_first-IsRank kept this) ∙ ap (without_item task) turns.this_order;
        next_order = sym (filter-ranked lowest_first lowest_first-IsRank kept next) ∙ ap (without_item task) turns.next_order;
      }

  pub seen_without : (task : ℕ) → map (delayed_at tick) (without_item task this ++ without_item task next) ≡ without_delay task seen
  seen_without task =
      let kept = λ (e : Listed). not (eqb e.item task) in
      ap (map (delayed_at tick)) (sym (filter-append kept this next)) ∙ sym
      (filter-map (λ (e : Delayed). not (eqb e.task task)) (delayed_at tick) (this ++ next))

  -- ---- a tick
  aged : (xs : List Listed) → AllByRecursion IsLow xs → AllByRecursion (λ (e : Delayed). 0 < e.left) (map (delayed_at tick) xs) → map one_tick_less
      (map (delayed_at tick) xs) ≡ map (delayed_at ((tick + 1) % 2 ^ 32)) xs
  aged [] low some = refl
  aged (e ∷ xs) low some =
      ap (λ n. record { task = e.item; left = n } ∷ map one_tick_less (map (delayed_at tick) xs)) (one_less tick e.key tick_low low.0 some.0)
      ∙ ap (λ ds. record { task = e.item; left = ticks_to ((tick + 1) % 2 ^ 32) e.key } ∷ ds) (aged xs low.1 some.1)

  pub seen_aged : due_tasks seen ≡ [] → map one_tick_less seen ≡ map (delayed_at ((tick + 1) % 2 ^ 32)) (this ++ next)
  seen_aged none = aged (this ++ next) all_low (none_elapsed seen none)

  -- none of this turn is due now
  none_now : (xs ys : List Listed) → AllByRecursion (InThis tick) xs → AllByRecursion (λ (e : Delayed). 0 < e.left) (map (delayed_at tick) (xs ++ ys)) →
      AllByRecursion (InThis (tick + 1)) xs
  none_now [] ys here some = tt
  none_now (e ∷ xs) ys here some =
      let left = this_left tick e.key here.0.0 here.0.1 in
      ((omega (arith, left, some.0), here.0.1), none_now xs ys here.1 some.1)

  pub turns_on : due_tasks seen ≡ [] → tick + 1 < 2 ^ 32 → IsTwoTurns tasks (tick + 1) this next
  turns_on none more = record {
    waiting_tasks = turns.waiting_tasks;
    this_turn = none_now this next turns.this_turn (none_elapsed seen none);
    next_turn = All-weaker (InNext tick) (InNext (tick + 1)) (λ e h. omega (arith, h)) next turns.next_turn;
    this_order = turns.this_order;
    next_order = turns.next_order;
  }

  over : (xs : List Listed) → tick + 1 ≡ 2 ^ 32 → AllByRecursion (InThis (tick + 1)) xs → xs ≡ []
  over [] wraps here = refl
  over (e ∷ xs) wraps here = absurd (omega (arith, wraps, here.0.0, here.0.1))

  pub this_over : due_tasks seen ≡ [] → tick + 1 ≡ 2 ^ 32 → this ≡ []
  this_over none wraps = over this wraps (none_now this next turns.this_turn (none_elapsed seen none))

  pub turns_wrap : due_tasks seen ≡ [] → tick + 1 ≡ 2 ^ 32 → IsTwoTurns tasks 0 next this
  turns_wrap none wraps = record {
    waiting_tasks = listing_turned tasks this next turns.waiting_tasks;
    this_turn = All-weaker (InNext tick) (InThis 0) (λ e h. (omega arith, omega (arith, h, tick_low))) next turns.next_turn;
    next_turn = subst (AllByRecursion (InNext 0)) (sym (this_over none wraps)) tt;
    this_order = turns.next_order;
    next_order = turns.this_order;
  }

  pub seen_wrap : (now : ℕ) → due_tasks seen ≡ [] → tick + 1 ≡ 2 ^ 32 → map (delayed_at now) (next ++ this) ≡ map (delayed_at now) (this ++ next)
  seen_wrap now none wraps = ap (λ xs. map (delayed_at now) (next ++ xs)) (this_over none wraps) ∙ ap (map (delayed_at now)) (append-nil next) ∙ ap
      (λ xs. map (delayed_at now) (xs ++ next)) (sym (this_over none wraps))

  -- ---- the lists by what they stand for
  back : (xs : List Listed) → AllByRecursion IsLow xs → map (listed_at tick) (map (delayed_at tick) xs) ≡ xs
  back [] low = refl
  back (e ∷ xs) low = ap (λ n. record { item = e.item; key = n } ∷ map (listed_at tick) (map (delayed_at tick) xs)) (wake_back tick e.key tick_low low.0) ∙ ap
      (λ es. e ∷ es) (back xs low.1)

  pub listed_back : map (listed_at tick) seen ≡ this ++ next
  listed_back = back (this ++ next) all_low

  this_wakes : AllByRecursion (λ e. wakes_this_turn tick (delayed_at tick e) ≡ true) this
  this_wakes = All-weaker (InThis tick) (λ e. wakes_this_turn tick (delayed_at tick e) ≡ true)
      (λ e h. ap (λ n. ltb (tick + n) (2 ^ 32)) (this_left tick e.key h.0 h.1) ∙ grind (arith, nat_tests, h.0, h.1)) this turns.this_turn

  next_wakes : AllByRecursion (λ e. wakes_this_turn tick (delayed_at tick e) ≡ false) next
  next_wakes = All-weaker (InNext tick) (λ e. wakes_this_turn tick (delayed_at tick e) ≡ false)
      (λ e h. ap (λ n. ltb (tick + n) (2 ^ 32)) (next_left tick e.key tick_low h) ∙ grind (arith, nat_tests, h, tick_low)) next turns.next_turn

  pub this_is : map (listed_at tick) (filter (wakes_this_turn tick) seen) ≡ this
  this_is =
      let p = λ (e : Listed). wakes_this_turn tick (delayed_at tick e) in
      ap (map (listed_at tick)) (filter-map (wakes_this_turn tick) (delayed_at tick) (this ++ next) ∙ ap (map (delayed_at tick))
      (filter-append p this next ∙ ap (λ xs. xs ++ filter p next) (filter_all p this this_wakes) ∙ ap (λ xs. this ++ xs) (filter_none p next next_wakes) ∙
      append-nil this))
      ∙ back this (All-weaker (InThis tick) IsLow (λ e h. h.1) this turns.this_turn)

  pub next_is : map (listed_at tick) (filter (λ d. not (wakes_this_turn tick d)) seen) ≡ next
  next_is =
      let p = λ (e : Listed). not (wakes_this_turn tick (delayed_at tick e)) in
      ap (map (listed_at tick)) (filter-map (λ d. not (wakes_this_turn tick d)) (delayed_at tick) (this ++ next) ∙ ap (map (delayed_at tick))
      (filter-append p this next ∙ ap (λ xs. xs ++ filter p next) (filter_none p this
      (All-weaker (λ e. wakes_this_turn tick (delayed_at tick e) ≡ true) (λ e. p e ≡ false) (λ e h. ap not h) this this_wakes)) ∙ filter_all p next
      (All-weaker (λ e. wakes_this_turn tick (delayed_at tick e) ≡ false) (λ e. p e ≡ true) (λ e h. ap not h) next next_wakes)))
      ∙ back next (All-weaker (InNext tick) IsLow (λ e h. omega (arith, h, tick_low)) next turns.next_turn)

  -- ---- who is due
  some_left_next : AllByRecursion (λ (e : Listed). eqb (ticks_to tick e.key) 0 ≡ false) next
  some_left_next = All-weaker (InNext tick) (λ e. eqb (ticks_to tick e.key) 0 ≡ false)
      (λ e h. ap (λ n. eqb n 0) (next_left tick e.key tick_low h) ∙ grind (arith, nat_tests, h, tick_low)) next turns.next_turn

  none_due_of : (xs : List Listed) → AllByRecursion (λ (e : Listed). eqb (ticks_to tick e.key) 0 ≡ false) xs → due_tasks (map (delayed_at tick) xs) ≡ []
  unfolding due_tasks
  none_due_of xs left = ap (map (λ (e : Delayed). e.task)) (filter_none (λ (e : Delayed). eqb e.left 0) (map (delayed_at tick) xs)
      (All-map (λ (e : Delayed). eqb e.left 0 ≡ false) (delayed_at tick) xs left))

  pub due_empty : first_of this ≡ None → due_tasks seen ≡ []
  due_empty none = at this refl none
    where
      at : (xs : List Listed) → this ≡ xs → first_of xs ≡ None → due_tasks seen ≡ []
      at [] is none = ap (λ xs. due_tasks (map (delayed_at tick) (xs ++ next))) is ∙ none_due_of next some_left_next
      at (e ∷ xs) is none = absurd (cc (none))

  once_seen : IsDistinct eqb (map (λ (e : Delayed). e.task) seen)
  once_seen = subst (IsDistinct eqb) (sym (tasks_seen tick (this ++ next))) turns.waiting_tasks.once

  pub due_first : (task : ℕ) → first_of this ≡ Some task → left_in task seen ≡ Some 0 → due_tasks seen ≡ task ∷ due_tasks (without_delay task seen)
  due_first task first ends = at this refl first
    where
      at : (xs : List Listed) → this ≡ xs → first_of xs ≡ Some task → due_tasks seen ≡ task ∷ due_tasks (without_delay task seen)
      at [] is first = absurd (cc (first))
      at (e ∷ xs) is first =
          let whole : seen ≡ delayed_at tick e ∷ map (delayed_at tick) (xs ++ next) = ap (λ ys. map (delayed_at tick) (ys ++ next)) is in
          let same : e.item ≡ task = same_Some e.item task first in
          let found : left_in e.item (delayed_at tick e ∷ map (delayed_at tick) (xs ++ next)) ≡ Some (ticks_to tick e.key) = head_left tick e
          (map (delayed_at tick) (xs ++ next)) in
          let none_left : ticks_to tick e.key ≡ 0 = same_Some (ticks_to tick e.key) 0
          (sym found ∙ ap (left_in e.item) (sym whole) ∙ ap (λ t. left_in t seen) same ∙ ends) in
          subst (λ t. due_tasks seen ≡ t ∷ due_tasks (without_delay t seen)) same
          (subst (λ ds. due_tasks ds ≡ e.item ∷ due_tasks (without_delay e.item ds)) (sym whole)
          (first_is_due (delayed_at tick e) (map (delayed_at tick) (xs ++ next))
          (subst (λ ds. IsDistinct eqb (map (λ (d : Delayed). d.task) ds)) whole once_seen) (ap (λ n. eqb n 0) none_left)))

  pub due_later : (task : ℕ) → first_of this ≡ Some task → left_in task seen ≢ Some 0 → due_tasks seen ≡ []
  due_later task first left = at this refl first
    where
      at : (xs : List Listed) → this ≡ xs → first_of xs ≡ Some task → due_tasks seen ≡ []
      at [] is first = absurd (cc (first))
      at (e ∷ xs) is first =
          let whole : seen ≡ delayed_at tick e ∷ map (delayed_at tick) (xs ++ next) = ap (λ ys. map (delayed_at tick) (ys ++ next)) is in
          let same : e.item ≡ task = same_Some e.item task first in
          let found : left_in e.item (delayed_at tick e ∷ map (delayed_at tick) (xs ++ next)) ≡ Some (ticks_to tick e.key) = head_left tick e
          (map (delayed_at tick) (xs ++ next)) in
          let some : ticks_to tick e.key ≢ 0 = λ none. left (ap (λ t. left_in t seen) (sym same) ∙ ap (left_in e.item) whole ∙ found ∙ ap Some none) in
          let here = subst (AllByRecursion (InThis tick)) is turns.this_turn in
          let later = first_in_order lowest_first lowest_first-IsRank e xs (ap (ranked lowest_first) (sym is) ∙ turns.this_order ∙ is) in
          let ahead : tick < e.key = let is_left = this_left tick e.key here.0.0 here.0.1 in omega (arith, here.0.0, some, is_left) in
          let others = All-weaker (λ y. InThis tick y × (lowest_first e y ≡ true)) (λ (y : Listed). eqb (ticks_to tick y.key) 0 ≡ false)
          (λ y h. ap (λ n. eqb n 0) (this_left tick y.key h.0.0 h.0.1) ∙ grind (arith, nat_tests, h.1, ahead)) xs
          (All-both (InThis tick) (λ y. lowest_first e y ≡ true) xs here.1 later) in
          ap due_tasks whole ∙ none_due_of (e ∷ (xs ++ next)) (
            grind (arith, nat_tests, some),
            All-append (λ (y : Listed). eqb (ticks_to tick y.key) 0 ≡ false)
                xs next others some_left_next,
          )

-- two pairs of lists are equal where they stand for the same delays
pub same_turns : (tasks others tick : ℕ) (this next this2 next2 : List Listed) → tick < 2 ^ 32 → IsTwoTurns tasks tick this next → IsTwoTurns others tick this2
    next2 → map (delayed_at tick) (this ++ next) ≡ map (delayed_at tick) (this2 ++ next2) → (this ≡ this2) × (next ≡ next2)
same_turns tasks others tick this next this2 next2 low turns turns2 same = (
  sym (this_is tasks tick this next low turns) ∙ ap (λ ds. map (listed_at tick) (filter (wakes_this_turn tick) ds)) same ∙ this_is others tick this2 next2 low
      turns2,
  sym (next_is tasks tick this next low turns) ∙ ap (λ ds. map (listed_at tick) (filter (λ d. not (wakes_this_turn tick d)) ds)) same ∙ next_is others tick
      this2 next2 low turns2,
)
