-- A pair of lists, of which one is this turn's: what comes of them when a task comes to one, or leaves.
use Rattle.std.proofs.Common.{◌≡◌, ◌≢◌, ℕ, zero, suc, ◌+◌, ◌-◌, ◌<◌, ◌≤◌, ◌%◌, ◌^◌, ◌||◌, Bool, true, false, cond, eqb, List, [], ◌∷◌, ◌++◌, length, map}
use Rattle.std.proofs.Common.{get_or, Some, None, option_map, unwrap_or, refl, sym, ap, subst, ◌∙◌, get_or-set_other, get_or-set_same, length-set, arith}
use Rattle.std.specs.List.{find, AllByRecursion, IsDistinct}
use Rattle.std.proofs.lemmas.List.{get_or-map, length-map}
use Rattle.std.proofs.lemmas.List.Elements.{All-nil}
use Rattle.std.proofs.lemmas.Bool.{eqb-true}
use Rattle.std.proofs.lemmas.Bool.Decides.{nat_tests}
use Rattle.bench_types.specs.declared.kernel_data.Delayed.{Delayed}
use Rattle.list_orders.proofs.Filters.{list_any-append}
use Rattle.list_orders.specs.Search.{placed, ranked}
use Rattle.index_lists.specs.Listed.{Listed, ListsView, empty_lists, list_at, with_list, list_of, key_of, items_of, has_item, without_item, lowest_first}
use Rattle.bench_model.specs.Lists.{without_delay, one_tick_less, due_tasks}
use Rattle.bench_model.specs.Looks.{left_in}
use Rattle.bench_model.specs.Until.{ticks_to}
use Rattle.tick_delay.specs.Parts.{DelayView, is_delayed, delayed_for, from_list, advanced}
use Rattle.tick_delay.specs.Shape.{delayed_at, seen_delays, IsTwoTurns, IsDelayShape}
use Rattle.tick_delay.proofs.Turns.{came_this, came_next, seen_this, seen_next, turns_without, seen_without, turns_on, turns_wrap, seen_aged, seen_wrap}
use Rattle.tick_delay.proofs.Turns.{same_turns}

abbrev passes : ℕ → Listed → Bool
passes task entry = eqb entry.item task

-- ---- the two lists, whichever is the first
module _ (tasks tick turn : ℕ) (lists : ListsView) (shape : IsDelayShape tasks tick turn lists) where
  abbrev this : List Listed
  this = list_at lists turn

  abbrev next : List Listed
  next = list_at lists (1 - turn)

  pub low_this : turn < length lists.lists
  low_this = omega (arith, shape.turn_low, shape.both)

  pub low_next : 1 - turn < length lists.lists
  low_next = omega (arith, shape.both)

  next_apart : 1 - turn ≢ turn
  next_apart same = omega (arith, shape.turn_low, same)

  this_apart : turn ≢ 1 - turn
  this_apart same = omega (arith, shape.turn_low, same)

  -- the first list is another, or the second is
  this_set : (row : List Listed) → list_at (with_list turn row lists) turn ≡ row
  this_set row = get_or-set_same lists.lists turn row [] low_this

  next_kept : (row : List Listed) → list_at (with_list turn row lists) (1 - turn) ≡ next
  next_kept row = get_or-set_other lists.lists turn (1 - turn) row [] next_apart

  next_set : (row : List Listed) → list_at (with_list (1 - turn) row lists) (1 - turn) ≡ row
  next_set row = get_or-set_same lists.lists (1 - turn) row [] low_next

  this_kept : (row : List Listed) → list_at (with_list (1 - turn) row lists) turn ≡ this
  this_kept row = get_or-set_other lists.lists (1 - turn) turn row [] this_apart

  pub shape_this : (row : List Listed) → IsTwoTurns tasks tick row next → IsDelayShape tasks tick turn (with_list turn row lists)
  shape_this row turns = record {
    turn_low = shape.turn_low;
    tick_low = shape.tick_low;
    items = shape.items;
    both = length-set lists.lists turn row ∙ shape.both;
    turns = rw (this_set row, next_kept row) turns;
  }

  pub seen_this_row : (row : List Listed) → from_list turn (with_list turn row lists) ≡ row ++ next
  seen_this_row row = ap (λ xs. xs ++ list_at (with_list turn row lists) (1 - turn)) (this_set row) ∙ ap (λ xs. row ++ xs) (next_kept row)

  pub shape_next : (row : List Listed) → IsTwoTurns tasks tick this row → IsDelayShape tasks tick turn (with_list (1 - turn) row lists)
  shape_next row turns = record {
    turn_low = shape.turn_low;
    tick_low = shape.tick_low;
    items = shape.items;
    both = length-set lists.lists (1 - turn) row ∙ shape.both;
    turns = rw (this_kept row, next_set row) turns;
  }

  pub seen_next_row : (row : List Listed) → from_list turn (with_list (1 - turn) row lists) ≡ this ++ row
  seen_next_row row = ap (λ xs. xs ++ list_at (with_list (1 - turn) row lists) (1 - turn)) (this_kept row) ∙ ap (λ xs. this ++ xs) (next_set row)

  -- a task is in neither
  abbrev gone : ℕ → ListsView
  gone task = record lists { lists = map (without_item task) lists.lists }

  this_gone : (task : ℕ) → list_at (gone task) turn ≡ without_item task this
  this_gone task = get_or-map (without_item task) lists.lists turn [] [] low_this

  next_gone : (task : ℕ) → list_at (gone task) (1 - turn) ≡ without_item task next
  next_gone task = get_or-map (without_item task) lists.lists (1 - turn) [] [] low_next

  pub shape_gone : (task : ℕ) → IsDelayShape tasks tick turn (gone task)
  shape_gone task = record {
    turn_low = shape.turn_low;
    tick_low = shape.tick_low;
    items = shape.items;
    both = length-map lists.lists (without_item task) ∙ shape.both;
    turns = rw (this_gone task, next_gone task) (turns_without tasks tick this next shape.tick_low shape.turns task);
  }

  pub seen_gone : (task : ℕ) → map (delayed_at tick) (from_list turn (gone task)) ≡ without_delay task (map (delayed_at tick) (from_list turn lists))
  seen_gone task =
      ap (λ xs. map (delayed_at tick) (xs ++ list_at (gone task) (1 - turn))) (this_gone task) ∙ ap (λ xs. map (delayed_at tick) (without_item task this ++ xs))
      (next_gone task)
      ∙ seen_without tasks tick this next shape.tick_low shape.turns task

-- ---- searches in one list after the other
found_left : (task : ℕ) (xs ys : List Listed) → has_item task xs ≡ true → find (passes task) (xs ++ ys) ≡ find (passes task) xs
found_left task [] ys here = absurd (cc (here))
found_left task (x ∷ xs) ys here = at (eqb x.item task) refl (found_left task xs ys)
  where
    at : (b : Bool) → eqb x.item task ≡ b → (has_item task xs ≡ true → find (passes task) (xs ++ ys) ≡ find (passes task) xs) → cond b (Some x)
        (find (passes task) (xs ++ ys)) ≡ cond b (Some x) (find (passes task) xs)
    at true is rest = refl
    at false is rest = rest (grind (arith, here, is))

found_right : (task : ℕ) (xs ys : List Listed) → has_item task xs ≡ false → find (passes task) (xs ++ ys) ≡ find (passes task) ys
found_right task [] ys away = refl
found_right task (x ∷ xs) ys away = grind (arith, away, found_right task xs ys)

found_none : (task : ℕ) (xs : List Listed) → has_item task xs ≡ false → find (passes task) xs ≡ None
found_none task [] away = refl
found_none task (x ∷ xs) away = grind (arith, away, found_none task xs)

absent : (task : ℕ) (xs : List Listed) → AllByRecursion (λ n. eqb task n ≡ false) (items_of xs) → has_item task xs ≡ false
absent task [] apart = refl
absent task (x ∷ xs) apart = grind (arith, nat_tests, apart.0, absent task xs apart.1)

-- an item that stands in the first stands not in the second
once_only : (task : ℕ) (xs ys : List Listed) → IsDistinct eqb (items_of (xs ++ ys)) → has_item task xs ≡ true → has_item task ys ≡ false
unfolding IsDistinct
once_only task [] ys once here = absurd (cc (here))
once_only task (x ∷ xs) ys once here = at (eqb x.item task) refl (once_only task xs ys once.1)
  where
    at : (b : Bool) → eqb x.item task ≡ b → (has_item task xs ≡ true → has_item task ys ≡ false) → has_item task ys ≡ false
    at true is rest =
        let away : has_item task (xs ++ ys) ≡ false = absent task (xs ++ ys)
        (subst (λ n. AllByRecursion (λ m. eqb n m ≡ false) (items_of (xs ++ ys))) (eqb-true x.item task is) once.0) in
        grind (arith, away, list_any-append (passes task) xs ys)
    at false is rest = rest (grind (arith, here, is))

find_seen : (tick task : ℕ) (xs : List Listed) → left_in task (map (delayed_at tick) xs) ≡ option_map (ticks_to tick)
    (option_map (λ (e : Listed). e.key) (find (passes task) xs))
find_seen tick task [] = refl
find_seen tick task (x ∷ xs) = at (eqb x.item task) (find_seen tick task xs)
  where
    at : (b : Bool) → left_in task (map (delayed_at tick) xs) ≡ option_map (ticks_to tick) (option_map (λ (e : Listed). e.key) (find (passes task) xs))
        → option_map (λ (d : Delayed). d.left) (cond b (Some (delayed_at tick x)) (find (λ (d : Delayed). eqb d.task task) (map (delayed_at tick) xs))) ≡
        option_map (ticks_to tick) (option_map (λ (e : Listed). e.key) (cond b (Some x) (find (passes task) xs)))
    at true rest = refl
    at false rest = rest

-- what a search finds in one list and then in the other is what it finds in the one that has the item
search_pair : (task : ℕ) (a b : List Listed) → IsDistinct eqb (items_of (a ++ b)) → find (passes task) (unwrap_or (find (has_item task) (a ∷ b ∷ [])) []) ≡ find
    (passes task) (a ++ b)
search_pair task a b once = at (has_item task a) refl
  where
    at_other : (c : Bool) → has_item task b ≡ c → has_item task a ≡ false → find (passes task) (unwrap_or (cond c (Some b) None) []) ≡ find (passes task)
        (a ++ b)
    at_other true there away = sym (found_right task a b away)
    at_other false nowhere away = sym (found_right task a b away ∙ found_none task b nowhere)

    at : (c : Bool) → has_item task a ≡ c → find (passes task) (unwrap_or (cond c (Some a) (cond (has_item task b) (Some b) None)) []) ≡ find (passes task)
        (a ++ b)
    at true here = sym (found_left task a b here)
    at false away = at_other (has_item task b) refl away

search_turned : (task : ℕ) (a b : List Listed) → IsDistinct eqb (items_of (b ++ a)) → find (passes task) (unwrap_or (find (has_item task) (a ∷ b ∷ [])) []) ≡
    find (passes task) (b ++ a)
search_turned task a b once = at (has_item task b) refl
  where
    at_first : (c : Bool) → has_item task a ≡ c → has_item task b ≡ false → find (passes task)
        (unwrap_or (cond c (Some a) (cond (has_item task b) (Some b) None)) []) ≡ find (passes task) (b ++ a)
    at_first true here away = sym (found_right task b a away)
    at_first false nowhere away = ap (λ c. find (passes task) (unwrap_or (cond c (Some b) None) [])) away ∙ sym
        (found_right task b a away ∙ found_none task a nowhere)

    at : (c : Bool) → has_item task b ≡ c → find (passes task) (unwrap_or (cond (has_item task a) (Some a) (cond (has_item task b) (Some b) None)) []) ≡ find
        (passes task) (b ++ a)
    at true there =
        ap (λ c. find (passes task) (unwrap_or (cond c (Some a) (cond (has_item task b) (Some b) None)) [])) (once_only task b a once there)
        ∙ ap (λ c. find (passes task) (unwrap_or (cond c (Some b) None) [])) there ∙ sym (found_left task b a there)
    at false away = at_first (has_item task a) refl away

key_found : (task turn : ℕ) (ls : List (List Listed)) → length ls ≡ 2 → turn < 2 → IsDistinct eqb (items_of (get_or ls turn [] ++ get_or ls (1 - turn) [])) →
    find (passes task) (unwrap_or (find (has_item task) ls) []) ≡ find (passes task) (get_or ls turn [] ++ get_or ls (1 - turn) [])
key_found task turn [] both low once = absurd (cc (both))
key_found task turn (a ∷ []) both low once = absurd (omega (arith, both))
key_found task zero (a ∷ b ∷ []) both low once = search_pair task a b once
key_found task (suc zero) (a ∷ b ∷ []) both low once = search_turned task a b once
key_found task (suc (suc n)) (a ∷ b ∷ []) both low once = absurd (omega (arith, low))
key_found task turn (a ∷ b ∷ c ∷ ls) both low once = absurd (omega (arith, both))

none_place : (task turn : ℕ) (ls : List (List Listed)) (items : ℕ) → length ls ≡ 2 → turn < 2 → has_item task (get_or ls turn []) ≡ false → has_item task
    (get_or ls (1 - turn) []) ≡ false → list_of task (record { items = items; lists = ls }) ≡ None
none_place task turn [] items both low away away2 = absurd (cc (both))
none_place task turn (a ∷ []) items both low away away2 = absurd (omega (arith, both))
none_place task zero (a ∷ b ∷ []) items both low away away2 = grind (arith, nat_tests, away, away2)
none_place task (suc zero) (a ∷ b ∷ []) items both low away away2 = grind (arith, nat_tests, away, away2)
none_place task (suc (suc n)) (a ∷ b ∷ []) items both low away away2 = absurd (omega (arith, low))
none_place task turn (a ∷ b ∷ c ∷ ls) items both low away away2 = absurd (omega (arith, both))

has_seen : (tick task : ℕ) (xs : List Listed) → is_delayed task (map (delayed_at tick) xs) ≡ has_item task xs
has_seen tick task [] = refl
has_seen tick task (x ∷ xs) = ap (λ b. eqb x.item task || b) (has_seen tick task xs)

module _ (tasks tick turn : ℕ) (lists : ListsView) (shape : IsDelayShape tasks tick turn lists) where
  -- the ticks left of a task are those to its key
  pub left_by_key : (task : ℕ) → left_in task (map (delayed_at tick) (from_list turn lists)) ≡ option_map (ticks_to tick) (key_of task lists)
  left_by_key task = find_seen tick task (from_list turn lists) ∙ ap (λ o. option_map (ticks_to tick) (option_map (λ (e : Listed). e.key) o))
      (sym (key_found task turn lists.lists shape.both shape.turn_low shape.turns.waiting_tasks.once))

  -- a task that doesn't wait is in no list
  pub in_no_list : (task : ℕ) → is_delayed task (map (delayed_at tick) (from_list turn lists)) ≡ false → list_of task lists ≡ None
  in_no_list task free =
      let away : (has_item task (list_at lists turn) || has_item task (list_at lists (1 - turn))) ≡ false = sym
      (list_any-append (passes task) (list_at lists turn) (list_at lists (1 - turn))) ∙ sym (has_seen tick task (from_list turn lists)) ∙ free in
      none_place task turn lists.lists lists.items shape.both shape.turn_low (grind (arith, away)) (grind (arith, away))

-- ---- what is seen after a call
pub seen_pair : (tasks tick turn : ℕ) (lists : ListsView) (xs : List Listed) → from_list turn lists ≡ xs → seen_delays tasks tick turn lists ≡
    record { tasks = tasks; tick = tick; turn = turn; delayed = map (delayed_at tick) xs }
seen_pair tasks tick turn lists xs is = ap (λ es. record { tasks = tasks; tick = tick; turn = turn; delayed = map (delayed_at tick) es }) is

pub turned_back : (turn : ℕ) → turn < 2 → 1 - (1 - turn) ≡ turn
turned_back turn low = omega (arith, low)

module _ (tasks tick turn : ℕ) (lists : ListsView) (shape : IsDelayShape tasks tick turn lists)
    (none : due_tasks (map (delayed_at tick) (from_list turn lists)) ≡ []) where
  wrapped : (tick + 1) % 2 ^ 32 ≡ 0 → tick + 1 ≡ 2 ^ 32
  wrapped ends = let low = shape.tick_low in omega (arith, low, ends)

  went_on : (tick + 1) % 2 ^ 32 ≢ 0 → (tick + 1 < 2 ^ 32) × ((tick + 1) % 2 ^ 32 ≡ tick + 1)
  went_on more = let low = shape.tick_low in (omega (arith, low, more), omega (arith, low, more))

  pub shape_wraps : (tick + 1) % 2 ^ 32 ≡ 0 → IsDelayShape tasks ((tick + 1) % 2 ^ 32) (1 - turn) lists
  shape_wraps ends = record {
    turn_low = omega arith;
    tick_low = omega arith;
    items = shape.items;
    both = shape.both;
    turns = rw (ends, turned_back turn shape.turn_low) (turns_wrap tasks tick (list_at lists turn) (list_at lists (1 - turn)) shape.tick_low shape.turns none
        (wrapped ends));
  }

  pub shape_goes_on : (tick + 1) % 2 ^ 32 ≢ 0 → IsDelayShape tasks ((tick + 1) % 2 ^ 32) turn lists
  shape_goes_on more = record {
    turn_low = shape.turn_low;
    tick_low = omega arith;
    items = shape.items;
    both = shape.both;
    turns = rw (went_on more).1 (turns_on tasks tick (list_at lists turn) (list_at lists (1 - turn)) shape.tick_low shape.turns none (went_on more).0);
  }

  -- the delays one tick later, whichever list is that turn's
  abbrev aged_at : ℕ → DelayView
  aged_at list = record { tasks = tasks; tick = (tick + 1) % 2 ^ 32; turn = list; delayed = map (delayed_at ((tick + 1) % 2 ^ 32)) (from_list turn lists) }

  seen_later : (b : Bool) → eqb ((tick + 1) % 2 ^ 32) 0 ≡ b → aged_at (cond b (1 - turn) turn) ≡ advanced (seen_delays tasks tick turn lists)
  unfolding advanced
  seen_later b is =
      ap (λ ds. record { tasks = tasks; tick = (tick + 1) % 2 ^ 32; turn = cond b (1 - turn) turn; delayed = ds })
      (sym (seen_aged tasks tick (list_at lists turn) (list_at lists (1 - turn)) shape.tick_low shape.turns none))
      ∙ ap (λ c. record {
        tasks = tasks;
        tick = (tick + 1) % 2 ^ 32;
        turn = cond c (1 - turn) turn;
        delayed = map one_tick_less
            (map (delayed_at tick) (from_list turn lists));
      }) (sym is)

  pub seen_goes_on : (tick + 1) % 2 ^ 32 ≢ 0 → seen_delays tasks ((tick + 1) % 2 ^ 32) turn lists ≡ advanced (seen_delays tasks tick turn lists)
  seen_goes_on more = seen_later false (grind (arith, nat_tests, more))

  pub seen_wraps : (tick + 1) % 2 ^ 32 ≡ 0 → seen_delays tasks ((tick + 1) % 2 ^ 32) (1 - turn) lists ≡ advanced (seen_delays tasks tick turn lists)
  seen_wraps ends =
      ap (λ n. record {
        tasks = tasks;
        tick = (tick + 1) % 2 ^ 32;
        turn = 1 - turn;
        delayed = map (delayed_at ((tick + 1) % 2 ^ 32))
            (list_at lists (1 - turn) ++ list_at lists n);
      }) (turned_back turn shape.turn_low)
      ∙ ap (λ ds. record { tasks = tasks; tick = (tick + 1) % 2 ^ 32; turn = 1 - turn; delayed = ds })
      (seen_wrap tasks tick (list_at lists turn) (list_at lists (1 - turn)) shape.tick_low shape.turns ((tick + 1) % 2 ^ 32) none (wrapped ends))
      ∙ seen_later true (grind (arith, nat_tests, ends))

pub empty_shape : (tasks tick : ℕ) → tick < 2 ^ 32 → IsDelayShape tasks tick 0 (empty_lists tasks 2)
unfolding IsDistinct ranked
empty_shape tasks tick low = record {
  turn_low = omega arith;
  tick_low = low;
  items = refl;
  both = refl;
  turns = record {
    waiting_tasks = record { below = All-nil (λ i. i < tasks); once = tt };
    this_turn = tt;
    next_turn = tt;
    this_order = refl;
    next_order = refl;
  };
}

pub same_pairs : (tasks tick turn others tick2 turn2 : ℕ) (lists lists2 : ListsView) → IsDelayShape tasks tick turn lists → IsDelayShape others tick2 turn2
    lists2 → tick ≡ tick2
    → (list_at lists turn ≡ list_at lists2 turn2 → list_at lists (1 - turn) ≡ list_at lists2 (1 - turn2) → map (delayed_at tick) (from_list turn lists) ≡ map
    (delayed_at tick2) (from_list turn2 lists2))
    × (map (delayed_at tick) (from_list turn lists) ≡ map (delayed_at tick2) (from_list turn2 lists2) → (list_at lists turn ≡ list_at lists2 turn2) ×
    (list_at lists (1 - turn) ≡ list_at lists2 (1 - turn2)))
same_pairs tasks tick turn others tick2 turn2 lists lists2 shape shape2 now = (
  λ one two. ap (λ n. map (delayed_at n) (from_list turn lists)) now ∙ ap (λ xs. map (delayed_at tick2) (xs ++ list_at lists (1 - turn))) one ∙ ap
      (λ xs. map (delayed_at tick2) (list_at lists2 turn2 ++ xs)) two,
  λ same. same_turns tasks others tick2 (list_at lists turn) (list_at lists (1 - turn)) (list_at lists2 turn2) (list_at lists2 (1 - turn2)) shape2.tick_low
      (subst (λ n. IsTwoTurns tasks n (list_at lists turn) (list_at lists (1 - turn))) now shape.turns) shape2.turns
      (ap (λ n. map (delayed_at n) (from_list turn lists)) (sym now) ∙ same),
)

module _ (tasks tick turn : ℕ) (lists : ListsView) (shape : IsDelayShape tasks tick turn lists) (task ticks : ℕ) (low : task < tasks)
    (free : is_delayed task (map (delayed_at tick) (from_list turn lists)) ≡ false) (few : ticks < 2 ^ 32) where
  abbrev wake : ℕ
  wake = (tick + ticks) % 2 ^ 32

  abbrev entry : Listed
  entry = record { item = task; key = wake }

  late : wake < tick → (2 ^ 32 ≤ tick + ticks) × (wake ≡ tick + ticks - 2 ^ 32)
  late passed = let tick_low = shape.tick_low in (omega (arith, passed, few, tick_low), omega (arith, passed, few, tick_low))

  soon : tick ≤ wake → (tick + ticks < 2 ^ 32) × (wake ≡ tick + ticks)
  soon ahead = let tick_low = shape.tick_low in (omega (arith, ahead, few, tick_low), omega (arith, ahead, few, tick_low))

  pub delayed_late : wake < tick → IsDelayShape tasks tick turn (with_list (1 - turn) (placed lowest_first entry (list_at lists (1 - turn))) lists)
  delayed_late passed = shape_next tasks tick turn lists shape (placed lowest_first entry (list_at lists (1 - turn)))
      (rw (late passed).1 (came_next tasks tick (list_at lists turn) (list_at lists (1 - turn)) shape.tick_low shape.turns task ticks low free few
      (late passed).0))

  pub delayed_soon : tick ≤ wake → IsDelayShape tasks tick turn (with_list turn (placed lowest_first entry (list_at lists turn)) lists)
  delayed_soon ahead = shape_this tasks tick turn lists shape (placed lowest_first entry (list_at lists turn))
      (rw (soon ahead).1 (came_this tasks tick (list_at lists turn) (list_at lists (1 - turn)) shape.tick_low shape.turns task ticks low free (soon ahead).0))

  pub seen_late : wake < tick → seen_delays tasks tick turn (with_list (1 - turn) (placed lowest_first entry (list_at lists (1 - turn))) lists) ≡ delayed_for
      task ticks (seen_delays tasks tick turn lists)
  seen_late passed =
      seen_pair tasks tick turn (with_list (1 - turn) (placed lowest_first entry (list_at lists (1 - turn))) lists)
      (list_at lists turn ++ placed lowest_first entry (list_at lists (1 - turn)))
      (seen_next_row tasks tick turn lists shape (placed lowest_first entry (list_at lists (1 - turn))))
      ∙ ap (λ ds. record { tasks = tasks; tick = tick; turn = turn; delayed = ds })
      (ap (λ n. map (delayed_at tick) (list_at lists turn ++ placed lowest_first (record { item = task; key = n }) (list_at lists (1 - turn)))) (late passed).1
      ∙ seen_next tasks tick (list_at lists turn) (list_at lists (1 - turn)) shape.tick_low shape.turns task ticks few (late passed).0)

  pub seen_soon : tick ≤ wake → seen_delays tasks tick turn (with_list turn (placed lowest_first entry (list_at lists turn)) lists) ≡ delayed_for task ticks
      (seen_delays tasks tick turn lists)
  seen_soon ahead =
      seen_pair tasks tick turn (with_list turn (placed lowest_first entry (list_at lists turn)) lists)
      (placed lowest_first entry (list_at lists turn) ++ list_at lists (1 - turn))
      (seen_this_row tasks tick turn lists shape (placed lowest_first entry (list_at lists turn)))
      ∙ ap (λ ds. record { tasks = tasks; tick = tick; turn = turn; delayed = ds })
      (ap (λ n. map (delayed_at tick) (placed lowest_first (record { item = task; key = n }) (list_at lists turn) ++ list_at lists (1 - turn))) (soon ahead).1 ∙
      seen_this tasks tick (list_at lists turn) (list_at lists (1 - turn)) shape.tick_low shape.turns task ticks (soon ahead).0)
