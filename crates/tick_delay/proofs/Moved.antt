-- Tasks that wake later, one after the other: which list each stands in, and what the two lists stand for.
use Rattle.std.proofs.Common.{◌≡◌, ◌≢◌, ℕ, zero, suc, ◌+◌, ◌-◌, ◌<◌, ◌≤◌, ◌%◌, ◌^◌, Bool, true, false, cond, not, ltb, leb, ◌||◌, List, [], ◌∷◌, ◌++◌, length}
use Rattle.std.proofs.Common.{map, refl, sym, ap, subst, ◌∙◌, inl, inr, append_assoc, get_or-set_other, get_or-set_same, length-set, arith}
use Rattle.std.specs.List.{filter, AllByRecursion}
use Rattle.std.proofs.lemmas.List.{map-append, append-nil}
use Rattle.std.proofs.lemmas.List.Elements.{filter-append}
use Rattle.std.proofs.lemmas.Bool.{cases_lt}
use Rattle.std.proofs.lemmas.Bool.Decides.{nat_tests}
use Rattle.bench_types.specs.declared.kernel_data.Delayed.{Delayed}
use Rattle.list_orders.specs.Search.{ranked}
use Rattle.list_orders.specs.Listings.{IsListing}
use Rattle.list_orders.proofs.Choices.{IsOrdered, IsOrdered-append, IsOrdered-filter, IsOrdered-weaker, ordered_parts}
use Rattle.list_orders.proofs.Filters.{filter-map, filter_agrees, All-filter, All-filter_passes, All-weaker, All-both, All-append, All-map, All_each}
use Rattle.list_orders.proofs.Placements.{ranked-ordered}
use Rattle.list_orders.proofs.Ranks.{map-ranked}
use Rattle.list_orders.proofs.Scans.{ordered-ranked}
use Rattle.index_lists.specs.Listed.{Listed, ListsView, list_at, with_list, items_of, lowest_first}
use Rattle.bench_model.specs.Lists.{wakes_first}
use Rattle.bench_model.specs.Shifted.{later_tick}
use Rattle.bench_model.specs.Until.{ticks_to}
use Rattle.bench_model.proofs.Ranks.{wakes_first-IsRank}
use Rattle.tick_delay.specs.Later.{later_wake, list_for, with_last, first_later_of, first_later, first_ones_later, all_later}
use Rattle.tick_delay.specs.Parts.{from_list, listed_at, wakes_this_turn, shifted_delays}
use Rattle.tick_delay.specs.Shape.{delayed_at, seen_delays, IsTwoTurns, IsDelayShape}
use Rattle.tick_delay.proofs.Turns.{this_left, next_left, this_order_kept, next_order_kept, tasks_seen}

-- the entries with later wakes that pass a test
abbrev pub later_of : ℕ → (Listed → Bool) → List Listed → List Listed
later_of by p xs = map (later_wake by) (filter (λ e. p (later_wake by e)) xs)

-- ---- the first entries of a list, each in turn
module _ (by tick turn list : ℕ) where
  abbrev one : ListsView → ListsView
  one lists = first_later by tick turn list lists

  abbrev some : ℕ → ListsView → ListsView
  some count lists = first_ones_later by tick turn list count lists

  pub some_more : (count : ℕ) (lists : ListsView) → some count (one lists) ≡ one (some count lists)
  some_more zero lists = refl
  some_more (suc count) lists = ap one (some_more count lists)

  of_two : (entries : List Listed) (lists : ListsView) → length (first_later_of by tick turn list entries lists).lists ≡ length lists.lists
  of_two [] lists = refl
  of_two (entry ∷ rest) lists =
      let later = later_wake by entry in
      let home = list_for tick turn later in
      let gone = with_list list rest lists in
      length-set gone.lists home (list_at gone home ++ later ∷ []) ∙ length-set lists.lists list rest

  -- there are as many lists
  pub one_two : (lists : ListsView) → length (one lists).lists ≡ length lists.lists
  unfolding first_later
  one_two lists = of_two (list_at lists list) lists

  pub some_two : (count : ℕ) (lists : ListsView) → length (some count lists).lists ≡ length lists.lists
  some_two zero lists = refl
  some_two (suc count) lists = one_two (some count lists) ∙ some_two count lists

  of_items : (entries : List Listed) (lists : ListsView) → (first_later_of by tick turn list entries lists).items ≡ lists.items
  of_items [] lists = refl
  of_items (entry ∷ rest) lists = refl

  -- and of as many items
  one_items : (lists : ListsView) → (one lists).items ≡ lists.items
  unfolding first_later
  one_items lists = of_items (list_at lists list) lists

  pub some_items : (count : ℕ) (lists : ListsView) → (some count lists).items ≡ lists.items
  some_items zero lists = refl
  some_items (suc count) lists = one_items (some count lists) ∙ some_items count lists

-- Each entry of the front of one list comes to stand in it again or in the other.
module _ (by tick turn list other : ℕ) (apart : other ≢ list) (stays : Listed → Bool)
    (home : (entry : Listed) → list_for tick turn entry ≡ cond (stays entry) list other) where
  abbrev later : Listed → Listed
  later entry = later_wake by entry

  abbrev kept : List Listed → List Listed
  kept front = later_of by stays front

  abbrev gone : List Listed → List Listed
  gone front = later_of by (λ e. not (stays e)) front

  -- those of the others that pass the test, and before them an entry where this says so
  abbrev one_more : Listed → List Listed → Bool → (Listed → Bool) → List Listed
  one_more entry others b p = map later (cond b (entry ∷ filter (λ e. p (later e)) others) (filter (λ e. p (later e)) others))

  abbrev moved : ℕ → ListsView → ListsView
  moved count lists = first_ones_later by tick turn list count lists

  one_of : (entry : Listed) (rest : List Listed) (lists : ListsView) → list < length lists.lists → other < length lists.lists
      → list_at lists list ≡ entry ∷ rest
      → (list_at (first_later by tick turn list lists) list ≡ cond (stays (later entry)) (rest ++ later entry ∷ []) rest)
      × (list_at (first_later by tick turn list lists) other ≡ cond (stays (later entry)) (list_at lists other) (list_at lists other ++ later entry ∷ []))
  unfolding first_later
  one_of entry rest lists low low2 is =
      let x = later entry in
      let step = λ (l : ℕ). ap (λ es. list_at (first_later_of by tick turn list es lists) l) is ∙ ap (λ h. list_at (with_last h x cut) l) (home x) in
      (step list ∙ (at (stays x)).0, step other ∙ (at (stays x)).1)
    where
      cut : ListsView
      cut = with_list list rest lists

      low_cut : (l : ℕ) → l < length lists.lists → l < length cut.lists
      low_cut l within = omega (arith, within, length-set lists.lists list rest)

      here : list_at cut list ≡ rest
      here = get_or-set_same lists.lists list rest [] low

      there : list_at cut other ≡ list_at lists other
      there = get_or-set_other lists.lists list other rest [] apart

      at : (b : Bool) → (list_at (with_last (cond b list other) (later entry) cut) list ≡ cond b (rest ++ later entry ∷ []) rest)
          × (list_at (with_last (cond b list other) (later entry) cut) other ≡ cond b (list_at lists other) (list_at lists other ++ later entry ∷ []))
      at true = (
        get_or-set_same cut.lists list (list_at cut list ++ later entry ∷ []) [] (low_cut list low) ∙ ap (λ es. es ++ later entry ∷ []) here,
        get_or-set_other cut.lists list other (list_at cut list ++ later entry ∷ []) [] apart ∙ there,
      )
      at false = (
        get_or-set_other cut.lists other list (list_at cut other ++ later entry ∷ []) [] (λ same. apart (sym same)) ∙ here,
        get_or-set_same cut.lists other (list_at cut other ++ later entry ∷ []) [] (low_cut other low2) ∙ ap (λ es. es ++ later entry ∷ []) there,
      )

  -- as many of them as the front has
  pub all_of : (front rest : List Listed) (lists : ListsView) → list < length lists.lists → other < length lists.lists → list_at lists list ≡ front ++ rest
      → (list_at (moved (length front) lists) list ≡ rest ++ kept front) × (list_at (moved (length front) lists) other ≡ list_at lists other ++ gone front)
  all_of [] rest lists low low2 is = (is ∙ sym (append-nil rest), sym (append-nil (list_at lists other)))
  all_of (entry ∷ front) rest lists low low2 is = at (stays x) refl (λ more so. all_of front more next on on2 so)
    where
      x : Listed
      x = later entry

      next : ListsView
      next = first_later by tick turn list lists

      on : list < length next.lists
      on = omega (arith, low, one_two by tick turn list lists)

      on2 : other < length next.lists
      on2 = omega (arith, low2, one_two by tick turn list lists)

      turned : (l : ℕ) → list_at (moved (length (entry ∷ front)) lists) l ≡ list_at (moved (length front) next) l
      turned l = ap (λ (v : ListsView). list_at v l) (sym (some_more by tick turn list (length front) lists))

      stepped : (list_at next list ≡ cond (stays x) ((front ++ rest) ++ x ∷ []) (front ++ rest))
          × (list_at next other ≡ cond (stays x) (list_at lists other) (list_at lists other ++ x ∷ []))
      stepped = one_of entry (front ++ rest) lists low low2 is

      at : (b : Bool) → stays x ≡ b
          → ((more : List Listed) → list_at next list ≡ front ++ more → (list_at (moved (length front) next) list ≡ more ++ kept front)
          × (list_at (moved (length front) next) other ≡ list_at next other ++ gone front))
          → (list_at (moved (length (entry ∷ front)) lists) list ≡ rest ++ kept (entry ∷ front))
          × (list_at (moved (length (entry ∷ front)) lists) other ≡ list_at lists other ++ gone (entry ∷ front))
      at true is_kept others_of =
          let first = stepped.0 ∙ ap (λ b. cond b ((front ++ rest) ++ x ∷ []) (front ++ rest)) is_kept ∙ append_assoc front rest (x ∷ []) in
          let second = stepped.1 ∙ ap (λ b. cond b (list_at lists other) (list_at lists other ++ x ∷ [])) is_kept in
          let others = others_of (rest ++ x ∷ []) first in (
            turned list ∙ others.0 ∙ append_assoc rest (x ∷ []) (kept front) ∙ ap (λ b. rest ++ one_more entry front b stays) (sym is_kept),
            turned other ∙ others.1 ∙ ap (λ es. es ++ gone front) second
                ∙ ap (λ b. list_at lists other ++ one_more entry front (not b) (λ e. not (stays e))) (sym is_kept),
          )
      at false is_gone others_of =
          let first = stepped.0 ∙ ap (λ b. cond b ((front ++ rest) ++ x ∷ []) (front ++ rest)) is_gone in
          let second = stepped.1 ∙ ap (λ b. cond b (list_at lists other) (list_at lists other ++ x ∷ [])) is_gone in
          let others = others_of rest first in (
            turned list ∙ others.0 ∙ ap (λ b. rest ++ one_more entry front b stays) (sym is_gone),
            turned other ∙ others.1 ∙ ap (λ es. es ++ gone front) second ∙ append_assoc (list_at lists other) (x ∷ []) (gone front)
                ∙ ap (λ b. list_at lists other ++ one_more entry front (not b) (λ e. not (stays e))) (sym is_gone),
          )

-- ---- one wake
module _ (by tick key : ℕ) (tick_low : tick < 2 ^ 32) (low : key < 2 ^ 32) where
  -- a wake so many ticks later is the one that as many ticks are left to
  wake_kept : (later_tick by tick + ticks_to tick key) % 2 ^ 32 ≡ later_tick by key
  wake_kept = omega (arith, tick_low, low)

  -- and it comes before the tick count wraps where it is none before
  turn_kept : not (ltb (later_tick by key) (later_tick by tick)) ≡ ltb (later_tick by tick + ticks_to tick key) (2 ^ 32)
  turn_kept = elim (cases_lt (later_tick by tick + ticks_to tick key) (2 ^ 32)) [
    | inl soon ↦ let ahead : later_tick by tick ≤ later_tick by key = omega (arith, soon, wake_kept) in grind (arith, nat_tests, ahead, soon)
    | inr late ↦ let passed : later_tick by key < later_tick by tick = omega (arith, late, tick_low, wake_kept) in grind (arith, nat_tests, passed, late)
  ]

-- ---- entries with later wakes by what they stand for
module _ (by tick : ℕ) (tick_low : tick < 2 ^ 32) where
  abbrev now : ℕ
  now = later_tick by tick

  listed_later : (xs : List Listed) → AllByRecursion (λ e. e.key < 2 ^ 32) xs → map (listed_at now) (map (delayed_at tick) xs) ≡ map (later_wake by) xs
  listed_later [] low = refl
  listed_later (x ∷ xs) low =
      ap (λ n. record { item = x.item; key = n } ∷ map (listed_at now) (map (delayed_at tick) xs)) (wake_kept by tick x.key tick_low low.0)
      ∙ ap (λ es. later_wake by x ∷ es) (listed_later xs low.1)

  -- those that pass a test of their later wakes are those that pass it by their ticks left
  passed_later : (p : Listed → Bool) (q : Delayed → Bool) → ((e : Listed) → e.key < 2 ^ 32 → p (later_wake by e) ≡ q (delayed_at tick e)) → (xs : List Listed)
      → AllByRecursion (λ e. e.key < 2 ^ 32) xs
      → later_of by p xs ≡ map (listed_at now) (filter q (map (delayed_at tick) xs))
  passed_later p q same xs low =
      sym (listed_later (filter (λ e. p (later_wake by e)) xs) (All-filter (λ e. e.key < 2 ^ 32) (λ e. p (later_wake by e)) xs low))
      ∙ ap (λ es. map (listed_at now) (map (delayed_at tick) es))
      (filter_agrees (λ e. p (later_wake by e)) (λ e. q (delayed_at tick e)) xs
      (All-weaker (λ e. e.key < 2 ^ 32) (λ e. p (later_wake by e) ≡ q (delayed_at tick e)) same xs low))
      ∙ ap (map (listed_at now)) (sym (filter-map q (delayed_at tick) xs))

-- ---- both lists
module _ (by tick turn : ℕ) (lists : ListsView) (tick_low : tick < 2 ^ 32) (turn_low : turn < 2) (two : length lists.lists ≡ 2)
    (low : AllByRecursion (λ e. e.key < 2 ^ 32) (list_at lists turn)) (low2 : AllByRecursion (λ e. e.key < 2 ^ 32) (list_at lists (1 - turn))) where
  abbrev pub then : ℕ
  then = later_tick by tick

  abbrev pub this : List Listed
  this = list_at lists turn

  abbrev pub next : List Listed
  next = list_at lists (1 - turn)

  abbrev half : ListsView
  half = first_ones_later by then turn turn (length this) lists

  abbrev pub after : ListsView
  after = all_later by then turn lists

  abbrev pub passed : Listed → Bool
  passed e = ltb e.key then

  abbrev pub ahead : Listed → Bool
  ahead e = not (passed e)

  apart : 1 - turn ≢ turn
  apart same = omega (arith, turn_low, same)

  home : (e : Listed) → list_for then turn e ≡ cond (ahead e) turn (1 - turn)
  home e = at (passed e)
    where
      at : (b : Bool) → cond b (1 - turn) turn ≡ cond (not b) turn (1 - turn)
      at true = refl
      at false = refl

  twice : (xs : List Listed) → filter (λ e. not (ahead (later_wake by e))) xs ≡ filter (λ e. passed (later_wake by e)) xs
  twice xs = filter_agrees (λ e. not (ahead (later_wake by e))) (λ e. passed (later_wake by e)) xs
      (All_each (λ e. not (ahead (later_wake by e)) ≡ passed (later_wake by e)) (λ e. grind arith) xs)

  first_half : (list_at half turn ≡ later_of by ahead this) × (list_at half (1 - turn) ≡ next ++ later_of by passed this)
  first_half =
      let both = all_of by then turn turn (1 - turn) apart ahead home this [] lists (omega (arith, turn_low, two)) (omega (arith, two))
      (sym (append-nil this)) in
      (both.0, both.1 ∙ ap (λ es. next ++ map (later_wake by) es) (twice this))

  pub second_half : (list_at after (1 - turn) ≡ later_of by passed this ++ later_of by passed next)
      × (list_at after turn ≡ later_of by ahead this ++ later_of by ahead next)
  second_half =
      let sized = some_two by then turn turn (length this) lists in
      let both = all_of by then turn (1 - turn) turn (λ same. apart (sym same)) passed (λ e. refl) next (later_of by passed this) half
      (omega (arith, two, sized)) (omega (arith, turn_low, two, sized)) first_half.1 in
      (both.0, both.1 ∙ ap (λ es. es ++ later_of by ahead next) first_half.0)

  abbrev seen : List Delayed
  seen = map (delayed_at tick) (this ++ next)

  joined : (p : Listed → Bool) → later_of by p this ++ later_of by p next ≡ later_of by p (this ++ next)
  joined p = sym (ap (map (later_wake by)) (filter-append (λ e. p (later_wake by e)) this next)
      ∙ map-append (later_wake by) (filter (λ e. p (later_wake by e)) this) (filter (λ e. p (later_wake by e)) next))

  low_both : AllByRecursion (λ e. e.key < 2 ^ 32) (this ++ next)
  low_both = All-append (λ e. e.key < 2 ^ 32) this next low low2

  -- each list has the tasks that wake in its turn
  pub this_later : list_at after turn ≡ map (listed_at then) (filter (wakes_this_turn then) seen)
  this_later = second_half.1 ∙ joined ahead
      ∙ passed_later by tick tick_low ahead (wakes_this_turn then) (λ e few. turn_kept by tick e.key tick_low few) (this ++ next) low_both

  pub next_later : list_at after (1 - turn) ≡ map (listed_at then) (filter (λ d. not (wakes_this_turn then d)) seen)
  next_later = second_half.0 ∙ joined passed
      ∙ passed_later by tick tick_low passed (λ d. not (wakes_this_turn then d)) (λ e few. sym (grind (arith, turn_kept by tick e.key tick_low few)))
      (this ++ next) low_both

-- ---- the delays that two lists stand for are in the order of ticks left
module _ (tasks tick : ℕ) (this next : List Listed) (tick_low : tick < 2 ^ 32) (turns : IsTwoTurns tasks tick this next) where
  in_turn : (P : Listed → Type 0) → ((a b : Listed) → P a → P b → wakes_first (delayed_at tick a) (delayed_at tick b) ≡ lowest_first a b) → (xs : List Listed)
      → AllByRecursion P xs → ranked lowest_first xs ≡ xs → IsOrdered wakes_first (map (delayed_at tick) xs)
  in_turn P keeps xs all order =
      subst (IsOrdered wakes_first) (sym (map-ranked lowest_first wakes_first (delayed_at tick) P keeps xs all) ∙ ap (map (delayed_at tick)) order)
      (ordered-ranked wakes_first wakes_first-IsRank (map (delayed_at tick) xs))

  abbrev InThisTurn : Listed → Type 0
  InThisTurn e = (tick ≤ e.key) × (e.key < 2 ^ 32)

  across : (e : Listed) → InThisTurn e → AllByRecursion (λ y. wakes_first (delayed_at tick e) y ≡ true) (map (delayed_at tick) next)
  across e here =
      All-map (λ y. wakes_first (delayed_at tick e) y ≡ true) (delayed_at tick) next
      (All-weaker (λ y. y.key < tick) (λ y. wakes_first (delayed_at tick e) (delayed_at tick y) ≡ true)
      (λ y there. ap (λ n. leb n (ticks_to tick y.key)) (this_left tick e.key here.0 here.1) ∙ ap (leb (e.key - tick)) (next_left tick y.key tick_low there)
      ∙ grind (arith, nat_tests, here.0, here.1, there)) next turns.next_turn)

  pub seen_ordered : IsOrdered wakes_first (map (delayed_at tick) (this ++ next))
  seen_ordered =
      subst (IsOrdered wakes_first) (sym (map-append (delayed_at tick) this next))
      (IsOrdered-append wakes_first (map (delayed_at tick) this) (map (delayed_at tick) next)
      (in_turn InThisTurn (this_order_kept tick) this turns.this_turn turns.this_order)
      (in_turn (λ e. e.key < tick) (next_order_kept tick tick_low) next turns.next_turn turns.next_order)
      (All-map (λ x. AllByRecursion (λ y. wakes_first x y ≡ true) (map (delayed_at tick) next)) (delayed_at tick) this
      (All-weaker InThisTurn (λ e. AllByRecursion (λ y. wakes_first (delayed_at tick e) y ≡ true)
      (map (delayed_at tick) next)) across this turns.this_turn)))

-- ---- two lists that are made of such delays
module _ (tasks tick : ℕ) (delayed : List Delayed) (tick_low : tick < 2 ^ 32) (waiting : IsListing tasks (map (λ (e : Delayed). e.task) delayed))
    (few : AllByRecursion (λ (e : Delayed). e.left < 2 ^ 32) delayed) (ordered : IsOrdered wakes_first delayed) where
  abbrev now_this : List Delayed
  now_this = filter (wakes_this_turn tick) delayed

  abbrev now_next : List Delayed
  now_next = filter (λ d. not (wakes_this_turn tick d)) delayed

  -- those of this turn stand in front of the others
  in_parts : now_this ++ now_next ≡ delayed
  in_parts =
      ordered_parts (wakes_this_turn tick) delayed
      (IsOrdered-weaker wakes_first (λ x y. wakes_this_turn tick x || not (wakes_this_turn tick y)) (λ (e : Delayed). e.left < 2 ^ 32)
      (λ x y h k first. sooner x y first) delayed few ordered)
    where
      sooner : (x y : Delayed) → wakes_first x y ≡ true → (wakes_this_turn tick x || not (wakes_this_turn tick y)) ≡ true
      sooner x y first = grind (arith, nat_tests, first)

  items_listed : (ds : List Delayed) → items_of (map (listed_at tick) ds) ≡ map (λ (e : Delayed). e.task) ds
  items_listed [] = refl
  items_listed (d ∷ ds) = ap (λ ns. d.task ∷ ns) (items_listed ds)

  abbrev IsThis : Delayed → Type 0
  IsThis d = (d.left < 2 ^ 32) × (wakes_this_turn tick d ≡ true)

  abbrev IsNext : Delayed → Type 0
  IsNext d = (d.left < 2 ^ 32) × (not (wakes_this_turn tick d) ≡ true)

  all_this : AllByRecursion IsThis now_this
  all_this = All-both (λ (d : Delayed). d.left < 2 ^ 32) (λ d. wakes_this_turn tick d ≡ true) now_this
      (All-filter (λ (d : Delayed). d.left < 2 ^ 32) (wakes_this_turn tick) delayed few) (All-filter_passes (wakes_this_turn tick) delayed)

  all_next : AllByRecursion IsNext now_next
  all_next =
      All-both (λ (d : Delayed). d.left < 2 ^ 32) (λ d. not (wakes_this_turn tick d) ≡ true) now_next
      (All-filter (λ (d : Delayed). d.left < 2 ^ 32) (λ d. not (wakes_this_turn tick d)) delayed few)
      (All-filter_passes (λ d. not (wakes_this_turn tick d)) delayed)

  soon : (d : Delayed) → IsThis d → tick + d.left < 2 ^ 32
  soon d h = grind (arith, nat_tests, h.1)

  late : (d : Delayed) → IsNext d → 2 ^ 32 ≤ tick + d.left
  late d h = grind (arith, nat_tests, h.1)

  soon_key : (d : Delayed) → IsThis d → (listed_at tick d).key ≡ tick + d.left
  soon_key d h = let s = soon d h in omega (arith, s)

  late_key : (d : Delayed) → IsNext d → (listed_at tick d).key ≡ tick + d.left - 2 ^ 32
  late_key d h = let s = late d h in omega (arith, s, h.0, tick_low)

  this_so : (a b : Delayed) → IsThis a → IsThis b → lowest_first (listed_at tick a) (listed_at tick b) ≡ wakes_first a b
  this_so a b h k = ap (λ n. leb n (listed_at tick b).key) (soon_key a h) ∙ ap (leb (tick + a.left)) (soon_key b k) ∙ grind (arith, nat_tests)

  next_so : (a b : Delayed) → IsNext a → IsNext b → lowest_first (listed_at tick a) (listed_at tick b) ≡ wakes_first a b
  next_so a b h k =
      let s = late a h in
      let t = late b k in
      ap (λ n. leb n (listed_at tick b).key) (late_key a h) ∙ ap (leb (tick + a.left - 2 ^ 32)) (late_key b k) ∙ grind (arith, nat_tests, s, t)

  still_ranked : (p : Delayed → Bool) (P : Delayed → Type 0)
      → ((a b : Delayed) → P a → P b → lowest_first (listed_at tick a) (listed_at tick b) ≡ wakes_first a b) → AllByRecursion P (filter p delayed)
      → ranked lowest_first (map (listed_at tick) (filter p delayed)) ≡ map (listed_at tick) (filter p delayed)
  still_ranked p P keeps all =
      sym (map-ranked wakes_first lowest_first (listed_at tick) P keeps (filter p delayed) all)
      ∙ ap (map (listed_at tick)) (ranked-ordered wakes_first wakes_first-IsRank (filter p delayed) (IsOrdered-filter wakes_first p delayed ordered))

  pub turns_of : IsTwoTurns tasks tick (map (listed_at tick) now_this) (map (listed_at tick) now_next)
  turns_of = record {
    waiting_tasks = subst (IsListing tasks) (sym
        (ap items_of (sym (map-append (listed_at tick) now_this now_next) ∙ ap (map (listed_at tick)) in_parts) ∙ items_listed delayed)) waiting;
    this_turn = All-map (λ e. (tick ≤ e.key) × (e.key < 2 ^ 32)) (listed_at tick) now_this
        (All-weaker IsThis (λ d. (tick ≤ (listed_at tick d).key) × ((listed_at tick d).key < 2 ^ 32))
        (λ d h. let is = soon_key d h in let s = soon d h in (omega (arith, is), omega (arith, is, s))) now_this all_this);
    next_turn = All-map (λ e. e.key < tick) (listed_at tick) now_next
        (All-weaker IsNext (λ d. (listed_at tick d).key < tick)
        (λ d h. let is = late_key d h in let s = late d h in omega (arith, is, s, h.0)) now_next all_next);
    this_order = still_ranked (wakes_this_turn tick) IsThis this_so all_this;
    next_order = still_ranked (λ d. not (wakes_this_turn tick d)) IsNext next_so all_next;
  }

  seen_back : (ds : List Delayed) → AllByRecursion (λ (d : Delayed). d.left < 2 ^ 32) ds → map (delayed_at tick) (map (listed_at tick) ds) ≡ ds
  seen_back [] low = refl
  seen_back (d ∷ ds) low =
      let left : ticks_to tick (listed_at tick d).key ≡ d.left = omega (arith, tick_low, low.0) in
      ap (λ n. record { task = d.task; left = n } ∷ map (delayed_at tick) (map (listed_at tick) ds)) left ∙ ap (λ es. d ∷ es) (seen_back ds low.1)

  -- the delays that they stand for
  pub seen_of : map (delayed_at tick) (map (listed_at tick) now_this ++ map (listed_at tick) now_next) ≡ delayed
  seen_of = ap (map (delayed_at tick)) (sym (map-append (listed_at tick) now_this now_next) ∙ ap (map (listed_at tick)) in_parts) ∙ seen_back delayed few

-- ---- all together
module _ (by tasks tick turn : ℕ) (lists : ListsView) (shape : IsDelayShape tasks tick turn lists) where
  this_low : AllByRecursion (λ e. e.key < 2 ^ 32) (list_at lists turn)
  this_low = All-weaker (λ e. (tick ≤ e.key) × (e.key < 2 ^ 32)) (λ e. e.key < 2 ^ 32) (λ e h. h.1) (list_at lists turn) shape.turns.this_turn

  next_low : AllByRecursion (λ e. e.key < 2 ^ 32) (list_at lists (1 - turn))
  next_low = let tick_low = shape.tick_low in All-weaker (λ e. e.key < tick) (λ e. e.key < 2 ^ 32) (λ e h. omega (arith, h, tick_low))
      (list_at lists (1 - turn)) shape.turns.next_turn

  abbrev waits : List Delayed
  waits = map (delayed_at tick) (from_list turn lists)

  some_left : AllByRecursion (λ (d : Delayed). d.left < 2 ^ 32) waits
  some_left = All-map (λ (d : Delayed). d.left < 2 ^ 32) (delayed_at tick) (from_list turn lists)
      (All_each (λ (e : Listed). ticks_to tick e.key < 2 ^ 32) (λ e. omega arith) (from_list turn lists))

  still_waiting : IsListing tasks (map (λ (e : Delayed). e.task) waits)
  still_waiting = subst (IsListing tasks) (sym (tasks_seen tick (from_list turn lists))) shape.turns.waiting_tasks

  in_order : IsOrdered wakes_first waits
  in_order = seen_ordered tasks tick (list_at lists turn) (list_at lists (1 - turn)) shape.tick_low shape.turns

  this_made : list_at (all_later by (later_tick by tick) turn lists) turn ≡ map (listed_at (later_tick by tick))
      (filter (wakes_this_turn (later_tick by tick)) waits)
  this_made = this_later by tick turn lists shape.tick_low shape.turn_low shape.both this_low next_low

  next_made : list_at (all_later by (later_tick by tick) turn lists) (1 - turn) ≡ map (listed_at (later_tick by tick))
      (filter (λ d. not (wakes_this_turn (later_tick by tick) d)) waits)
  next_made = next_later by tick turn lists shape.tick_low shape.turn_low shape.both this_low next_low

  then_low : later_tick by tick < 2 ^ 32
  then_low = omega arith

  pub shape_later : IsDelayShape tasks (later_tick by tick) turn (all_later by (later_tick by tick) turn lists)
  shape_later = record {
    turn_low = shape.turn_low;
    tick_low = then_low;
    items = some_items by (later_tick by tick) turn (1 - turn) (length (list_at lists (1 - turn)))
        (first_ones_later by (later_tick by tick) turn turn (length (list_at lists turn)) lists)
        ∙ some_items by (later_tick by tick) turn turn (length (list_at lists turn)) lists ∙ shape.items;
    both = some_two by (later_tick by tick) turn (1 - turn) (length (list_at lists (1 - turn)))
        (first_ones_later by (later_tick by tick) turn turn (length (list_at lists turn)) lists)
        ∙ some_two by (later_tick by tick) turn turn (length (list_at lists turn)) lists ∙ shape.both;
    turns = rw (this_made, next_made) (turns_of tasks (later_tick by tick) waits then_low still_waiting some_left in_order);
  }

  pub seen_later : seen_delays tasks (later_tick by tick) turn (all_later by (later_tick by tick) turn lists) ≡ shifted_delays by
      (seen_delays tasks tick turn lists)
  seen_later =
      ap (λ ds. record { tasks = tasks; tick = later_tick by tick; turn = turn; delayed = ds })
      (ap (λ es. map (delayed_at (later_tick by tick)) (es ++ list_at (all_later by (later_tick by tick) turn lists) (1 - turn))) this_made
      ∙ ap (λ es. map (delayed_at (later_tick by tick))
      (map (listed_at (later_tick by tick)) (filter (wakes_this_turn (later_tick by tick)) waits) ++ es)) next_made
      ∙ seen_of tasks (later_tick by tick) waits then_low still_waiting some_left in_order)
