-- What is read off the fields: the list of an item, who is first, who is next.
use Rattle.std.proofs.Common.{◌≡◌, ℕ, zero, suc, ◌+◌, ◌-◌, ◌<◌, ◌≤◌, ◌^◌, Bool, true, false, cond, not, eqb, ltb, List, [], ◌∷◌, ◌++◌, length, map, replicate}
use Rattle.std.proofs.Common.{set, get_or, take, drop, Option, Some, None, is_some, option_map, unwrap_or, refl, sym, ap, subst, ◌∙◌, zero-add, arith}
use Rattle.std.specs.List.{find, position_or_len, after_first, insert, AllByRecursion}
use Rattle.std.proofs.lemmas.Bool.Decides.{nat_tests}
use Rattle.std.proofs.lemmas.List.{take-append-drop, get_or_past, get_or_read, get_or-map, length-map, ext_get_or}
use Rattle.std.proofs.lemmas.Option.{unwrap_or-slice_get}
use Rattle.std.proofs.lemmas.List.{length-replicate}
use Rattle.std.proofs.lemmas.List.Folds.{find_at}
use Rattle.std.proofs.lemmas.List.FromFn.{length-range_with_len, get_or-range_with_len}
use Rattle.list_orders.specs.Search.{numbers}
use Rattle.index_lists.specs.declared.links.Link.{Link}
use Rattle.index_lists.specs.declared.links.Home.{Home}
use Rattle.index_lists.specs.Listed.{Listed, ListsView, items_of, has_item, without_item, list_of, key_of, first_of, next_of}
use Rattle.index_lists.specs.Rings.{nexts, prevs, IsRing, first_or, last_or}
use Rattle.index_lists.specs.Shape.{home_at, is_home, seen_lists, IsShape, StandFor}
use Rattle.index_lists.proofs.Paths.{ring_after, ring_before, distinct_nil}
use Rattle.index_lists.proofs.Fields.{row_at, item_low, walked}
use Rattle.index_lists.proofs.Moves.{items_of-append, stand_inserted, stand_removed, none_gone, split_there, prev_low, next_low, before_low, after_low}
use Rattle.index_lists.proofs.Moves.{stands_before, stands_after, one_there, left_apart, has-parts}

-- ---- between the fields and what is seen of them
pub seen_stand : (items : ℕ) (links : List Link) (homes : List (Option Home)) (lens : List ℕ) (view : ListsView) → seen_lists items links homes lens ≡ view →
    IsShape items links homes lens → StandFor view.items (nexts links) (prevs links) homes lens view.lists
seen_stand items links homes lens view is shape = subst (λ (v : ListsView). StandFor v.items (nexts links) (prevs links) homes lens v.lists) is shape

module _ (items : ℕ) (links : List Link) (homes : List (Option Home)) (lens : List ℕ) (lists : List (List Listed))
    (stand : StandFor items (nexts links) (prevs links) homes lens lists) where
  pub shaped : IsShape items links homes lens
  shaped = subst (StandFor items (nexts links) (prevs links) homes lens) (sym (walked items (nexts links) (prevs links) homes lens lists stand)) stand

  pub shows : seen_lists items links homes lens ≡ record { items = items; lists = lists }
  shows = ap (λ ls. record { items = items; lists = ls }) (walked items (nexts links) (prevs links) homes lens lists stand)

-- ---- searches that one place passes
place_found : {X : Type 0} (p : X → Bool) (xs : List X) (n : ℕ) (d : X) → n < length xs → ((k : ℕ) → k < length xs → p (get_or xs k d) ≡ eqb n k) →
    position_or_len p xs ≡ n
place_found p [] n d low one = absurd (omega arith)
place_found p (x ∷ xs) zero d low one = grind (arith, nat_tests, one 0 (omega arith))
place_found p (x ∷ xs) (suc n) d low one =
    let here : p x ≡ false = one 0 (omega arith) ∙ grind (arith, nat_tests) in
    let rest : position_or_len p xs ≡ n = place_found p xs n d (omega arith) (λ k within. one (suc k) (omega arith) ∙ grind (arith, nat_tests)) in
    let more : 1 + n ≡ suc n = omega arith in
    grind (arith, here, rest, more)

none_found : {X : Type 0} (p : X → Bool) (xs : List X) (d : X) → ((k : ℕ) → k < length xs → p (get_or xs k d) ≡ false) → position_or_len p xs ≡ length xs
none_found p [] d none = refl
none_found p (x ∷ xs) d none =
    let here : p x ≡ false = none 0 (omega arith) in
    let rest : position_or_len p xs ≡ length xs = none_found p xs d (λ k within. none (suc k) (omega arith)) in
    let more : 1 + length xs ≡ suc (length xs) = omega arith in
    grind (arith, here, rest, more)

-- what stands after an item
after_here : (p : Listed → Bool) (x : Listed) (xs : List Listed) → p x ≡ true → after_first p (x ∷ xs) ≡ xs
after_here p x xs passes = ap (λ b. drop (cond (not b) (1 + position_or_len p xs) 0 + 1) (x ∷ xs)) passes

after_later : (p : Listed → Bool) (x : Listed) (xs : List Listed) → p x ≡ false → after_first p (x ∷ xs) ≡ after_first p xs
after_later p x xs fails =
    let more : (1 + position_or_len p xs) + 1 ≡ suc (position_or_len p xs + 1) = omega arith in
    ap (λ b. drop (cond (not b) (1 + position_or_len p xs) 0 + 1) (x ∷ xs)) fails ∙ ap (λ m. drop m (x ∷ xs)) more

after-parts : (item key : ℕ) (xs ys : List Listed) → has_item item xs ≡ false → after_first (λ (e : Listed). eqb e.item item)
    (xs ++ record { item = item; key = key } ∷ ys) ≡ ys
after-parts item key [] ys away = after_here (λ (e : Listed). eqb e.item item) (record { item = item; key = key }) ys (grind (arith, nat_tests))
after-parts item key (x ∷ xs) ys away =
    after_later (λ (e : Listed). eqb e.item item) x (xs ++ record { item = item; key = key } ∷ ys) (grind (arith, away)) ∙ after-parts item key xs ys
    (grind (arith, away))

-- what a search for an item finds
find-parts : (item key : ℕ) (xs ys : List Listed) → has_item item xs ≡ false → find (λ (e : Listed). eqb e.item item)
    (xs ++ record { item = item; key = key } ∷ ys) ≡ Some (record { item = item; key = key })
find-parts item key [] ys away = ap (λ b. cond b (Some (record { item = item; key = key })) (find (λ (e : Listed). eqb e.item item) ys))
    (let itself : eqb item item ≡ true = grind (arith, nat_tests) in itself)
find-parts item key (x ∷ xs) ys away = grind (arith, away, find-parts item key xs ys)

All-middle : (P : Listed → Type 0) (xs : List Listed) (x : Listed) (ys : List Listed) → AllByRecursion P (xs ++ x ∷ ys) → P x
All-middle P [] x ys all = all.0
All-middle P (z ∷ xs) x ys all = All-middle P xs x ys all.1

module _ (items : ℕ) (named named_back : List ℕ) (homes : List (Option Home)) (lens : List ℕ) (lists : List (List Listed))
    (stand : StandFor items named named_back homes lens lists) where
  -- the list that holds an item, by its home
  pub holder_at : (item : ℕ) (home : Home) → home_at homes item ≡ Some home → (k : ℕ) → k < length lists → has_item item (row_at lists k) ≡ eqb home.list k
  holder_at item home is k low = stand.at_home item k low ∙ ap (λ h. is_home h k) is

  held_nowhere : (item : ℕ) → home_at homes item ≡ None → (k : ℕ) → k < length lists → has_item item (row_at lists k) ≡ false
  held_nowhere item is k low = stand.at_home item k low ∙ ap (λ h. is_home h k) is

  held_place : (item : ℕ) (home : Home) → home_at homes item ≡ Some home → position_or_len (has_item item) lists ≡ home.list
  held_place item home is = place_found (has_item item) lists home.list [] (stand.within item home is) (holder_at item home is)

  no_place : (item : ℕ) → home_at homes item ≡ None → position_or_len (has_item item) lists ≡ length lists
  no_place item is = none_found (has_item item) lists [] (held_nowhere item is)

  abbrev view : ListsView
  view = record { items = items; lists = lists }

  pub list_of_home : (item : ℕ) (home : Home) → home_at homes item ≡ Some home → list_of item view ≡ Some home.list
  list_of_home item home is =
      ap (λ n. cond (ltb n (length lists)) (Some n) None) (held_place item home is)
      ∙ ap (λ b. cond b (Some home.list) None) (let within : ltb home.list (length lists) ≡ true = let low = stand.within item home is in grind
      (arith, nat_tests, low) in within)

  pub list_of_none : (item : ℕ) → home_at homes item ≡ None → list_of item view ≡ None
  list_of_none item is =
      ap (λ n. cond (ltb n (length lists)) (Some n) None) (no_place item is)
      ∙ ap (λ b. cond b (Some (length lists)) None) (let over : ltb (length lists) (length lists) ≡ false = grind (arith, nat_tests) in over)

  -- an item in no list has no home
  pub homeless : (item : ℕ) → list_of item view ≡ None → home_at homes item ≡ None
  homeless item free = at (home_at homes item) refl
    where
      at : (h : Option Home) → home_at homes item ≡ h → h ≡ None
      at None is = refl
      at (Some home) is = absurd (cc (list_of_home item home is, free))

  -- ---- who is first, who is next
  pub item_or_none : (l : ℕ) (row : List Listed) → ((m : ℕ) → has_item m row ≡ true → m < items) → cond (ltb (first_or (items + l) (items_of row)) items)
      (Some (first_or (items + l) (items_of row))) None ≡ first_of row
  item_or_none l [] low = ap (λ b. cond b (Some (items + l)) None) (let past : ltb (items + l) items ≡ false = grind (arith, nat_tests) in past)
  item_or_none l (e ∷ row) low =
      ap (λ b. cond b (Some e.item) None) (let within : ltb e.item items ≡ true = let less : e.item < items = low e.item (grind (arith, nat_tests)) in grind
      (arith, nat_tests, less) in within)

  pub first_at : (l : ℕ) → l < length lists → cond (ltb (get_or named (items + l) 0) items) (Some (get_or named (items + l) 0)) None ≡ first_of (row_at lists l)
  first_at l low =
      ap (λ n. cond (ltb n items) (Some n) None) (ring_after named named_back (items + l) [] (items_of (row_at lists l)) (stand.rings l low))
      ∙ item_or_none l (row_at lists l) (λ m there. item_low items named named_back homes lens lists stand l m low there)

  held_in : (item : ℕ) (home : Home) → home_at homes item ≡ Some home → has_item item (row_at lists home.list) ≡ true
  held_in item home is = holder_at item home is home.list (stand.within item home is) ∙ grind (arith, nat_tests)

  found_at : (item : ℕ) (n : ℕ) → position_or_len (has_item item) lists ≡ n → unwrap_or (find (has_item item) lists) [] ≡ row_at lists n
  found_at item n is = ap (λ o. unwrap_or o []) (find_at (has_item item) lists) ∙ unwrap_or-slice_get lists (position_or_len (has_item item) lists) [] ∙ ap
      (row_at lists) is

  pub next_at : (item : ℕ) (home : Home) → home_at homes item ≡ Some home → cond (ltb (get_or named item 0) items) (Some (get_or named item 0)) None ≡ next_of
      item view
  next_at item home is =
      let l = home.list in
      let low = stand.within item home is in
      let cut = split_there item (row_at lists l) (held_in item home is) in
      let xs = cut.0 in
      let ys = cut.1 in
      let key = cut.2 in
      let apart : has_item item xs ≡ false = left_apart items named named_back homes lens lists stand l item key xs ys low cut.3 in
      let below = λ (m : ℕ) (there : has_item m ys ≡ true). item_low items named named_back homes lens lists stand l m low
      (ap (has_item m) cut.3 ∙ grind (arith, there, has-parts m xs (record { item = item; key = key } ∷ ys))) in
      ap (λ n. cond (ltb n items) (Some n) None) (stands_after items named named_back homes lens lists stand l item key xs ys low cut.3)
      ∙ item_or_none l ys below
      ∙ ap first_of (sym (ap (after_first (λ (e : Listed). eqb e.item item)) (found_at item l (held_place item home is) ∙ cut.3) ∙ after-parts item key xs ys
      apart))

  -- of an item that is in a list
  pub next_found : (item : ℕ) → is_some (list_of item view) ≡ true → cond (ltb (get_or named item 0) items) (Some (get_or named item 0)) None ≡ next_of item
      view
  next_found item listed = at (home_at homes item) refl
    where
      at : (h : Option Home) → home_at homes item ≡ h → cond (ltb (get_or named item 0) items) (Some (get_or named item 0)) None ≡ next_of item view
      at (Some home) is = next_at item home is
      at None is = absurd (cc (ap is_some (list_of_none item is), listed))

  pub next_none : (item : ℕ) → home_at homes item ≡ None → next_of item view ≡ None
  next_none item is = ap (λ row. first_of (after_first (λ (e : Listed). eqb e.item item) row))
      (found_at item (length lists) (no_place item is) ∙ get_or_past lists (length lists) [] (omega arith))

  pub key_of_home : (item : ℕ) (home : Home) → home_at homes item ≡ Some home → key_of item view ≡ Some home.key
  key_of_home item home is =
      let l = home.list in
      let low = stand.within item home is in
      let cut = split_there item (row_at lists l) (held_in item home is) in
      let xs = cut.0 in
      let ys = cut.1 in
      let key = cut.2 in
      let apart : has_item item xs ≡ false = left_apart items named named_back homes lens lists stand l item key xs ys low cut.3 in
      let keyed = All-middle (λ e. home_at homes e.item ≡ Some (record { list = l; key = e.key })) xs (record { item = item; key = key }) ys
      (subst (AllByRecursion (λ e. home_at homes e.item ≡ Some (record { list = l; key = e.key }))) cut.3 (stand.keys l low)) in
      ap (λ row. option_map (λ (e : Listed). e.key) (find (λ (e : Listed). eqb e.item item) row)) (found_at item l (held_place item home is) ∙ cut.3)
      ∙ ap (option_map (λ (e : Listed). e.key)) (find-parts item key xs ys apart)
      ∙ ap (option_map (λ (h : Home). h.key)) (sym keyed ∙ is)

  pub key_of_none : (item : ℕ) → home_at homes item ≡ None → key_of item view ≡ None
  key_of_none item is = ap (λ row. option_map (λ (e : Listed). e.key) (find (λ (e : Listed). eqb e.item item) row))
      (found_at item (length lists) (no_place item is) ∙ get_or_past lists (length lists) [] (omega arith))

  -- ---- an item comes, an item goes
  pub came : (l item key k next : ℕ) → l < length lists → item < items → list_of item view ≡ None → k ≤ length (row_at lists l) → next ≡ first_or (items + l)
      (items_of (drop k (row_at lists l))) → (next < items + length lists) × (get_or named_back next 0 < items + length lists) × StandFor items
      (set (set named (get_or named_back next 0) item) item next) (set (set named_back item (get_or named_back next 0)) next item)
      (set homes item (Some (record { list = l; key = key }))) (set lens l (get_or lens l 0 + 1))
      (set lists l (insert (row_at lists l) k (record { item = item; key = key })))
  came l item key k next low less free within is =
      let xs = take k (row_at lists l) in
      let ys = drop k (row_at lists l) in
      let away = homeless item free in
      let parts : row_at lists l ≡ xs ++ ys = sym (take-append-drop k (row_at lists l)) in
      let ring = subst (IsRing named named_back (items + l)) (ap items_of parts ∙ items_of-append xs ys) (stand.rings l low) in
      let prev_is : get_or named_back (first_or (items + l) (items_of ys)) 0 ≡ last_or (items + l) (items_of xs) = ring_before named named_back (items + l)
      (items_of xs) (items_of ys) ring in
      let P : ℕ → ℕ → Type 0 = λ p n. (n < items + length lists) × (p < items + length lists) × StandFor items (set (set named p item) item n)
      (set (set named_back item p) n item) (set homes item (Some (record { list = l; key = key }))) (set lens l (get_or lens l 0 + 1))
      (set lists l (xs ++ record { item = item; key = key } ∷ ys)) in
      subst (λ n. P (get_or named_back n 0) n) (sym is) (subst (λ p. P p (first_or (items + l) (items_of ys))) (sym prev_is) (
        next_low items named named_back homes lens lists stand l item key xs ys low less away parts,
        prev_low items named named_back homes lens lists stand l
            item key xs ys low less away parts,
        stand_inserted items named named_back homes lens lists stand l item key xs ys low less away parts,
      ))

  pub went : (item : ℕ) (home : Home) → home_at homes item ≡ Some home → (get_or named item 0 < items + length lists) ×
      (get_or named_back item 0 < items + length lists) × (0 < get_or lens home.list 0) × StandFor items
      (set named (get_or named_back item 0) (get_or named item 0)) (set named_back (get_or named item 0) (get_or named_back item 0)) (set homes item None)
      (set lens home.list (get_or lens home.list 0 - 1)) (map (without_item item) lists)
  went item home is =
      let l = home.list in
      let low = stand.within item home is in
      let cut = split_there item (row_at lists l) (held_in item home is) in
      let xs = cut.0 in
      let ys = cut.1 in
      let key = cut.2 in
      let after = stands_after items named named_back homes lens lists stand l item key xs ys low cut.3 in
      let before = stands_before items named named_back homes lens lists stand l item key xs ys low cut.3 in
      let there = one_there items named named_back homes lens lists stand l item key xs ys low cut.3 in
      let P : ℕ → ℕ → Type 0 = λ p n. (n < items + length lists) × (p < items + length lists) × (0 < get_or lens l 0) × StandFor items (set named p n)
      (set named_back n p) (set homes item None) (set lens l (get_or lens l 0 - 1)) (map (without_item item) lists) in
      subst (λ p. P p (get_or named item 0)) (sym before) (subst (P (last_or (items + l) (items_of xs))) (sym after) (
        after_low items named named_back homes lens lists stand l item key xs ys low cut.3,
        before_low items named named_back homes lens lists stand l item key
            xs ys low cut.3,
        omega (arith, there),
        stand_removed items named named_back homes lens lists stand l item key xs ys low cut.3,
      ))

  -- where it is in none, each list is as it was
  pub stays_away : (item : ℕ) → home_at homes item ≡ None → map (without_item item) lists ≡ lists
  stays_away item is = ext_get_or [] (map (without_item item) lists) lists (length-map lists (without_item item))
      (λ k within. let low : k < length lists = omega (arith, within, length-map lists (without_item item)) in get_or-map (without_item item) lists k [] [] low
      ∙ none_gone item (row_at lists k) (held_nowhere item is k low))

-- ---- reads of links
pub next_read : (links : List Link) (i : ℕ) (link : Link) → i < length links → link ≡ get_or links i link → link.next ≡ get_or (nexts links) i 0
next_read links i link low is = ap (λ (l : Link). l.next) (get_or_read links i link low is (record { prev = 0; next = 0 })) ∙ sym
    (get_or-map (λ (l : Link). l.next) links i (record { prev = 0; next = 0 }) 0 low)

pub prev_read : (links : List Link) (i : ℕ) (link : Link) → i < length links → link ≡ get_or links i link → link.prev ≡ get_or (prevs links) i 0
prev_read links i link low is = ap (λ (l : Link). l.prev) (get_or_read links i link low is (record { prev = 0; next = 0 })) ∙ sym
    (get_or-map (λ (l : Link). l.prev) links i (record { prev = 0; next = 0 }) 0 low)

module _ (items : ℕ) (links : List Link) (homes : List (Option Home)) (lens : List ℕ) (lists : List (List Listed))
    (stand : StandFor items (nexts links) (prevs links) homes lens lists) where
  pub nodes_are : length links ≡ items + length lists
  nodes_are = sym (length-map links (λ (l : Link). l.next)) ∙ stand.nodes

  pub came_so : (links2 : List Link) (l item key k next : ℕ) → l < length lists → item < items → list_of item (record { items = items; lists = lists }) ≡ None →
      k ≤ length (row_at lists l) → next ≡ first_or (items + l) (items_of (drop k (row_at lists l)))
      → nexts links2 ≡ set (set (nexts links) (get_or (prevs links) next 0) item) item next → prevs links2 ≡ set
      (set (prevs links) item (get_or (prevs links) next 0)) next item
      → StandFor items (nexts links2) (prevs links2) (set homes item (Some (record { list = l; key = key }))) (set lens l (get_or lens l 0 + 1))
      (set lists l (insert (row_at lists l) k (record { item = item; key = key })))
  came_so links2 l item key k next low less free within is forth back =
      rw (forth, back) (came items (nexts links) (prevs links) homes lens lists stand l item key k next low less free within is).2

  pub went_so : (links2 : List Link) (item : ℕ) (home : Home) → home_at homes item ≡ Some home
      → nexts links2 ≡ set (nexts links) (get_or (prevs links) item 0) (get_or (nexts links) item 0) → prevs links2 ≡ set (prevs links)
      (get_or (nexts links) item 0) (get_or (prevs links) item 0)
      → StandFor items (nexts links2) (prevs links2) (set homes item None) (set lens home.list (get_or lens home.list 0 - 1)) (map (without_item item) lists)
  went_so links2 item home is forth back = rw (forth, back) (went items (nexts links) (prevs links) homes lens lists stand item home is).3

replicate_at : {X : Type 0} (n i : ℕ) (x : X) → get_or (replicate n x) i x ≡ x
replicate_at zero i x = refl
replicate_at (suc n) zero x = refl
replicate_at (suc n) (suc i) x = replicate_at n i x

map_replicate : {X Y : Type 0} (f : X → Y) (n : ℕ) (x : X) → map f (replicate n x) ≡ replicate n (f x)
map_replicate f zero x = refl
map_replicate f (suc n) x = ap (λ ys. f x ∷ ys) (map_replicate f n x)

-- no item stands in any list yet
pub start_stands : (items lists : ℕ) → items + lists < 2 ^ 32 → StandFor items (numbers (items + lists)) (numbers (items + lists)) (replicate items None)
    (replicate lists 0) (replicate lists [])
start_stands items lists few = record {
  rings = λ l low. record { forwards = rw (row l) (node l (omega (arith, low, sized))); backwards = rw (row l) (node l (omega (arith, low, sized))) };
  at_home = λ i l low. rw (row l, none i) refl;
  keys = λ l low. rw (row l) tt;
  once = λ l low. rw (row l) distinct_nil;
  within = λ i home is. absurd (cc (none i, is));
  counted = sym (map_replicate length lists []);
  few = omega (arith, few, sized);
  nodes = length-range_with_len 0 (items + lists) ∙ ap (λ n. items + n) (sym sized);
  nodes_back = length-range_with_len 0 (items + lists) ∙ ap (λ n. items + n) (sym sized);
  room = length-replicate items None;
}
  where
    sized : length {A = List Listed} (replicate lists []) ≡ lists
    sized = length-replicate {A = List Listed} lists []

    row : (l : ℕ) → row_at (replicate lists []) l ≡ []
    row l = replicate_at lists l []

    none : (i : ℕ) → home_at (replicate items None) i ≡ None
    none i = replicate_at items i None

    node : (l : ℕ) → l < lists → get_or (numbers (items + lists)) (items + l) 0 ≡ items + l
    node l low = get_or-range_with_len 0 (items + lists) (items + l) 0 (omega (arith, low)) ∙ zero-add (items + l)
