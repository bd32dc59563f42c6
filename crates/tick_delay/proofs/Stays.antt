-- Wakes that grow where no task has to go to the other list.
use Rattle.std.proofs.Common.{◌≡◌, ℕ, ◌-◌, ◌<◌, ◌≤◌, ◌^◌, Bool, true, false, not, ltb, leb, List, [], ◌∷◌, ◌++◌, length, map}
use Rattle.std.proofs.Common.{get_or, refl, sym, ap, subst, ◌∙◌, inl, inr, arith}
use Rattle.std.specs.Prelude.{reverse}
use Rattle.std.specs.List.{filter, AllByRecursion}
use Rattle.std.specs.Option.{option_map_or}
use Rattle.std.proofs.Math.ListN.{get_or-map}
use Rattle.std.proofs.lemmas.List.{append-nil, ext_get_or, length-map, reverse-append, reverse-reverse}
use Rattle.std.proofs.lemmas.Bool.{cases_eq}
use Rattle.std.proofs.lemmas.Bool.Decides.{nat_tests}
use Rattle.list_orders.specs.Search.{ranked}
use Rattle.list_orders.proofs.Choices.{IsOrdered}
use Rattle.list_orders.proofs.Filters.{filter_all, filter_none, All-weaker, All-both}
use Rattle.list_orders.proofs.Scans.{ordered-ranked}
use Rattle.index_lists.specs.Listed.{Listed, ListsView, list_at, first_entry, last_entry, lowest_first, raised}
use Rattle.index_lists.proofs.Places.{lowest_first-IsRank}
use Rattle.bench_model.specs.Shifted.{later_tick}
use Rattle.tick_delay.specs.Later.{later_wake, first_ones_later, all_later, turns_stay}
use Rattle.tick_delay.specs.Shape.{IsDelayShape}
use Rattle.tick_delay.proofs.Moved.{later_of, some_two, some_items, second_half}

-- ---- the ends of a list in the order of wakes
All-last : (P : Listed → Type 0) (xs : List Listed) (x : Listed) → AllByRecursion P (xs ++ x ∷ []) → P x
All-last P [] x all = all.0
All-last P (y ∷ xs) x all = All-last P xs x all.1

most : (xs : List Listed) (x : Listed) → IsOrdered lowest_first (xs ++ x ∷ []) → AllByRecursion (λ y. y.key ≤ x.key) (xs ++ x ∷ [])
most [] x ordered = (omega arith, tt)
most (y ∷ xs) x ordered =
    let before = All-last (λ z. lowest_first y z ≡ true) xs x ordered.0 in
    (grind (arith, nat_tests, before), most xs x ordered.1)

in_order : (xs : List Listed) → ranked lowest_first xs ≡ xs → IsOrdered lowest_first xs
in_order xs order = subst (IsOrdered lowest_first) order (ordered-ranked lowest_first lowest_first-IsRank xs)

-- what follows from a test of the key at one end holds of all
module _ (p : ℕ → Bool) (P Q : Listed → Type 0) where
  by_last : ((e x : Listed) → P e → P x → e.key ≤ x.key → p x.key ≡ true → Q e) → (xs : List Listed) → AllByRecursion P xs → ranked lowest_first xs ≡ xs
      → option_map_or (λ entry. p entry.1) (last_entry xs) true ≡ true → AllByRecursion Q xs
  by_last so xs all order passes = at (reverse xs) refl
    where
      at : (r : List Listed) → reverse xs ≡ r → AllByRecursion Q xs
      at [] is = subst (AllByRecursion Q) (ap reverse (sym is) ∙ reverse-reverse xs) tt
      at (x ∷ r) is =
          let turned : reverse r ++ x ∷ [] ≡ xs = sym (reverse-append (x ∷ []) r) ∙ ap reverse (sym is) ∙ reverse-reverse xs in
          let last : p x.key ≡ true = sym (ap (λ ys. option_map_or (λ entry. p entry.1) (first_entry ys) true) is) ∙ passes in
          let all_of : AllByRecursion P (reverse r ++ x ∷ []) = subst (AllByRecursion P) (sym turned) all in
          let most_of = most (reverse r) x (subst (IsOrdered lowest_first) (sym turned) (in_order xs order)) in
          subst (AllByRecursion Q) turned
          (All-weaker (λ e. P e × (e.key ≤ x.key)) Q (λ e low. so e x low.0 (All-last P (reverse r) x all_of) low.1 last) (reverse r ++ x ∷ [])
          (All-both P (λ e. e.key ≤ x.key) (reverse r ++ x ∷ []) all_of most_of))

  by_first : ((e x : Listed) → P e → P x → x.key ≤ e.key → p x.key ≡ true → Q e) → (xs : List Listed) → AllByRecursion P xs → ranked lowest_first xs ≡ xs
      → option_map_or (λ entry. p entry.1) (first_entry xs) true ≡ true → AllByRecursion Q xs
  by_first so [] all order passes = tt
  by_first so (x ∷ xs) all order passes =
      let after = in_order (x ∷ xs) order in (
        so x x all.0 all.0 (omega arith) passes,
        All-weaker (λ e. P e × (lowest_first x e ≡ true)) Q (λ e low. so e x low.0 all.0 (let before = low.1 in grind (arith, nat_tests, before)) passes) xs
            (All-both P (λ e. lowest_first x e ≡ true) xs all.1 after.0),
      )

-- ---- both lists
module _ (by tasks tick turn : ℕ) (lists : ListsView) (shape : IsDelayShape tasks tick turn lists) (stay : turns_stay by (later_tick by tick) turn lists ≡ true)
  where
    abbrev then : ℕ
    then = later_tick by tick

    abbrev this : List Listed
    this = list_at lists turn

    abbrev next : List Listed
    next = list_at lists (1 - turn)

    abbrev passed : Listed → Bool
    passed e = ltb e.key then

    abbrev IsThis : Listed → Type 0
    IsThis e = (tick ≤ e.key) × (e.key < 2 ^ 32)

    abbrev IsNext : Listed → Type 0
    IsNext e = e.key < tick

    this_stays : (e x : Listed) → IsThis e → IsThis x → e.key ≤ x.key → leb then (later_tick by x.key) ≡ true → passed (later_wake by e) ≡ false
    this_stays e x here last low passes =
        let ends : then ≤ later_tick by x.key = grind (arith, nat_tests, passes) in
        let h = here.0 in
        let k = last.1 in
        let is : then ≤ later_tick by e.key = omega (arith, h, k, low, ends) in
        grind (arith, nat_tests, is)

    next_stays : (e x : Listed) → IsNext e → IsNext x → x.key ≤ e.key → ltb (later_tick by x.key) then ≡ true → passed (later_wake by e) ≡ true
    next_stays e x here first low passes =
        let ends : later_tick by x.key < then = grind (arith, nat_tests, passes) in
        let tick_low = shape.tick_low in
        let is : later_tick by e.key < then = omega (arith, here, tick_low, low, ends) in
        grind (arith, nat_tests, is)

    both_pass : (option_map_or (λ entry. leb then (later_tick by entry.1)) (last_entry this) true ≡ true)
        × (option_map_or (λ entry. ltb (later_tick by entry.1) then) (first_entry next) true ≡ true)
    both_pass = (grind (arith, stay), grind (arith, stay))

    this_all : AllByRecursion (λ e. passed (later_wake by e) ≡ false) this
    this_all = by_last (λ k. leb then (later_tick by k)) IsThis (λ e. passed (later_wake by e) ≡ false) this_stays this shape.turns.this_turn
        shape.turns.this_order both_pass.0

    next_all : AllByRecursion (λ e. passed (later_wake by e) ≡ true) next
    next_all = by_first (λ k. ltb (later_tick by k) then) IsNext (λ e. passed (later_wake by e) ≡ true) next_stays next shape.turns.next_turn
        shape.turns.next_order both_pass.1

    this_low : AllByRecursion (λ e. e.key < 2 ^ 32) this
    this_low = All-weaker IsThis (λ e. e.key < 2 ^ 32) (λ e h. h.1) this shape.turns.this_turn

    next_low : AllByRecursion (λ e. e.key < 2 ^ 32) next
    next_low = let tick_low = shape.tick_low in All-weaker IsNext (λ e. e.key < 2 ^ 32) (λ e h. omega (arith, h, tick_low)) next shape.turns.next_turn

    halves : (list_at (all_later by then turn lists) (1 - turn) ≡ later_of by passed this ++ later_of by passed next)
        × (list_at (all_later by then turn lists) turn ≡ later_of by (λ e. not (passed e)) this ++ later_of by (λ e. not (passed e)) next)
    halves = second_half by tick turn lists shape.tick_low shape.turn_low shape.both this_low next_low

    abbrev all_of : (Listed → Bool) → List Listed → List Listed
    all_of p xs = filter (λ e. p (later_wake by e)) xs

    this_kept : list_at (all_later by then turn lists) turn ≡ map (later_wake by) this
    this_kept =
        halves.1
        ∙ ap (λ es. map (later_wake by) es ++ later_of by (λ e. not (passed e)) next)
        (filter_all (λ e. not (passed (later_wake by e))) this (All-weaker (λ e. passed (later_wake by e) ≡ false) (λ e. not (passed (later_wake by e)) ≡ true)
        (λ e h. ap not h) this this_all))
        ∙ ap (λ es. map (later_wake by) this ++ map (later_wake by) es)
        (filter_none (λ e. not (passed (later_wake by e))) next (All-weaker (λ e. passed (later_wake by e) ≡ true) (λ e. not (passed (later_wake by e)) ≡ false)
        (λ e h. ap not h) next next_all))
        ∙ append-nil (map (later_wake by) this)

    next_kept : list_at (all_later by then turn lists) (1 - turn) ≡ map (later_wake by) next
    next_kept =
        halves.0
        ∙ ap (λ es. map (later_wake by) es ++ later_of by passed next) (filter_none (λ e. passed (later_wake by e)) this this_all)
        ∙ ap (λ es. map (later_wake by) es) (filter_all (λ e. passed (later_wake by e)) next next_all)

    abbrev raised_all : List (List Listed)
    raised_all = map (map (raised by)) lists.lists

    at_each : (l : ℕ) → l < 2 → list_at (all_later by then turn lists) l ≡ get_or raised_all l []
    at_each l low = elim (cases_eq l turn) [
      | inl same ↦ ap (list_at (all_later by then turn lists)) same ∙ this_kept ∙ sym (get_or-map (map (raised by)) lists.lists turn []) ∙ ap
          (λ n. get_or raised_all n []) (sym same)
      | inr apart ↦ let other : l ≡ 1 - turn = (let turn_low = shape.turn_low in omega (arith, low, turn_low, apart)) in
          ap (list_at (all_later by then turn lists)) other ∙ next_kept ∙ sym (get_or-map (map (raised by)) lists.lists (1 - turn) []) ∙ ap
          (λ n. get_or raised_all n []) (sym other)
    ]

    two_later : length (all_later by then turn lists).lists ≡ length lists.lists
    two_later = some_two by then turn (1 - turn) (length next) (first_ones_later by then turn turn (length this) lists)
        ∙ some_two by then turn turn (length this) lists

    items_later : (all_later by then turn lists).items ≡ lists.items
    items_later = some_items by then turn (1 - turn) (length next) (first_ones_later by then turn turn (length this) lists)
        ∙ some_items by then turn turn (length this) lists

    -- each task stands where it stood, with its later wake
    pub raised_where_they_stand : record lists { lists = raised_all } ≡ all_later by then turn lists
    raised_where_they_stand =
        let rows : raised_all ≡ (all_later by then turn lists).lists =
        sym (ext_get_or [] (all_later by then turn lists).lists raised_all (two_later ∙ sym (length-map lists.lists (map (raised by))))
        (λ l low. at_each l (omega (arith, low, two_later, shape.both)))) in
        ap (λ rs. record lists { lists = rs }) rows ∙ ap (λ n. record { items = n; lists = (all_later by then turn lists).lists }) (sym items_later)
