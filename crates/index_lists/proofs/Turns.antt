-- What the fields stand for after an item went from its place in a list to the end of it.
use Rattle.std.proofs.Common.{◌≡◌, ℕ, ◌+◌, ◌-◌, ◌<◌, List, [], ◌∷◌, ◌++◌, length, map, set, get_or, drop, Option, Some, None, unwrap_or, refl, sym, ap, subst}
use Rattle.std.proofs.Common.{◌∙◌, arith, get_or-set_same}
use Rattle.std.specs.List.{insert}
use Rattle.std.proofs.lemmas.List.{get_or-map, length-map, set-get_or, set-set, drop_all, take_all}
use Rattle.index_lists.specs.declared.links.Link.{Link}
use Rattle.index_lists.specs.declared.links.Home.{Home}
use Rattle.index_lists.specs.Listed.{Listed, items_of, without_item, list_of}
use Rattle.index_lists.specs.Rings.{nexts, prevs, nexts_without, prevs_without, first_or}
use Rattle.index_lists.specs.Shape.{home_at, StandFor}
use Rattle.index_lists.proofs.Fields.{row_at, lens_length}
use Rattle.index_lists.proofs.Frees.{no_list, gone_from_all}
use Rattle.index_lists.proofs.Looks.{came, went, list_of_home, list_of_none}

-- taken out and counted again
counted_twice : (lens : List ℕ) (l n : ℕ) → l < length lens → get_or lens l 0 ≡ n → 0 < n → set (set lens l (n - 1)) l (get_or (set lens l (n - 1)) l 0 + 1) ≡
    lens
counted_twice lens l n low is some =
    let back : (n - 1) + 1 ≡ n = omega (arith, some) in
    set-set lens l (n - 1) _ ∙ ap (λ m. set lens l (m + 1)) (get_or-set_same lens l (n - 1) 0 low) ∙ ap (set lens l) (back ∙ sym is) ∙ set-get_or lens l 0

with_equals : (items : ℕ) (named named_back : List ℕ) (homes homes2 : List (Option Home)) (lens lens2 : List ℕ) (lists lists2 : List (List Listed)) → homes ≡
    homes2 → lens ≡ lens2 → lists ≡ lists2 → StandFor items named named_back homes lens lists → StandFor items named named_back homes2 lens2 lists2
with_equals items named named_back homes homes2 lens lens2 lists lists2 homed counted rowed stand =
    subst (λ (hs : List (Option Home)). StandFor items named named_back hs lens2 lists2) homed
    (subst (λ (ns : List ℕ). StandFor items named named_back homes ns lists2) counted
    (subst (λ (rows : List (List Listed)). StandFor items named named_back homes lens rows) rowed stand))

module _ (items : ℕ) (links : List Link) (homes : List (Option Home)) (lens : List ℕ) (lists : List (List Listed))
    (stand : StandFor items (nexts links) (prevs links) homes lens lists)
    (item : ℕ) (home : Home) (is : home_at homes item ≡ Some home) (less : item < items) where
  abbrev l : ℕ
  l = home.list

  abbrev entry : Listed
  entry = record { item = item; key = 0 }

  abbrev left : List (List Listed)
  left = map (without_item item) lists

  low : l < length lists
  low = stand.within item home is

  row_left : row_at left l ≡ without_item item (row_at lists l)
  row_left = get_or-map (without_item item) lists l [] [] low

  last_row : insert (row_at left l) (length (row_at left l)) entry ≡ without_item item (row_at lists l) ++ entry ∷ []
  last_row =
      ap (λ (front : List Listed). front ++ entry ∷ drop (length (row_at left l)) (row_at left l))
      (take_all (length (row_at left l)) (row_at left l) (omega arith))
      ∙ ap (λ (rest : List Listed). row_at left l ++ entry ∷ rest) (drop_all (length (row_at left l)) (row_at left l) (omega arith))
      ∙ ap (λ (row : List Listed). row ++ entry ∷ []) row_left

  gone : StandFor items (nexts_without item links) (prevs_without item links) (set homes item None) (set lens l (get_or lens l 0 - 1)) left
  gone = (went items (nexts links) (prevs links) homes lens lists stand item home is).3

  turned : (items + l < items + length left) × (get_or (prevs_without item links) (items + l) 0 < items + length left) × StandFor items
      (set (set (nexts_without item links) (get_or (prevs_without item links) (items + l) 0) item) item (items + l))
      (set (set (prevs_without item links) item (get_or (prevs_without item links) (items + l) 0)) (items + l) item)
      (set (set homes item None) item (Some (record { list = l; key = 0 })))
      (set (set lens l (get_or lens l 0 - 1)) l (get_or (set lens l (get_or lens l 0 - 1)) l 0 + 1))
      (set left l (insert (row_at left l) (length (row_at left l)) entry))
  turned =
      came items (nexts_without item links) (prevs_without item links) (set homes item None) (set lens l (get_or lens l 0 - 1)) left gone l item 0
      (length (row_at left l)) (items + l) (omega (arith, low, length-map lists (without_item item))) less
      (no_list item (record { items = items; lists = left }) (gone_from_all item lists)) (omega arith)
      (ap (λ (rest : List Listed). first_or (items + l) (items_of rest)) (sym (drop_all (length (row_at left l)) (row_at left l) (omega arith))))

  prev_within : get_or (prevs_without item links) (items + l) 0 < items + length lists
  prev_within = omega (arith, length-map lists (without_item item), turned.1)

  moved_so : (links2 : List Link) → nexts links2 ≡ set (set (nexts_without item links) (get_or (prevs_without item links) (items + l) 0) item) item (items + l)
      → prevs links2 ≡ set (set (prevs_without item links) item (get_or (prevs_without item links) (items + l) 0)) (items + l) item
      → StandFor items (nexts links2) (prevs links2) (set homes item (Some (record { list = l; key = 0 }))) lens
      (set (map (without_item item) lists) l (without_item item (row_at lists l) ++ entry ∷ []))
  moved_so links2 forth back =
      let counted = counted_twice lens l (get_or lens l 0) (omega (arith, low, lens_length items (nexts links) (prevs links) homes lens lists stand)) refl
      ((went items (nexts links) (prevs links) homes lens lists stand item home is).2) in
      let homed = set-set homes item None (Some (record { list = l; key = 0 })) in
      let rowed = ap (set left l) last_row in
      rw (forth, back) (with_equals items _ _ _ _ _ _ _ _ homed counted rowed turned.2)

-- the home of an item that stands in the list
home_in : (items : ℕ) (named named_back : List ℕ) (homes : List (Option Home)) (lens : List ℕ) (lists : List (List Listed)) → StandFor items named named_back
    homes lens lists → (item l : ℕ) → list_of item (record { items = items; lists = lists }) ≡ Some l → (home : Home) × (home_at homes item ≡ Some home) ×
    (home.list ≡ l)
home_in items named named_back homes lens lists stand item l listed = at (home_at homes item) refl
  where
    at : (h : Option Home) → home_at homes item ≡ h → (home : Home) × (home_at homes item ≡ Some home) × (home.list ≡ l)
    at None is = absurd (cc (list_of_none items named named_back homes lens lists stand item is, listed))
    at (Some home) is = (home, is, ap (λ o. unwrap_or o 0) (sym (list_of_home items named named_back homes lens lists stand item home is) ∙ listed))

module _ (items : ℕ) (links : List Link) (homes : List (Option Home)) (lens : List ℕ) (lists : List (List Listed))
    (stand : StandFor items (nexts links) (prevs links) homes lens lists)
    (item l : ℕ) (less : item < items) (listed : list_of item (record { items = items; lists = lists }) ≡ Some l) where
  pub after_within : get_or (nexts links) item 0 < items + length lists
  after_within = let it = home_in items (nexts links) (prevs links) homes lens lists stand item l listed in
      (went items (nexts links) (prevs links) homes lens lists stand item it.0 it.1).0

  pub before_within : get_or (prevs links) item 0 < items + length lists
  before_within = let it = home_in items (nexts links) (prevs links) homes lens lists stand item l listed in
      (went items (nexts links) (prevs links) homes lens lists stand item it.0 it.1).1

  pub last_within : get_or (prevs_without item links) (items + l) 0 < items + length lists
  last_within = let it = home_in items (nexts links) (prevs links) homes lens lists stand item l listed in subst
      (λ l. get_or (prevs_without item links) (items + l) 0 < items + length lists) it.2 (prev_within items links homes lens lists stand item it.0 it.1 less)

  pub end_within : items + l < items + length lists
  end_within = let it = home_in items (nexts links) (prevs links) homes lens lists stand item l listed in omega (arith, it.2, stand.within item it.0 it.1)

  pub turned_so : (links2 : List Link) → nexts links2 ≡ set (set (nexts_without item links) (get_or (prevs_without item links) (items + l) 0) item) item
      (items + l) → prevs links2 ≡ set (set (prevs_without item links) item (get_or (prevs_without item links) (items + l) 0)) (items + l) item
      → StandFor items (nexts links2) (prevs links2) (set homes item (Some (record { list = l; key = 0 }))) lens
      (set (map (without_item item) lists) l (without_item item (row_at lists l) ++ record { item = item; key = 0 } ∷ []))
  turned_so =
      let it = home_in items (nexts links) (prevs links) homes lens lists stand item l listed in
      subst (λ l. (links2 : List Link) → nexts links2 ≡ set (set (nexts_without item links) (get_or (prevs_without item links) (items + l) 0) item) item
      (items + l) → prevs links2 ≡ set (set (prevs_without item links) item (get_or (prevs_without item links) (items + l) 0)) (items + l) item
      → StandFor items (nexts links2) (prevs links2) (set homes item (Some (record { list = l; key = 0 }))) lens
      (set (map (without_item item) lists) l (without_item item (row_at lists l) ++ record { item = item; key = 0 } ∷ []))) it.2
      (moved_so items links homes lens lists stand item it.0 it.1 less)
