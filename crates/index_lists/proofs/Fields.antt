-- The fields of `Lists` and the lists that they stand for: who is where, and what an item that comes or goes leaves of it.
use Rattle.std.proofs.Common.{◌≡◌, ◌≢◌, ℕ, ◌+◌, ◌<◌, ◌≤◌, Bool, true, false, eqb, List, [], ◌∷◌, length, get_or, Option, Some, None, refl, sym, ap, subst, ◌∙◌}
use Rattle.std.proofs.Common.{arith}
use Rattle.std.specs.List.{IsDistinct, AllByRecursion}
use Rattle.std.proofs.lemmas.Bool.{eqb-true}
use Rattle.std.proofs.lemmas.Bool.Decides.{nat_tests}
use Rattle.std.proofs.lemmas.List.{ext_get_or, get_or_past, get_or-map, length-map}
use Rattle.std.proofs.lemmas.List.Elements.{All-from_recursion}
use Rattle.std.proofs.lemmas.List.FromFn.{length-range_with_len, get_or-map-range_with_len}
use Rattle.list_orders.specs.Search.{has, numbers}
use Rattle.list_orders.proofs.Filters.{list_any-map, All-map, All-weaker}
use Rattle.list_orders.proofs.Listings.{listing_length}
use Rattle.index_lists.specs.declared.links.Home.{Home}
use Rattle.index_lists.specs.Listed.{Listed, items_of, has_item}
use Rattle.index_lists.specs.Rings.{IsPath}
use Rattle.index_lists.specs.Shape.{home_at, key_at, is_home, entries_from, lists_in, StandFor}
use Rattle.index_lists.proofs.Paths.{distinct_cons}

abbrev pub row_at : List (List Listed) → ℕ → List Listed
row_at lists l = get_or lists l []

pub has-items_of : (item : ℕ) (row : List Listed) → has item (items_of row) ≡ has_item item row
has-items_of item row = list_any-map (λ m. eqb m item) (λ (entry : Listed). entry.item) row

-- ---- what the fields show

-- a path walked gives its items, with the keys of their homes
pub path_walked : (named : List ℕ) (homes : List (Option Home)) (l from : ℕ) (row : List Listed) (to : ℕ) → IsPath named from (items_of row) to → AllByRecursion
    (λ entry. home_at homes entry.item ≡ Some (record { list = l; key = entry.key })) row → entries_from named homes (length row) (get_or named from 0) ≡ row
path_walked named homes l from [] to path keys = refl
path_walked named homes l from (entry ∷ row) to path keys =
    let key : key_at homes entry.item ≡ entry.key = ap (λ (home : Option Home). key_at (home ∷ []) 0) keys.0 in
    subst (λ n. record { item = n; key = key_at homes n } ∷ entries_from named homes (length row) (get_or named n 0) ≡ entry ∷ row) (sym path.0)
    (ap (λ k. record { item = entry.item; key = k } ∷ entries_from named homes (length row) (get_or named entry.item 0)) key ∙ ap (λ rest. entry ∷ rest)
    (path_walked named homes l entry.item row to path.1 keys.1))

home_one : (home : Option Home) (l k : ℕ) → is_home home l ≡ true → k ≢ l → is_home home k ≡ false
home_one None l k is apart = refl
home_one (Some home) l k is apart = grind (arith, nat_tests, is, apart)

module _ (items : ℕ) (named named_back : List ℕ) (homes : List (Option Home)) (lens : List ℕ) (lists : List (List Listed))
    (stand : StandFor items named named_back homes lens lists) where
  pub lens_at : (l : ℕ) → l < length lists → get_or lens l 0 ≡ length (row_at lists l)
  lens_at l low = ap (λ ns. get_or ns l 0) stand.counted ∙ get_or-map length lists l [] 0 low

  pub lens_length : length lens ≡ length lists
  lens_length = ap length stand.counted ∙ length-map lists length

  -- the fields show what they stand for
  pub walked : lists_in items named homes lens ≡ lists
  walked = ext_get_or [] (lists_in items named homes lens) lists (shown ∙ lens_length)
      (λ l low. let here : l < length lists = omega (arith, low, shown, lens_length) in at l here)
    where
      shown : length (lists_in items named homes lens) ≡ length lens
      shown = length-map (numbers (length lens)) _ ∙ length-range_with_len 0 (length lens)

      at : (l : ℕ) → l < length lists → row_at (lists_in items named homes lens) l ≡ row_at lists l
      at l low =
          get_or-map-range_with_len (λ k. entries_from named homes (get_or lens k 0) (get_or named (items + k) 0)) 0 (length lens) l l []
          (omega (arith, low, lens_length)) (omega arith)
          ∙ ap (λ n. entries_from named homes n (get_or named (items + l) 0)) (lens_at l low)
          ∙ path_walked named homes l (items + l) (row_at lists l) (items + l) (stand.rings l low).forwards (stand.keys l low)

  -- no node from the number of items on is an item
  pub not_item : (l m : ℕ) → l < length lists → items ≤ m → has m (items_of (row_at lists l)) ≡ false
  not_item l m low past =
      has-items_of m (row_at lists l) ∙ stand.at_home m l low ∙ ap (λ home. is_home home l) (get_or_past homes m None (omega (arith, past, stand.room)))

  pub item_low : (l m : ℕ) → l < length lists → has_item m (row_at lists l) ≡ true → m < items
  item_low l m low there = grind (arith, not_item l m low, has-items_of m (row_at lists l), there)

  -- the node is one of the ring of the list, the end among them
  abbrev pub is_on : ℕ → ℕ → Bool
  is_on l m = has m ((items + l) ∷ items_of (row_at lists l))

  end_apart : (l : ℕ) → l < length lists → has (items + l) (items_of (row_at lists l)) ≡ false
  end_apart l low = not_item l (items + l) low (omega arith)

  pub ring_once : (l : ℕ) → l < length lists → IsDistinct eqb ((items + l) ∷ items_of (row_at lists l))
  ring_once l low = distinct_cons (items + l) (items_of (row_at lists l)) (end_apart l low) (stand.once l low)

  pub on_low : (l m : ℕ) → l < length lists → is_on l m ≡ true → m < items + length lists
  on_low l m low there = at (eqb (items + l) m) refl
    where
      at : (b : Bool) → eqb (items + l) m ≡ b → m < items + length lists
      at true same = omega (arith, low, eqb-true (items + l) m same)
      at false other = omega (arith, item_low l m low (grind (arith, has-items_of m (row_at lists l), there, other)))

  -- a node of one ring is on no other
  pub on_one : (l k m : ℕ) → l < length lists → k < length lists → k ≢ l → is_on l m ≡ true → is_on k m ≡ false
  on_one l k m low low_too apart there = at (eqb (items + l) m) refl
    where
      at : (b : Bool) → eqb (items + l) m ≡ b → is_on k m ≡ false
      at true same =
          let is : items + l ≡ m = eqb-true (items + l) m same in
          grind (arith, nat_tests, is, apart, not_item k m low_too (omega (arith, is)))
      at false other =
          let inside : has_item m (row_at lists l) ≡ true = grind (arith, has-items_of m (row_at lists l), there, other) in
          let less = item_low l m low inside in
          let home = home_one (home_at homes m) l k (sym (stand.at_home m l low) ∙ inside) apart in
          grind (arith, nat_tests, less, has-items_of m (row_at lists k), stand.at_home m k low_too, home)

  -- an item in no list is on no ring
  pub free_apart : (l m : ℕ) → l < length lists → m < items → home_at homes m ≡ None → is_on l m ≡ false
  free_apart l m low less free =
      grind (arith, nat_tests, less, has-items_of m (row_at lists l), stand.at_home m l low, ap (λ home. is_home home l) free)

  pub homed_low : (m : ℕ) (home : Home) → home_at homes m ≡ Some home → m < items
  homed_low m home is = grind (arith, past)
    where
      past : items ≤ m → ⊥
      past over = absurd (cc (get_or_past homes m None (omega (arith, over, stand.room)), is))

  -- a list has at most all items
  pub row_short : (l : ℕ) → l < length lists → length (row_at lists l) ≤ items
  row_short l low =
      let row = row_at lists l in
      let below = All-map (λ i. i < items) (λ (e : Listed). e.item) row (All-weaker (λ e. home_at homes e.item ≡ Some (record { list = l; key = e.key }))
      (λ e. e.item < items) (λ e is. homed_low e.item (record { list = l; key = e.key }) is) row (stand.keys l low)) in
      omega (
        arith,
        length-map row (λ (e : Listed). e.item),
        listing_length items (items_of row)
            (record { below = All-from_recursion (λ i. i < items) (items_of row) below; once = stand.once l low }),
      )
