-- The place of an item among the keys of a list, found from the front.
use Rattle.std.proofs.Common.{◌≡◌, ℕ, ◌+◌, ◌<◌, ◌≤◌, Bool, true, false, cond, eqb, ltb, List, [], ◌∷◌, ◌++◌, length, map, set, get_or, take, drop, Option, Some}
use Rattle.std.proofs.Common.{None, refl, sym, ap, subst, ◌∙◌, arith}
use Rattle.std.specs.List.{prefix_len}
use Rattle.std.specs.Option.{option_eq}
use Rattle.std.proofs.lemmas.List.{drop_more, drop_all, get_or_past, get_or_read, get_or-map, take_all, take_more_same, take-append-drop}
use Rattle.std.proofs.lemmas.List.Elements.{All-from_recursion}
use Rattle.std.proofs.lemmas.Bool.Decides.{nat_tests}
use Rattle.std.proofs.lemmas.Option.{same_Some}
use Rattle.list_orders.proofs.Ranks.{IsRank}
use Rattle.index_lists.specs.declared.links.Home.{Home}
use Rattle.index_lists.specs.Listed.{Listed, items_of, has_item, without_item, key_of, first_of, lowest_first}
use Rattle.index_lists.specs.Rings.{IsRing, first_or}
use Rattle.index_lists.specs.Shape.{home_at, StandFor}
use Rattle.index_lists.proofs.Paths.{ring_next}
use Rattle.index_lists.proofs.Fields.{row_at, item_low, lens_at, lens_length}
use Rattle.index_lists.proofs.Looks.{item_or_none, key_of_home}
use Rattle.index_lists.proofs.Moves.{items_of-append, has-parts, gone_from}

abbrev pub none : Listed
none = record { item = 0; key = 0 }

pub same_key : (home : Home) (l key : ℕ) → Some home ≡ Some (record { list = l; key = key }) → home.key ≡ key
same_key home l key same = cc (same)

-- one more entry passes
pub place_step : (p : Listed → Bool) (row : List Listed) (i : ℕ) → i < length row → p (get_or row i none) ≡ true → i + prefix_len p (drop i row) ≡ prefix_len p
    row → (i + 1) + prefix_len p (drop (i + 1) row) ≡ prefix_len p row
place_step p row i low passes so_far =
    let here : prefix_len p (drop i row) ≡ 1 + prefix_len p (drop (i + 1) row) = ap (prefix_len p) (drop_more row i none low) ∙ ap
    (λ b. cond b (1 + prefix_len p (drop (i + 1) row)) 0) passes in
    omega (arith, here, so_far)

-- the first that doesn't
pub place_stop : (p : Listed → Bool) (row : List Listed) (i : ℕ) → i < length row → p (get_or row i none) ≡ false → i + prefix_len p (drop i row) ≡ prefix_len p
    row → i ≡ prefix_len p row
place_stop p row i low fails so_far =
    let here : prefix_len p (drop i row) ≡ 0 = ap (prefix_len p) (drop_more row i none low) ∙ ap (λ b. cond b (1 + prefix_len p (drop (i + 1) row)) 0) fails in
    omega (arith, here, so_far)

-- all pass
pub place_end : (p : Listed → Bool) (row : List Listed) (i : ℕ) → length row ≤ i → i + prefix_len p (drop i row) ≡ prefix_len p row → i ≡ prefix_len p row
place_end p row i past so_far =
    let here : prefix_len p (drop i row) ≡ 0 = ap (prefix_len p) (drop_all i row past) in
    omega (arith, here, so_far)

module _ (items : ℕ) (named named_back : List ℕ) (homes : List (Option Home)) (lens : List ℕ) (lists : List (List Listed))
    (stand : StandFor items named named_back homes lens lists)
    (l i : ℕ) (low : l < length lists) (within : i < length (row_at lists l)) where
  abbrev at : Listed
  at = get_or (row_at lists l) i none

  parts : row_at lists l ≡ take i (row_at lists l) ++ at ∷ drop (i + 1) (row_at lists l)
  parts = sym (take-append-drop i (row_at lists l)) ∙ ap (λ zs. take i (row_at lists l) ++ zs) (drop_more (row_at lists l) i none within)

  -- the node of the place, the entry's home, and the node of the next place
  pub node_here : first_or (items + l) (items_of (drop i (row_at lists l))) ≡ at.item
  node_here = ap (λ zs. first_or (items + l) (items_of zs)) (drop_more (row_at lists l) i none within)

  pub home_here : home_at homes at.item ≡ Some (record { list = l; key = at.key })
  home_here = All-from_recursion (λ e. home_at homes e.item ≡ Some (record { list = l; key = e.key })) (row_at lists l) (stand.keys l low) i none within

  pub node_next : get_or named at.item 0 ≡ first_or (items + l) (items_of (drop (i + 1) (row_at lists l)))
  node_next = ring_next named named_back (items + l) (items_of (take i (row_at lists l))) at.item (items_of (drop (i + 1) (row_at lists l)))
      (subst (IsRing named named_back (items + l)) (ap items_of parts ∙ items_of-append (take i (row_at lists l)) (at ∷ drop (i + 1) (row_at lists l)))
      (stand.rings l low))

  pub node_low : at.item < items
  node_low = grind (arith, past)
    where
      past : items ≤ at.item → ⊥
      past over = absurd (cc (get_or_past homes at.item None (omega (arith, over, stand.room)), home_here))

module _ (items : ℕ) (named named_back : List ℕ) (homes : List (Option Home)) (lens : List ℕ) (lists : List (List Listed))
    (stand : StandFor items named named_back homes lens lists)
    (l : ℕ) (low : l < length lists) (n : ℕ) (read : n ≡ get_or lens l n) where
  -- the length that was read is the list's
  pub read_length : n ≡ length (row_at lists l)
  read_length = get_or_read lens l n (omega (arith, low, lens_length items named named_back homes lens lists stand)) read 0 ∙ lens_at items named named_back
      homes lens lists stand l low

pub lowest_first-IsRank : IsRank lowest_first
lowest_first-IsRank = record { total = λ a b h. grind (arith, nat_tests, h); chain = λ a b c h k. grind (arith, nat_tests, h, k) }

module _ (items : ℕ) (named named_back : List ℕ) (homes : List (Option Home)) (lens : List ℕ) (lists : List (List Listed))
    (stand : StandFor items named named_back homes lens lists)
    (l i item : ℕ) (low : l < length lists) (within : i < length (row_at lists l)) (is : get_or (items_of (row_at lists l)) i 0 ≡ item) where
  item_here : (get_or (row_at lists l) i none).item ≡ item
  item_here = sym (get_or-map (λ (e : Listed). e.item) (row_at lists l) i none 0 within) ∙ is

  -- an item at a place of a list has a home, and the one after it stands at the next place
  pub placed_home : home_at homes item ≡ Some (record { list = l; key = (get_or (row_at lists l) i none).key })
  placed_home = ap (home_at homes) (sym item_here) ∙ home_here items named named_back homes lens lists stand l i low within

  pub placed_next : cond (ltb (get_or named item 0) items) (Some (get_or named item 0)) None ≡ first_of (drop (i + 1) (row_at lists l))
  placed_next =
      let rest = drop (i + 1) (row_at lists l) in
      let key = (get_or (row_at lists l) i none).key in
      ap (λ n. cond (ltb n items) (Some n) None) (ap (λ n. get_or named n 0) (sym item_here) ∙ node_next items named named_back homes lens lists stand l i low
      within)
      ∙ item_or_none items named named_back homes lens lists stand l rest
      (λ m there. item_low items named named_back homes lens lists stand l m low (later m there))
    where
      later : (m : ℕ) → has_item m (drop (i + 1) (row_at lists l)) ≡ true → has_item m (row_at lists l) ≡ true
      later m there =
          ap (has_item m) (parts items named named_back homes lens lists stand l i low within)
          ∙ grind (arith, there, has-parts m (take i (row_at lists l)) (get_or (row_at lists l) i none ∷ drop (i + 1) (row_at lists l)))

-- two lists are equal where they have one length and were equal so far to the end
pub all_equal : (xs ys : List ℕ) (i : ℕ) → length xs ≡ length ys → length xs ≤ i → take i xs ≡ take i ys → xs ≡ ys
all_equal xs ys i sized past same = sym (take_all i xs past) ∙ same ∙ take_all i ys (omega (arith, sized, past))

pub one_more_equal : (xs ys : List ℕ) (i : ℕ) → i < length xs → i < length ys → take i xs ≡ take i ys → get_or xs i 0 ≡ get_or ys i 0 → take (i + 1) xs ≡ take
    (i + 1) ys
one_more_equal xs ys i low low_too same here = take_more_same xs ys i 0 low low_too same here

module _ (items : ℕ) (named named_back : List ℕ) (homes : List (Option Home)) (lens : List ℕ) (lists : List (List Listed))
    (stand : StandFor items named named_back homes lens lists)
    (l i : ℕ) (low : l < length lists) (within : i < length (row_at lists l)) where
  -- the node of a place is the item there
  pub node_item : first_or (items + l) (items_of (drop i (row_at lists l))) ≡ get_or (items_of (row_at lists l)) i 0
  node_item = node_here items named named_back homes lens lists stand l i low within ∙ sym
      (get_or-map (λ (e : Listed). e.item) (row_at lists l) i none 0 within)

  -- the entry's key is that of its item
  pub key_here : key_of (get_or (row_at lists l) i none).item (record { items = items; lists = lists }) ≡ Some (get_or (row_at lists l) i none).key
  key_here =
      let entry = get_or (row_at lists l) i none in
      key_of_home items named named_back homes lens lists stand entry.item (record { list = l; key = entry.key })
      (home_here items named named_back homes lens lists stand l i low within)

pub same_entry : (a b : Listed) → a.item ≡ b.item → Some a.key ≡ Some b.key → a ≡ b
same_entry a b item key = ap (λ n. record { item = n; key = a.key }) item ∙ ap (λ k. record { item = b.item; key = k }) (same_Some a.key b.key key)

pub same_keys : (a b : Option ℕ) (x y : ℕ) → a ≡ Some x → b ≡ Some y → option_eq eqb a b ≡ eqb x y
same_keys a b x y here there = ap (λ o. option_eq eqb o b) here ∙ ap (option_eq eqb (Some x)) there

module _ (items : ℕ) (named named_back : List ℕ) (homes : List (Option Home)) (lens : List ℕ) (lists : List (List Listed))
    (stand : StandFor items named named_back homes lens lists)
    (l : ℕ) (low : l < length lists) where
  -- without its first item a list is the rest of it, and no other list changes
  pub first_gone : (item : ℕ) → first_of (row_at lists l) ≡ Some item → map (without_item item) lists ≡ set lists l (drop 1 (row_at lists l))
  first_gone item first = at (row_at lists l) refl first
    where
      at : (row : List Listed) → row_at lists l ≡ row → first_of row ≡ Some item → map (without_item item) lists ≡ set lists l (drop 1 row)
      at [] is first = absurd (cc (first))
      at (e ∷ row) is first =
          ap (λ i. map (without_item i) lists) (sym (same_Some e.item item first))
          ∙ sym (gone_from items named named_back homes lens lists stand l e.item e.key [] row low is)
