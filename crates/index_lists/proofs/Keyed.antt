-- What the fields stand for after an item got another key.
use Rattle.std.proofs.Common.{◌≡◌, ◌≢◌, ℕ, ◌+◌, ◌<◌, Bool, true, false, cond, eqb, List, [], ◌∷◌, length, map, set, Option, Some, None, refl, sym, ap}
use Rattle.std.proofs.Common.{◌∙◌, inl, inr, arith, get_or-set_other, get_or-set_same}
use Rattle.std.proofs.Math.ListN.{get_or-map}
use Rattle.std.proofs.lemmas.Bool.{cases_eq, eqb-true}
use Rattle.std.proofs.lemmas.Bool.Decides.{nat_tests}
use Rattle.std.proofs.lemmas.List.{length-map, length-set, ext_get_or}
use Rattle.list_orders.proofs.Filters.{All-map, All-weaker}
use Rattle.index_lists.specs.declared.links.Home.{Home}
use Rattle.index_lists.specs.Listed.{Listed, items_of, has_item, keyed}
use Rattle.index_lists.specs.Shape.{home_at, is_home, StandFor}
use Rattle.index_lists.proofs.Fields.{row_at}

module _ (item key : ℕ) where
  abbrev rows_keyed : List (List Listed) → List (List Listed)
  rows_keyed lists = map (map (keyed item key)) lists

  same_item : (entry : Listed) → (keyed item key entry).item ≡ entry.item
  same_item entry = at (eqb entry.item item)
    where
      at : (b : Bool) → (cond b (record entry { key = key }) entry).item ≡ entry.item
      at true = refl
      at false = refl

  items_kept : (row : List Listed) → items_of (map (keyed item key) row) ≡ items_of row
  items_kept [] = refl
  items_kept (entry ∷ row) = cc (same_item entry, items_kept row)

  has_kept : (i : ℕ) (row : List Listed) → has_item i (map (keyed item key) row) ≡ has_item i row
  has_kept i [] = refl
  has_kept i (entry ∷ row) = grind (arith, same_item entry, has_kept i row)

  row_of : (lists : List (List Listed)) (l : ℕ) → row_at (rows_keyed lists) l ≡ map (keyed item key) (row_at lists l)
  row_of lists l = get_or-map (map (keyed item key)) lists l []

  lengths_kept : (lists : List (List Listed)) → map length (rows_keyed lists) ≡ map length lists
  lengths_kept [] = refl
  lengths_kept (row ∷ lists) = ap (λ n. n ∷ map length (rows_keyed lists)) (length-map row (keyed item key)) ∙ ap (λ ns. length row ∷ ns) (lengths_kept lists)

  none_keyed : (row : List Listed) → has_item item row ≡ false → map (keyed item key) row ≡ row
  none_keyed [] away = refl
  none_keyed (entry ∷ row) away = grind (arith, away, none_keyed row)

  module _ (items : ℕ) (named named_back : List ℕ) (homes : List (Option Home)) (lens : List ℕ) (lists : List (List Listed))
      (stand : StandFor items named named_back homes lens lists) where
    sized : length (rows_keyed lists) ≡ length lists
    sized = length-map lists (map (keyed item key))

    low_of : (l : ℕ) → l < length (rows_keyed lists) → l < length lists
    low_of l low = omega (arith, low, sized)

    -- an item in no list has no key
    pub keyed_nowhere : home_at homes item ≡ None → rows_keyed lists ≡ lists
    keyed_nowhere free = ext_get_or [] (rows_keyed lists) lists sized
        (λ l low. row_of lists l ∙ none_keyed (row_at lists l) (stand.at_home item l (low_of l low) ∙ ap (λ home. is_home home l) free))

    module _ (home : Home) (low_item : item < items) (here : home_at homes item ≡ Some home) where
      abbrev rekeyed : Home
      rekeyed = record { list = home.list; key = key }

      abbrev homes_keyed : List (Option Home)
      homes_keyed = set homes item (Some rekeyed)

      settled : home_at homes_keyed item ≡ Some rekeyed
      settled = get_or-set_same homes item (Some rekeyed) None (omega (arith, low_item, stand.room))

      stays : (i : ℕ) → i ≢ item → home_at homes_keyed i ≡ home_at homes i
      stays i apart = get_or-set_other homes item i (Some rekeyed) None apart

      home_kept : (i l : ℕ) → is_home (home_at homes_keyed i) l ≡ is_home (home_at homes i) l
      home_kept i l = elim (cases_eq i item) [
        | inl same ↦ rw (same, settled, here) refl
        | inr apart ↦ ap (λ home. is_home home l) (stays i apart)
      ]

      known : (l : ℕ) (entry : Listed) → home_at homes entry.item ≡ Some (record { list = l; key = entry.key })
          → home_at homes_keyed (keyed item key entry).item ≡ Some (record { list = l; key = (keyed item key entry).key })
      known l entry is = at (eqb entry.item item) refl
        where
          at : (b : Bool) → eqb entry.item item ≡ b → home_at homes_keyed (cond b (record entry { key = key }) entry).item ≡ Some
              (record { list = l; key = (cond b (record entry { key = key }) entry).key })
          at true same =
              let this = eqb-true entry.item item same in
              let list : home.list ≡ l = cc (sym here ∙ ap (home_at homes) (sym this) ∙ is) in
              ap (home_at homes_keyed) this ∙ settled ∙ ap (λ n. Some (record { list = n; key = key })) list
          at false other = stays entry.item (λ same. absurd (grind (arith, nat_tests, same, other))) ∙ is

      within_kept : (i : ℕ) (h : Home) → home_at homes_keyed i ≡ Some h → h.list < length (rows_keyed lists)
      within_kept i h is = elim (cases_eq i item) [
        | inl same ↦
            let this : Some rekeyed ≡ Some h = sym settled ∙ ap (home_at homes_keyed) (sym same) ∙ is in
            let list : home.list ≡ h.list = cc (this) in
            omega (arith, list, stand.within item home here, sized)
        | inr apart ↦ omega (arith, stand.within i h (sym (stays i apart) ∙ is), sized)
      ]

      pub stand_keyed : StandFor items named named_back homes_keyed lens (rows_keyed lists)
      stand_keyed = record {
        rings = λ l low. rw (row_of lists l, items_kept (row_at lists l)) (stand.rings l (low_of l low));
        at_home = λ i l low. ap (has_item i) (row_of lists l) ∙ has_kept i (row_at lists l) ∙ stand.at_home i l (low_of l low) ∙ sym (home_kept i l);
        keys = λ l low. rw (row_of lists l)
            (All-map (λ (entry : Listed). home_at homes_keyed entry.item ≡ Some (record { list = l; key = entry.key })) (keyed item key) (row_at lists l)
            (All-weaker (λ (entry : Listed). home_at homes entry.item ≡ Some (record { list = l; key = entry.key }))
            (λ (entry : Listed). home_at homes_keyed (keyed item key entry).item ≡ Some (record { list = l; key = (keyed item key entry).key }))
            (known l) (row_at lists l) (stand.keys l (low_of l low))));
        once = λ l low. rw (row_of lists l, items_kept (row_at lists l)) (stand.once l (low_of l low));
        within = within_kept;
        counted = stand.counted ∙ sym (lengths_kept lists);
        few = omega (arith, stand.few, sized);
        nodes = stand.nodes ∙ ap (λ n. items + n) (sym sized);
        nodes_back = stand.nodes_back ∙ ap (λ n. items + n) (sym sized);
        room = length-set homes item (Some rekeyed) ∙ stand.room;
      }
