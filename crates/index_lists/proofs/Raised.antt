-- What the fields stand for after each key became so many higher.
use Rattle.std.proofs.Common.{◌≡◌, ℕ, ◌+◌, ◌<◌, ◌%◌, ◌^◌, List, [], ◌∷◌, length, map, Option, Some, None, option_map, refl, sym, ap, ◌∙◌, arith}
use Rattle.std.proofs.Math.ListN.{get_or-map}
use Rattle.std.proofs.lemmas.List.{length-map}
use Rattle.list_orders.proofs.Filters.{All-map, All-weaker}
use Rattle.index_lists.specs.declared.links.Home.{Home}
use Rattle.index_lists.specs.Listed.{Listed, items_of, has_item, raised}
use Rattle.index_lists.specs.Shape.{home_at, is_home, raised_home, StandFor}
use Rattle.index_lists.proofs.Fields.{row_at}

module _ (by : ℕ) where
  abbrev homes_raised : List (Option Home) → List (Option Home)
  homes_raised homes = map (option_map (raised_home by)) homes

  abbrev rows_raised : List (List Listed) → List (List Listed)
  rows_raised lists = map (map (raised by)) lists

  items_kept : (row : List Listed) → items_of (map (raised by) row) ≡ items_of row
  items_kept [] = refl
  items_kept (entry ∷ row) = ap (λ ns. entry.item ∷ ns) (items_kept row)

  has_kept : (item : ℕ) (row : List Listed) → has_item item (map (raised by) row) ≡ has_item item row
  has_kept item [] = refl
  has_kept item (entry ∷ row) = grind (arith, has_kept item row)

  home_kept : (home : Option Home) (l : ℕ) → is_home (option_map (raised_home by) home) l ≡ is_home home l
  home_kept None l = refl
  home_kept (Some home) l = refl

  home_of : (homes : List (Option Home)) (item : ℕ) → home_at (homes_raised homes) item ≡ option_map (raised_home by) (home_at homes item)
  home_of homes item = get_or-map (option_map (raised_home by)) homes item None

  row_of : (lists : List (List Listed)) (l : ℕ) → row_at (rows_raised lists) l ≡ map (raised by) (row_at lists l)
  row_of lists l = get_or-map (map (raised by)) lists l []

  lengths_kept : (lists : List (List Listed)) → map length (rows_raised lists) ≡ map length lists
  lengths_kept [] = refl
  lengths_kept (row ∷ lists) = ap (λ n. n ∷ map length (rows_raised lists)) (length-map row (raised by)) ∙ ap (λ ns. length row ∷ ns) (lengths_kept lists)

  within_kept : (home : Option Home) (other : Home) (n : ℕ) → ((is : Home) → home ≡ Some is → is.list < n) → option_map (raised_home by) home ≡ Some other →
      other.list < n
  within_kept None other n low is = absurd (cc is)
  within_kept (Some home) other n low is = let same : home.list ≡ other.list = ap (λ (h : Option Home). is_list h) is in omega (arith, same, low home refl)
    where
      is_list : Option Home → ℕ
      is_list None = 0
      is_list (Some home) = home.list

  module _ (items : ℕ) (named named_back : List ℕ) (homes : List (Option Home)) (lens : List ℕ) (lists : List (List Listed))
      (stand : StandFor items named named_back homes lens lists) where
    sized : length (rows_raised lists) ≡ length lists
    sized = length-map lists (map (raised by))

    low_of : (l : ℕ) → l < length (rows_raised lists) → l < length lists
    low_of l low = omega (arith, low, sized)

    pub stand_raised : StandFor items named named_back (homes_raised homes) lens (rows_raised lists)
    stand_raised = record {
      rings = λ l low. rw (row_of lists l, items_kept (row_at lists l)) (stand.rings l (low_of l low));
      at_home = λ item l low. ap (has_item item) (row_of lists l) ∙ has_kept item (row_at lists l) ∙ stand.at_home item l (low_of l low)
          ∙ sym (ap (λ home. is_home home l) (home_of homes item) ∙ home_kept (home_at homes item) l);
      keys = λ l low. rw (row_of lists l)
          (All-map (λ (entry : Listed). home_at (homes_raised homes) entry.item ≡ Some (record { list = l; key = entry.key })) (raised by) (row_at lists l)
          (All-weaker (λ (entry : Listed). home_at homes entry.item ≡ Some (record { list = l; key = entry.key }))
          (λ (entry : Listed). home_at (homes_raised homes) entry.item ≡ Some (record { list = l; key = (entry.key + by) % 2 ^ 32 }))
          (λ entry is. home_of homes entry.item ∙ ap (option_map (raised_home by)) is) (row_at lists l) (stand.keys l (low_of l low))));
      once = λ l low. rw (row_of lists l, items_kept (row_at lists l)) (stand.once l (low_of l low));
      within = λ item home is. let below = within_kept (home_at homes item) home (length lists) (λ h so. stand.within item h so) (sym (home_of homes item) ∙ is)
          in omega (arith, below, sized);
      counted = stand.counted ∙ sym (lengths_kept lists);
      few = let few = stand.few in omega (arith, few, sized);
      nodes = stand.nodes ∙ ap (λ n. items + n) (sym sized);
      nodes_back = stand.nodes_back ∙ ap (λ n. items + n) (sym sized);
      room = length-map homes (option_map (raised_home by)) ∙ stand.room;
    }
