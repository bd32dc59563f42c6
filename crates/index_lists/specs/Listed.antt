-- Lists of items with keys, as the callers of `Lists` see them.
use Rattle.std.specs.Prelude.{◌≡◌, ℕ, ◌+◌, ◌%◌, ◌^◌, List, [], ◌∷◌, Bool, true, not, ◌==◌, if◌then◌else◌, nat_le, Option, Some, None, map, filter, find, option_map, unwrap_or}
use Rattle.std.specs.Prelude.{replicate, reverse, slice_index_or, slice_set}
use Rattle.std.specs.List.{list_any, position, after_first, IsDistinct}

-- an item in a list
pub record Listed : Type 0 where
  pub item : ℕ
  pub key : ℕ

pub record ListsView : Type 0 where
  -- how many items there are; they are the numbers below this one
  pub items : ℕ
  -- what stands in each list, from its first item on
  pub lists : List (List Listed)

-- nothing stands in any list
abbrev pub empty_lists : ℕ → ℕ → ListsView
empty_lists items lists = record { items = items; lists = replicate lists [] }

-- what stands in the list
abbrev pub list_at : ListsView → ℕ → List Listed
list_at view list = slice_index_or view.lists list []

-- the list holds this instead
abbrev pub with_list : ℕ → List Listed → ListsView → ListsView
with_list list entries view = record view { lists = slice_set view.lists list entries }

-- the item stands in the list
abbrev pub has_item : ℕ → List Listed → Bool
has_item item list = list_any (λ entry. entry.item == item) list

-- the list that the item stands in
abbrev pub list_of : ℕ → ListsView → Option ℕ
list_of item view = position (has_item item) view.lists

-- the key of the item in its list
abbrev pub key_of : ℕ → ListsView → Option ℕ
key_of item view =
    option_map (λ entry. entry.key)
    (find (λ entry. entry.item == item) (unwrap_or (find (has_item item) view.lists) []))

-- the list without the item
abbrev pub without_item : ℕ → List Listed → List Listed
without_item item list = filter (λ entry. not (entry.item == item)) list

-- the items of the list
abbrev pub items_of : List Listed → List ℕ
items_of list = map (λ entry. entry.item) list

-- each item stands in at most one list, and there once
pub record EachInOneList (view : ListsView) : Type 0 where
  pub one_list : (item list other : ℕ) → has_item item (list_at view list) ≡ true
      → has_item item (list_at view other) ≡ true → list ≡ other
  pub once : (list : ℕ) → IsDistinct (λ a b. a == b) (items_of (list_at view list))

-- the first item of the list
abbrev pub first_of : List Listed → Option ℕ
first_of [] = None
first_of (entry ∷ rest) = Some entry.item

-- the first item of the list and its key
abbrev pub first_entry : List Listed → Option (ℕ × ℕ)
first_entry [] = None
first_entry (entry ∷ rest) = Some (entry.item, entry.key)

-- the last item of the list and its key: the first of the list that is read from its end
abbrev pub last_entry : List Listed → Option (ℕ × ℕ)
last_entry list = first_entry (reverse list)

-- the item that stands right after this one in its list
abbrev pub next_of : ℕ → ListsView → Option ℕ
next_of item view = first_of
    (after_first (λ entry. entry.item == item) (unwrap_or (find (has_item item) view.lists) []))

-- the item with a key so many higher, modulo 2^32
abbrev pub raised : ℕ → Listed → Listed
raised by entry = record entry { key = (entry.key + by) % 2 ^ 32 }

-- the item with this key, and any other item as it is
abbrev pub keyed : ℕ → ℕ → Listed → Listed
keyed item key entry = if entry.item == item then record entry { key = key } else entry

-- an item stays in front of another of no lower key
abbrev pub lowest_first : Listed → Listed → Bool
lowest_first a b = nat_le a.key b.key
