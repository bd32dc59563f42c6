-- The fields of `Lists`, and the lists that they stand for. Node `items + l` is the end of list l:
-- it closes the ring of the list's items.
use Rattle.std.specs.Prelude.{◌≡◌, ℕ, zero, suc, ◌+◌, ◌%◌, ◌<◌, ◌^◌, List, [], ◌∷◌, Bool, false, ◌==◌, Option, Some, None, length, map, slice_index}
use Rattle.std.specs.Prelude.{slice_index_or}
use Rattle.std.specs.List.{AllByRecursion, IsDistinct}
use Rattle.std.specs.Option.{option_map_or}
use Rattle.list_orders.specs.Search.{numbers}
use Rattle.index_lists.specs.declared.links.Link.{Link}
use Rattle.index_lists.specs.declared.links.Home.{Home}
use Rattle.index_lists.specs.Listed.{Listed, ListsView, items_of, has_item}
use Rattle.index_lists.specs.Rings.{nexts, prevs, IsRing}

abbrev pub home_at : List (Option Home) → ℕ → Option Home
home_at homes item = slice_index_or homes item None

-- the key of an item in a list
abbrev pub key_at : List (Option Home) → ℕ → ℕ
key_at homes item = option_map_or (λ home. home.key) (home_at homes item) 0

-- so many items from a node on
abbrev pub entries_from : List ℕ → List (Option Home) → ℕ → ℕ → List Listed
entries_from named homes zero node = []
entries_from named homes (suc n) node =
    record { item = node; key = key_at homes node }
    ∷ entries_from named homes n (slice_index named node)

-- what stands in each list
abbrev pub lists_in : ℕ → List ℕ → List (Option Home) → List ℕ → List (List Listed)
lists_in items named homes lens =
    map
    (λ list. entries_from named homes (slice_index lens list) (slice_index named (items + list)))
    (numbers (length lens))

abbrev pub seen_lists : ℕ → List Link → List (Option Home) → List ℕ → ListsView
seen_lists items links homes lens =
    record { items = items; lists = lists_in items (nexts links) homes lens }

-- a home with a key so many higher, modulo 2^32
abbrev pub raised_home : ℕ → Home → Home
raised_home by home = record home { key = (home.key + by) % 2 ^ 32 }

-- the home is this list
abbrev pub is_home : Option Home → ℕ → Bool
is_home home list = option_map_or (λ home. home.list == list) home false

-- The fields stand for the lists: each list, walked from its end in either direction, is a ring of
-- its items; each item's home is the list that it stands in, once, with its key.
pub record StandFor (items : ℕ) (named named_back : List ℕ) (homes : List (Option Home))
    (lens : List ℕ) (lists : List (List Listed)) : Type 0 where
  pub rings : (l : ℕ) → l < length lists
      → IsRing named named_back (items + l) (items_of (slice_index_or lists l []))
  pub at_home : (item l : ℕ) → l < length lists
      → has_item item (slice_index_or lists l []) ≡ is_home (home_at homes item) l
  pub keys : (l : ℕ) → l < length lists
      → AllByRecursion
      (λ entry. home_at homes entry.item ≡ Some (record { list = l; key = entry.key }))
      (slice_index_or lists l [])
  pub once : (l : ℕ) → l < length lists
      → IsDistinct (λ a b. a == b) (items_of (slice_index_or lists l []))
  pub within : (item : ℕ) (home : Home) → home_at homes item ≡ Some home
      → home.list < length lists
  pub counted : lens ≡ map length lists
  pub few : items + length lists < 2 ^ 32
  pub nodes : length named ≡ items + length lists
  pub nodes_back : length named_back ≡ items + length lists
  pub room : length homes ≡ items

-- the fields stand for what is seen of them
abbrev pub IsShape : ℕ → List Link → List (Option Home) → List ℕ → Type 0
IsShape items links homes lens =
    StandFor items (nexts links) (prevs links) homes lens
    (lists_in items (nexts links) homes lens)
