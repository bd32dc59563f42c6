-- The parts of a path. A path is the text that the fault of a document carries, such as
-- `steps[3].core`.
use Rattle.std.specs.Prelude.{ℕ, ◌^◌, List, [], ◌∷◌, length, take, map, filter, get_or, codes, Bool, false, ◌&&◌, ◌||◌, ◌==◌, ◌-◌, nat_lt, bytes_eq, Option}
use Rattle.std.specs.Prelude.{Some, None, if◌then◌else◌}
use Rattle.std.specs.List.{list_all, slice_split}
use Rattle.std.specs.Option.{option_map_or}
use Rattle.std.specs.Char.{is_ascii_digit}
use Rattle.std.specs.Str.Parse.{digits_value}

-- a member by its name, or an item by its index
pub data Part : Type 0 where
  member : List ℕ → Part
  item : ℕ → Part

-- `.` and `[`
abbrev pub is_separator : ℕ → Bool
is_separator byte = (byte == 46) || (byte == 91)

-- the number that digits write, where there are some and it has 64 bits
abbrev pub index_of : List ℕ → Option ℕ
index_of digits =
    if nat_lt 0 (length digits) && list_all is_ascii_digit digits
    && nat_lt (digits_value 10 digits) (2 ^ 64)
    then Some (digits_value 10 digits)
    else None

-- the bytes before the last one
abbrev pub all_but_last : List ℕ → List ℕ
all_but_last bytes = take (length bytes - 1) bytes

-- the last byte is `]`
abbrev pub ends_index : List ℕ → Bool
ends_index bytes = get_or bytes (length bytes - 1) 0 == 93

-- an index and `]` name an item, and all else a member
abbrev pub index_or_name : List ℕ → Part
index_or_name piece =
    if ends_index piece
    then option_map_or item (index_of (all_but_last piece)) (member piece)
    else member piece

abbrev pub has_bytes : List ℕ → Bool
has_bytes bytes = nat_lt 0 (length bytes)

-- what stands between the separators
abbrev pub parts : List ℕ → List Part
parts path = map index_or_name (filter has_bytes (slice_split is_separator path))

-- `top` names the whole value
abbrev pub parts_of : List ℕ → List Part
parts_of path = if bytes_eq path (codes "top") then [] else parts path

-- ---- what a path asks of a value: nothing, or where its parts lead

abbrev pub Target : Type 0
Target = Option (List Part)

-- the index of the item that is wanted next
abbrev pub next_item : Target → Option ℕ
next_item None = None
next_item (Some []) = None
next_item (Some (member name ∷ rest)) = None
next_item (Some (item index ∷ rest)) = Some index

-- the name of the member that is wanted next
abbrev pub next_member : Target → Option (List ℕ)
next_member None = None
next_member (Some []) = None
next_member (Some (member name ∷ rest)) = Some name
next_member (Some (item index ∷ rest)) = None

-- the parts that are left there
abbrev pub next_parts : Target → List Part
next_parts None = []
next_parts (Some []) = []
next_parts (Some (part ∷ rest)) = rest

-- the index of the value's own token, where it is wanted itself
abbrev pub itself : Target → ℕ → Option ℕ
itself None at = None
itself (Some []) at = Some at
itself (Some (part ∷ rest)) at = None

-- the same where an object is wanted too that lacks a member
abbrev pub itself_or_lacking : Target → ℕ → Option ℕ
itself_or_lacking None at = None
itself_or_lacking (Some []) at = Some at
itself_or_lacking (Some (member name ∷ rest)) at = Some at
itself_or_lacking (Some (item index ∷ rest)) at = None

-- the key is the name that is wanted
abbrev pub is_named : Option (List ℕ) → List ℕ → Bool
is_named None key = false
is_named (Some name) key = bytes_eq key name
