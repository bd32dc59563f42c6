-- What the tokens of a JSON text stand for, as serde_json reads them.
use Rattle.std.specs.Prelude.{ℕ, zero, suc, List, [], ◌∷◌, Bool, true, false, ◌&&◌, Option, Some, None, option_map, option_and_then, unwrap_or, bytes_eq}
use Rattle.std.specs.Prelude.{if◌then◌else◌}
use Rattle.std.specs.Option.{option_map_or}
use Rattle.std.specs.List.{list_any}
use Rattle.std.specs.Ordering.{is_lt, nat_cmp}
use Rattle.std.specs.Cmp.Lexicographic.{slice_cmp}
use Rattle.json.specs.Token.{Token}
use Rattle.json.specs.Json as json
use Rattle.serde_json.specs.Data.{Data, null, Items, no_items, Members, no_members, member}
use Rattle.serde_json.specs.Find.{as_array}
use Rattle.serde_json.specs.Read.{of_json, max_depth, number_of}

-- the value that the tokens begin with, where serde_json reads one there
abbrev pub data_at : List Token → Option Data
data_at ts = option_and_then (λ p. of_json p.0) (json.value max_depth ts)

abbrev pub data_of : List Token → Data
data_of ts = unwrap_or (data_at ts) null

-- How many arrays and objects may still open after a token, where so many may before it; none where
-- one opens that nests too deep, and at a number without a value.
abbrev pub left_after : ℕ → Token → Option ℕ
left_after zero Token.begin_object = None
left_after (suc n) Token.begin_object = Some n
left_after n Token.end_object = Some (suc n)
left_after zero Token.begin_array = None
left_after (suc n) Token.begin_array = Some n
left_after n Token.end_array = Some (suc n)
left_after n (Token.key s) = Some n
left_after n (Token.string s) = Some n
left_after n (Token.number s) = option_map (λ value. n) (number_of s)
left_after n (Token.boolean b) = Some n
left_after n Token.null = Some n
left_after n Token.bad = Some n

-- arrays and objects nest no deeper than the number, and each number of the text has a value
unfoldable pub are_in_range : ℕ → List Token → Bool
are_in_range n [] = true
are_in_range n (t ∷ ts) = option_map_or (λ left. are_in_range left ts) (left_after n t) false

-- every member has one of the names
abbrev pub are_known : List (List ℕ) → Members → Bool
are_known names no_members = true
are_known names (member name d rest) = list_any (bytes_eq name) names && are_known names rest

-- the items that the tokens go on with, up to the bracket that closes their array
abbrev pub rest_of : List Token → Items
rest_of ts = unwrap_or (as_array (data_of (Token.begin_array ∷ ts))) no_items

-- the lesser of two names, by their bytes
abbrev pub lesser : List ℕ → List ℕ → List ℕ
lesser name other = if is_lt (slice_cmp nat_cmp other name) then other else name

-- the lesser of a name and the least so far; a known name counts for nothing
abbrev pub lesser_unknown : List (List ℕ) → List ℕ → Option (List ℕ) → Option (List ℕ)
lesser_unknown known name least =
    if list_any (bytes_eq name) known then least
    else Some (option_map_or (lesser name) least name)

-- the least name of a member that is none of the known names
abbrev pub least_unknown : List (List ℕ) → Members → Option (List ℕ)
least_unknown known no_members = None
least_unknown known (member name d rest) = lesser_unknown known name (least_unknown known rest)

-- the same of an object's keys as they stand in the text
abbrev pub least_unknown_key : List (List ℕ) → json.Members → Option (List ℕ)
least_unknown_key known json.no_members = None
least_unknown_key known (json.member k j rest) =
    lesser_unknown known k (least_unknown_key known rest)
