-- Where a path leads in a JSON value, by the index of the token at which the location begins.
use Rattle.std.specs.Prelude.{ℕ, zero, suc, ◌+◌, List, [], ◌∷◌, length, bytes_eq, Option, Some, None, option_map, option_and_then, if◌then◌else◌}
use Rattle.std.specs.Option.{option_map_or}
use Rattle.json.specs.Token.{Token}
use Rattle.json.specs.Json.{Json, Items, no_items, Members, no_members, value, max_depth, if_last}
use Rattle.json.specs.Json as json
use Rattle.json.specs.Lex.{tokens}
use Rattle.json.specs.Find.{as_array, as_object}
use Rattle.json.specs.Tree.{json_tokens}
use Rattle.text_locations.specs.declared.location.TextLocation.{TextLocation}
use Rattle.text_locations.specs.Path.{Part, member, item, Target, parts_of}
use Rattle.text_locations.specs.Location.{location_at}
use Rattle.text_locations.specs.Starts.{token_start}

-- how many tokens a value has
abbrev pub size : Json → ℕ
size whole = length (json_tokens whole)

-- the first, or where there is none the second
abbrev pub or_earlier : {A : Type 0} → Option A → Option A → Option A
or_earlier None earlier = earlier
or_earlier (Some a) earlier = Some a

-- the item of that index with the index of its first token, where the items begin at this one
abbrev pub nth_item : ℕ → ℕ → Items → Option (ℕ × Json)
nth_item at n no_items = None
nth_item at zero (json.item first rest) = Some (at, first)
nth_item at (suc n) (json.item first rest) = nth_item (at + size first) n rest

-- the last member of that name with the index of its value's first token
abbrev pub last_member : ℕ → List ℕ → Members → Option (ℕ × Json)
last_member at name no_members = None
last_member at name (json.member key first rest) =
    or_earlier (last_member (at + 1 + size first) name rest)
    (if bytes_eq key name then Some (at + 1, first) else None)

-- where the parts lead in a value that begins at a token: a member that is missing leads to the
-- object that lacks it
abbrev pub led_to : List Part → ℕ → Json → Option ℕ
led_to [] at whole = Some at
led_to (member name ∷ rest) at whole =
    option_and_then
    (λ all. option_map_or (λ found. led_to rest found.0 found.1) (last_member (at + 1) name all)
    (Some at))
    (as_object whole)
led_to (item n ∷ rest) at whole =
    option_and_then
    (λ all. option_and_then (λ found. led_to rest found.0 found.1) (nth_item (at + 1) n all))
    (as_array whole)

-- the same of what is wanted of a value
abbrev pub wanted_at : Target → ℕ → Json → Option ℕ
wanted_at target at whole = option_and_then (λ path. led_to path at whole) target

-- the tokens are one value, and the parts lead somewhere in it
abbrev pub led_in : List Token → List Part → Option ℕ
led_in ts path =
    option_and_then (led_to path 0)
    (option_and_then (λ read. if_last read.0 read.1) (value max_depth ts))

-- the location in a text of what a path names
abbrev pub location_of : List ℕ → List ℕ → Option TextLocation
location_of text path =
    option_map (location_at text)
    (option_and_then (token_start text) (led_in (tokens text) (parts_of path)))

-- the location in a text of a token
abbrev pub token_location : List ℕ → ℕ → Option TextLocation
token_location text index = option_map (location_at text) (token_start text index)
