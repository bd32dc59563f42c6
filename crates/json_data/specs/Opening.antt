-- Members of an object, as they stand in a tape. Private clauses alone cite it.
use Rattle.std.specs.Prelude.{◌≡◌, ◌≤◌, List, true, is_some, Option, None, MatchOption, ⊤}
use Rattle.json.specs.Token.{Token}
use Rattle.json.specs.Json as json
use Rattle.json.specs.Find.{BeginsWith, InMembers}
use Rattle.json.specs.Find as json_find
use Rattle.json.specs.Tree.{depth}
use Rattle.serde_json.specs.Read.{of_json, max_depth}

-- the members of an object, where one begins
abbrev pub Opens : List Token → Option (List Token) → Type 0
Opens ts result =
    (j : json.Json) → BeginsWith ts j → MatchOption result (json_find.as_object j ≡ None)
    (λ rest. (ms : json.Members) × (j ≡ json.object ms) × InMembers rest ms)

-- serde_json reads each of the members
abbrev pub AreRead : json.Members → Type 0
AreRead json.no_members = ⊤
AreRead (json.member k j others) =
    (is_some (of_json j) ≡ true) × (depth j ≤ max_depth) × AreRead others

abbrev pub AreReadable : List Token → Type 0
AreReadable ts = (all : json.Members) × InMembers ts all × AreRead all
