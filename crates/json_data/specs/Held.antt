-- Members that are held. Private clauses alone cite it.
use Rattle.std.specs.Prelude.{◌≡◌, ℕ, List, [], ◌∷◌, true, bytes_eq, is_some, Option, Some, None, if◌then◌else◌}
use Rattle.json.specs.Json as json
use Rattle.json.specs.Find.{BeginsWith}
use Rattle.serde_json.specs.Data.{Data, Members}
use Rattle.serde_json.specs.Find.{as_object, get}
use Rattle.json_data.specs.declared.gathered.Named.{Named}
use Rattle.json_data.specs.declared.item.Item.{Item}
use Rattle.json_data.specs.Reading.{least_unknown, lesser_unknown}
use Rattle.json_data.specs.View.{view}

-- the later of two, where there is one
abbrev pub later : Option Data → Option Data → Option Data
later None earlier = earlier
later (Some d) earlier = Some d

-- the value of the last one of a name
abbrev pub last_named : List ℕ → List (Option Named) → Option Data
last_named name [] = None
last_named name (None ∷ more) = last_named name more
last_named name (Some it ∷ more) =
    later (last_named name more) (if bytes_eq it.name.now name then Some (view it.value) else None)

-- the lesser of the least name so far and those that are none of the known names
abbrev pub least_held : List (List ℕ) → List (Option Named) → Option (List ℕ) → Option (List ℕ)
least_held known [] least = least
least_held known (None ∷ more) least = least_held known more least
least_held known (Some it ∷ more) least =
    least_held known more (lesser_unknown known it.name.now least)

-- these members of an object were passed, in the order of the text, and the others follow
abbrev pub Passed : List (Option Named) → json.Members → json.Members → Type 0
Passed [] all rest = all ≡ rest
Passed (None ∷ more) all rest = ⊥
Passed (Some it ∷ more) json.no_members rest = ⊥
Passed (Some it ∷ more) (json.member k j others) rest =
    (k ≡ it.name.now) × BeginsWith it.value.element j × Passed more others rest

-- All members of the object are held: each name finds the last one of it, and the least name that
-- is none of the known ones is that of the object.
abbrev pub IsGathered : List (Option Named) → Item → Type 0
IsGathered held item =
    (is_some (as_object (view item)) ≡ true)
    × ((name : List ℕ) → get name (view item) ≡ last_named name held)
    × ((known : List (List ℕ)) (all : Members) → as_object (view item) ≡ Some all
    → least_held known held None ≡ least_unknown known all)
