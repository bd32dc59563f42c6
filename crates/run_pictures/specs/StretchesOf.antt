-- Stretches of places at which a value stays the same.
use Rattle.std.specs.Prelude.{◌≡◌, ◌≢◌, ◌≤◌, ℕ, suc, ◌-◌, List, [], ◌∷◌, flat_map, replicate, Bool, if◌then◌else◌}
use Rattle.run_pictures.specs.declared.stretch.Stretch.{Stretch}

-- the stretches with one place more in front of them: the first of them is longer by it where the
-- value stays, and else the place is a stretch of its own
abbrev pub extended :
    {X : Type 0} → (X → X → Bool) → ℕ → X → List (Stretch X) → List (Stretch X)
extended same place value [] = record { first = place; last = place; value = value } ∷ []
extended same place value (stretch ∷ stretches) =
    if same stretch.value value then record stretch { first = place } ∷ stretches
    else record { first = place; last = place; value = value } ∷ stretch ∷ stretches

-- the stretches of values, the first of which stands at the place
abbrev pub stretches_of : {X : Type 0} → (X → X → Bool) → ℕ → List X → List (Stretch X)
stretches_of same place [] = []
stretches_of same place (value ∷ values) =
    extended same place value (stretches_of same (suc place) values)

-- the same places, with what the function gives for their value
abbrev pub with_value : {X Y : Type 0} → (X → Y) → Stretch X → Stretch Y
with_value f stretch =
    record { first = stretch.first; last = stretch.last; value = f stretch.value }

-- a stretch's value, once for each of its places
abbrev pub values_in : {X : Type 0} → Stretch X → List X
values_in stretch = replicate (suc stretch.last - stretch.first) stretch.value

-- the stretches follow one another, and the first begins at the place
abbrev pub Follow : {X : Type 0} → ℕ → List (Stretch X) → Type 0
Follow place [] = Unit {0}
Follow place (stretch ∷ stretches) =
    (stretch.first ≡ place) × (stretch.first ≤ stretch.last) × Follow (suc stretch.last) stretches

-- neighbours have not the same value
abbrev pub NeighboursDiffer : {X : Type 0} → List (Stretch X) → Type 0
NeighboursDiffer [] = Unit {0}
NeighboursDiffer (stretch ∷ []) = Unit {0}
NeighboursDiffer (stretch ∷ next ∷ stretches) =
    (stretch.value ≢ next.value) × NeighboursDiffer (next ∷ stretches)

-- the stretches tile the values, the first of which stands at the place: none overlaps, none is
-- missing, and each has the value of its places
pub record Tiles {X : Type 0} (place : ℕ) (values : List X) (stretches : List (Stretch X))
    : Type 0 where
  pub follow : Follow place stretches
  pub cover : flat_map values_in stretches ≡ values
  pub differ : NeighboursDiffer stretches
