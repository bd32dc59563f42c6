-- Arrays: their items are read in order, each at its own location.
use Rattle.std.specs.Prelude.{ℕ, suc, List, [], ◌∷◌, Result, Ok}
use Rattle.serde_json.specs.Data.{Data, Items, no_items, item}
use Rattle.session_text.specs.declared.fault.TextFault.{TextFault}
use Rattle.session_text.specs.ReadingRules.{◌>>=◌}
use Rattle.session_text.specs.Member.{array_at}
use Rattle.session_text.specs.Path.{item_path, member_path}

-- the items from an index on of the array at a location
abbrev pub each_at :
    {A : Type 0} → (List ℕ → Data → Result A TextFault) → List ℕ → ℕ → Items
    → Result (List A) TextFault
each_at read at index no_items = Ok []
each_at read at index (item d rest) = do
  first ← read (item_path at index) d
  others ← each_at read at (suc index) rest
  Ok (first ∷ others)

-- the items of the array that is this member of the object at a location
unfoldable pub list_at :
    {A : Type 0} → (List ℕ → Data → Result A TextFault) → List ℕ → List ℕ → Data
    → Result (List A) TextFault
list_at read at name d = do
  items ← array_at at name d
  each_at read (member_path at name) 0 items
