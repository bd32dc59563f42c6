-- The location of a value in a document, as the text that a fault carries. The top has the empty
-- text until it is carried.
use Rattle.std.specs.Prelude.{ℕ, List, [], ◌∷◌, ◌++◌, Option, Some, None, String, string_bytes, decimal, codes}
use Rattle.std.specs.declared.alloc.Global.{Global}
use Rattle.session_text.specs.declared.path.Location.{Location, fold-Location}
use Rattle.session_text.specs.declared.path.Location.TheOpen.{Location-F}

-- what a `Path` is seen as
abbrev pub bytes_of : Option (String Global) → List ℕ
bytes_of None = []
bytes_of (Some text) = string_bytes text

-- a member of the object at a location
abbrev pub member_path : List ℕ → List ℕ → List ℕ
member_path [] name = name
member_path (byte ∷ bytes) name = (byte ∷ bytes) ++ codes "." ++ name

-- an item of the array at a location
abbrev pub item_path : List ℕ → ℕ → List ℕ
item_path at index = at ++ codes "[" ++ decimal index ++ codes "]"

-- the text that a fault carries
abbrev pub path_text : List ℕ → List ℕ
path_text [] = codes "top"
path_text (byte ∷ bytes) = byte ∷ bytes

-- one step of the chain, where the text of the location above it is known
abbrev pub path_step : Location-F (List ℕ) → List ℕ
path_step Location-F.Top = []
path_step (Location-F.Member parent name) = member_path parent.now name.now
path_step (Location-F.Item parent index) = item_path parent.now index

abbrev pub path_of : Location → List ℕ
path_of = fold-Location (List ℕ) path_step
