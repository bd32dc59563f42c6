-- Objects and their members: each reading takes the location of the object, the name of the member
-- and the value there.
use Rattle.std.specs.Prelude.{ℕ, ◌^◌, List, Bool, nat_lt, Option, Some, None, option_and_then, Result, Ok, Err, if◌then◌else◌, ⊤}
use Rattle.serde_json.specs.Data.{Data, Items, Members}
use Rattle.serde_json.specs.Find.{get, as_object, as_array, as_str, as_bool, as_number, as_u64}
use Rattle.json_data.specs.Reading.{least_unknown}
use Rattle.session_text.specs.declared.detail.Expected.{Expected}
use Rattle.session_text.specs.declared.detail.Expected.TheVariants.{Number, Text, Flag, Array, Object}
use Rattle.session_text.specs.declared.detail.Detail.TheVariants.{Missing, Unknown, Wrong}
use Rattle.session_text.specs.declared.fault.TextFault.{TextFault}
use Rattle.session_text.specs.Detail.{found_of}
use Rattle.session_text.specs.Nearest.{stray}
use Rattle.session_text.specs.ReadingRules.{◌>>=◌, found, bad_shape}
use Rattle.session_text.specs.Path.{member_path}

-- what was looked for in a value at a location, or H2 there: the value has to be something else
abbrev pub typed : {A : Type 0} → Expected → Data → Option A → List ℕ → Result A TextFault
typed expected d sought at = found sought at (Wrong expected (found_of d))

-- the object itself
abbrev pub object_at : List ℕ → Data → Result Members TextFault
object_at at d = typed Object d (as_object d) at

-- the items of the array itself
abbrev pub items_at : List ℕ → Data → Result Items TextFault
items_at at d = typed Array d (as_array d) at

-- a member of any type
abbrev pub member_at : List ℕ → List ℕ → Data → Result Data TextFault
member_at at name d = found (get name d) (member_path at name) Missing

-- a whole number from 0 to 4294967295, written without fraction or exponent
abbrev pub as_u32 : Data → Option ℕ
as_u32 d =
    option_and_then (λ n. if nat_lt n (2 ^ 32) then Some n else None)
    (option_and_then as_u64 (as_number d))

unfoldable pub number_at : List ℕ → List ℕ → Data → Result ℕ TextFault
number_at at name d = do
  value ← member_at at name d
  typed Number value (as_u32 value) (member_path at name)

-- the number that stands at a location, or another one where nothing does
abbrev number_or : ℕ → Option Data → List ℕ → Result ℕ TextFault
number_or other None at = Ok other
number_or other (Some value) at = typed Number value (as_u32 value) at

-- a number that may be left out: it is then another one
unfoldable pub number_or_at : ℕ → List ℕ → List ℕ → Data → Result ℕ TextFault
number_or_at other at name d = number_or other (get name d) (member_path at name)

unfoldable pub text_at : List ℕ → List ℕ → Data → Result (List ℕ) TextFault
text_at at name d = do
  value ← member_at at name d
  typed Text value (as_str value) (member_path at name)

-- true or false
unfoldable pub flag_at : List ℕ → List ℕ → Data → Result Bool TextFault
flag_at at name d = do
  value ← member_at at name d
  typed Flag value (as_bool value) (member_path at name)

unfoldable pub array_at : List ℕ → List ℕ → Data → Result Items TextFault
array_at at name d = do
  value ← member_at at name d
  typed Array value (as_array value) (member_path at name)

-- H2 at an object, where it has an unknown member
abbrev pub none_unknown : List ℕ → List (List ℕ) → Option (List ℕ) → Result ⊤ TextFault
none_unknown at names None = Ok tt
none_unknown at names (Some member) = Err (bad_shape at (Unknown (stray member names)))

-- no members beside the known ones, or H2 at the object
abbrev pub only_at : List ℕ → List (List ℕ) → Members → Result ⊤ TextFault
only_at at names members = none_unknown at names (least_unknown names members)
