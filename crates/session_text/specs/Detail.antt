-- What is known of a fault beside its code and its place.
use Rattle.std.specs.Prelude.{ℕ, List, [], ◌∷◌, ◌++◌, map, flat_map, codes}
use Rattle.serde_json.specs.Data.{Data, Num, unsigned, negative, float, null, boolean, number, string, array, object}
use Rattle.session_text.specs.declared.detail.Found.{Found}
use Rattle.session_text.specs.declared.detail.Found.TheVariants.{Whole, Other, Null, Text, Flag, Array, Object}

-- a number that has a value of 64 bits from 0 on, or another one
abbrev pub number_found : Num → Found
number_found (unsigned n) = Whole
number_found (negative z) = Other
number_found (float x) = Other

-- what a value is
abbrev pub found_of : Data → Found
found_of null = Null
found_of (boolean b) = Flag
found_of (number n) = number_found n
found_of (string s) = Text
found_of (array ds) = Array
found_of (object ms) = Object

-- words with a comma and a space between them
abbrev pub listed : List (List ℕ) → List ℕ
listed [] = []
listed (word ∷ rest) = word ++ flat_map (λ other. codes ", " ++ other) rest

-- the words of a table of words and what they stand for
abbrev pub words_of : {A : Type 0} → List (List ℕ × A) → List (List ℕ)
words_of entries = map (λ entry. entry.0) entries
