-- The words in which people are told of a location in a text, and of a member that stands twice.
use Rattle.std.specs.Prelude.{ℕ, List, [], ◌++◌, length, map, codes, decimal, ◌&&◌, nat_lt, nat_le, Option, Some, None, if◌then◌else◌}
use Rattle.text_locations.specs.declared.location.TextLocation.{TextLocation}

-- a printable ASCII character is told as it is, and each other byte as `?`
abbrev pub quoted_byte : ℕ → ℕ
quoted_byte byte = if nat_le 32 byte && nat_le byte 126 then byte else 63

abbrev pub max_quoted : ℕ
max_quoted = 64

abbrev pub twice_words : List ℕ → List ℕ
twice_words name =
    if nat_lt max_quoted (length name)
    then codes "a member with a long name stands twice, and the last one counts"
    else codes "the member \"" ++ map quoted_byte name
    ++ codes "\" stands twice, and the last one counts"

abbrev pub location_words : Option TextLocation → List ℕ
location_words None = []
location_words (Some location) =
    codes ": line " ++ decimal location.line ++ codes ", column " ++ decimal location.column

-- what people are told of a member that stands twice, by its name and where it stands again
abbrev pub doubled_line : List ℕ → Option TextLocation → List ℕ
doubled_line name location = twice_words name ++ location_words location ++ codes "\n"
