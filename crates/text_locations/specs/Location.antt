-- Lines and columns of a text.
use Rattle.std.specs.Prelude.{◌≡◌, ℕ, ◌+◌, ◌≤◌, ◌==◌, Bool, not, List, length, take, count_by}
use Rattle.std.specs.List.{suffix_len}
use Rattle.text_locations.specs.declared.location.TextLocation.{TextLocation}

abbrev pub is_line_feed : ℕ → Bool
is_line_feed byte = byte == 10

-- 1, and one more for each line feed before the location
abbrev pub line_after : List ℕ → ℕ
line_after before = 1 + count_by is_line_feed before

-- 1, and one more for each byte since the last line feed before the location
abbrev pub column_after : List ℕ → ℕ
column_after before = 1 + suffix_len (λ byte. not (is_line_feed byte)) before

-- the location that follows the bytes
abbrev pub location_after : List ℕ → TextLocation
location_after before = record { line = line_after before; column = column_after before }

-- the location of the byte at the offset
abbrev pub location_at : List ℕ → ℕ → TextLocation
location_at text offset = location_after (take offset text)

-- the location of some byte of the text, or of its end
pub record IsLocationIn (text : List ℕ) (location : TextLocation) : Type 0 where
  pub offset : ℕ
  pub within : offset ≤ length text
  pub is : location ≡ location_at text offset
