-- The word that a text was meant to be, and how people are told a text of an input.
use Rattle.std.specs.Prelude.{ℕ, List, length, map, nat_eq, nat_le, nat_lt, Bool, ◌&&◌, Option, None, if◌then◌else◌}
use Rattle.std.specs.List.{find, list_all}
use Rattle.std.specs.Str.{chars}
use Rattle.strsim.specs.Edits.{levenshtein_row}
use Rattle.session_text.specs.declared.nearest.Shown.{Shown}
use Rattle.session_text.specs.declared.nearest.Shown.TheVariants.{Long, Text}
use Rattle.session_text.specs.declared.nearest.Stray.{Stray}
use Rattle.session_text.specs.Detail.{listed}

-- whether a text has more bytes than are told or compared
abbrev pub is_long : List ℕ → Bool
is_long text = nat_lt 64 (length text)

-- a byte itself from 0x20 to 0x7E, and else `?`
abbrev pub printable : ℕ → ℕ
printable byte = if nat_le 0x20 byte && nat_le byte 0x7E then byte else 0x3F

-- how a text is told
unfoldable pub shown : List ℕ → Shown
shown text = if is_long text then Long else Text (map printable text)

-- how many characters have to be put in, taken out or exchanged to make a word of a text
abbrev pub distance : List ℕ → List ℕ → ℕ
distance text word = levenshtein_row nat_eq (chars text) (chars word) (length (chars word))

-- no other word is nearer to the text than this one
abbrev pub is_nearest : List ℕ → List (List ℕ) → List ℕ → Bool
is_nearest text words word =
    list_all (λ other. nat_le (distance text word) (distance text other)) words

-- the first such word
unfoldable pub nearest_of : List ℕ → List (List ℕ) → Option (List ℕ)
nearest_of text words = find (is_nearest text words) words

-- the same; there is none for a long text
unfoldable pub nearest : List ℕ → List (List ℕ) → Option (List ℕ)
nearest text words = if is_long text then None else nearest_of text words

-- what is told of a text that is none of the words
abbrev pub stray : List ℕ → List (List ℕ) → Stray
stray text words =
    record { text = shown text; nearest = nearest text words; words = listed words }
