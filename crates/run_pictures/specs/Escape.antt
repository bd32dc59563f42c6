-- Words as text of XML.
use Rattle.std.specs.Prelude.{ℕ, List, [], ◌∷◌, ◌==◌, ◌||◌, Bool, not, nat_lt, codes, if◌then◌else◌}

-- a byte: those that mark up XML have names, and what is no ASCII character, which no name of a
-- task has, is a question mark
abbrev pub escaped : ℕ → List ℕ
escaped byte =
    if byte == 38 then codes "&amp;"
    else (if byte == 60 then codes "&lt;"
    else (if byte == 62 then codes "&gt;"
    else (if byte == 34 then codes "&quot;"
    else (if byte == 39 then codes "&#39;"
    else (if nat_lt byte 128 then byte ∷ [] else codes "?")))))

-- it is no mark of XML: none of `<`, `>` and the quotes
abbrev pub is_no_mark : ℕ → Bool
is_no_mark byte = not (byte == 60 || byte == 62 || byte == 34 || byte == 39)
