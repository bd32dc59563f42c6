-- Where the tokens of a text begin: each bracket, key, string, number and word.
use Rattle.std.specs.Prelude.{ℕ, ◌+◌, List, [], ◌∷◌, Bool, false, not, ◌&&◌, ◌||◌, ◌==◌, Option, slice_get, if◌then◌else◌}
use Rattle.json.specs.Word.{is_operator, is_space}
use Rattle.text_locations.specs.declared.starts.Mode.{Mode}
use Rattle.text_locations.specs.declared.starts.Mode.TheVariants.{Between, InWord, InString, InEscape}

-- a comma or a colon
abbrev pub is_mark : ℕ → Bool
is_mark byte = (byte == 44) || (byte == 58)

-- `"` begins a string, and ends it where no `\` stands before it; a bracket, a mark or a space ends
-- a number or a word
abbrev pub mode_after : Mode → ℕ → Mode
mode_after Between byte =
    if byte == 34 then InString
    else (if is_operator byte || is_space byte then Between else InWord)
mode_after InWord byte = if is_operator byte || is_space byte then Between else InWord
mode_after InString byte =
    if byte == 34 then Between else (if byte == 92 then InEscape else InString)
mode_after InEscape byte = InString

-- the byte is a token's first one
abbrev pub begins_token : Mode → ℕ → Bool
begins_token Between byte = not (is_mark byte || is_space byte)
begins_token InWord byte = is_operator byte && not (is_mark byte)
begins_token InString byte = false
begins_token InEscape byte = false

-- the offsets at which tokens begin, where the first byte stands at this one
abbrev pub starts : Mode → ℕ → List ℕ → List ℕ
starts mode at [] = []
starts mode at (byte ∷ bytes) =
    if begins_token mode byte
    then at ∷ starts (mode_after mode byte) (at + 1) bytes
    else starts (mode_after mode byte) (at + 1) bytes

-- where the token begins that has this index
abbrev pub token_start : List ℕ → ℕ → Option ℕ
token_start text index = slice_get (starts Between 0 text) index
