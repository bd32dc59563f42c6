-- Why there is no document of a text.
use Rattle.std.specs.Prelude.{◌≡◌, ◌+◌, ◌<◌, ◌⊎◌, ℕ, List, length, IsSome}
use Rattle.json.specs.Json.{document}
use Rattle.json.specs.Lex.{tokens}
use Rattle.json.specs.Scratch.{tape_room}
use Rattle.json.specs.Token.{Token}
use Rattle.json.specs.declared.error.Error.{Error}
use Rattle.json.specs.declared.error.Error.TheVariants as error
use Rattle.json.specs.declared.scratch.Scratch.{Scratch}
use Rattle.json.specs.declared.tape.TheConstants.{MAX_LEN}
use Rattle.json_data.specs.declared.document.Refused.{Refused}
use Rattle.json_data.specs.declared.document.Refused.TheVariants.{NoMemory, NotJson}

-- by what `json` answers; a key that stands twice is no fault
abbrev pub refusal_of : Error → Refused
refusal_of error.Invalid = NotJson
refusal_of error.OutOfMemory = NoMemory
refusal_of error.TooLong = NoMemory
refusal_of error.DuplicateKey = NoMemory

-- The tokens of a text take memory, unless it has none, and so do its strings, unless the scratch
-- has room for it. A text of 4 GiB has no tape.
abbrev pub MayLackMemory : {A : Type 0} → Scratch A → List ℕ → Type 0
MayLackMemory scratch text =
    (0 < length (tokens text)) ⊎ (tape_room scratch < length text + 64) ⊎ (MAX_LEN < length text)

-- the tokens of a text that `json` reads
abbrev pub IsTape : List Token → Type 0
IsTape ts = (text : List ℕ) × (ts ≡ tokens text) × IsSome (document text)
