-- What people are told of a document in which an object has a member twice.
use Rattle.std.specs.Prelude.{ℕ, List, [], ◌++◌, length, Bool, ◌&&◌, is_some, nat_lt, Result, Ok, Err, if◌then◌else◌}
use Rattle.std.specs.Option.{option_map_or}
use Rattle.std.specs.Str.{is_utf8}
use Rattle.serde_json.specs.Read.{read}
use Rattle.bench_types.specs.Limits.{max_input}
use Rattle.json_data.specs.Doubled.{Key, doubled_in_text}
use Rattle.text_locations.specs.Leads.{token_location}
use Rattle.text_locations.specs.Quoted.{doubled_line}
use Rattle.session_text.specs.declared.fault.TextFault.{TextFault}
use Rattle.program_io.specs.Outputs.{Printed}

-- the line of a member of the text that stands again, by its key
abbrev pub key_line : List ℕ → Key → List ℕ
key_line text key = doubled_line key.name (token_location text key.token)

-- the line of the first member of the text that stands twice, or nothing where there is none
unfoldable pub twice_note : List ℕ → List ℕ
twice_note text = option_map_or (key_line text) (doubled_in_text text) []

-- the text is JSON
abbrev pub is_json : List ℕ → Bool
is_json text = is_utf8 text && is_some (read text)

-- the same of a text that is refused; one that is no JSON has no members
abbrev pub twice_note_of_refused : List ℕ → List ℕ
twice_note_of_refused text = if is_json text then twice_note text else []

-- the same by what a text is read as
abbrev pub twice_note_as_read : {A : Type 0} → List ℕ → Result A TextFault → List ℕ
twice_note_as_read text (Ok document) = twice_note text
twice_note_as_read text (Err fault) = twice_note_of_refused text

-- the same of an input, by what its text is read as; one that is too long has none
abbrev pub twice_note_of_input : {A : Type 0} → List ℕ → Result A TextFault → List ℕ
twice_note_of_input input document =
    if nat_lt max_input (length input) then [] else twice_note_as_read input document

-- the same is told, and these lines before its note
abbrev pub warned : List ℕ → Printed → Printed
warned lines printed = record printed { note = lines ++ printed.note }
