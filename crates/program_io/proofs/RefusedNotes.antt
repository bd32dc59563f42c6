-- What is told of a text that is refused, by whether it is JSON.
use Rattle.std.proofs.Common.{◌≡◌, ℕ, List, [], Bool, true, false, None, Result, Ok, Err, IfOk, String, string_bytes, sym, ap, ◌∙◌, ◌&&◌, refl}
use Rattle.std.specs.Prelude.{is_some, if◌then◌else◌}
use Rattle.std.specs.declared.alloc.Global.{Global}
use Rattle.std.specs.Str.{IsUtf8, is_utf8}
use Rattle.std.proofs.lemmas.Str.{IsUtf8-from_is_utf8, is_utf8-from_IsUtf8}
use Rattle.serde_json.specs.Read.{read}
use Rattle.program_io.specs.Twice.{is_json, twice_note, twice_note_of_refused}

-- a text that is read is JSON
pub json_read : (text : List ℕ) → IsUtf8 text → is_some (read text) ≡ true → is_json text ≡ true
json_read text utf8 some = ap (λ (b : Bool). b && is_some (read text)) (is_utf8-from_IsUtf8 text utf8) ∙ some

-- one that is not read is none
no_json : (text : List ℕ) → (IsUtf8 text → read text ≡ None) → is_json text ≡ false
no_json text none = go (is_utf8 text) refl
  where
    go : (test : Bool) → is_utf8 text ≡ test → is_json text ≡ false
    go true is = ap (λ (b : Bool). b && is_some (read text)) is ∙ ap is_some (none (IsUtf8-from_is_utf8 text is))
    go false is = ap (λ (b : Bool). b && is_some (read text)) is

-- of JSON its note is told
pub json_noted : {E : Type 0} (text : List ℕ) (result : Result (String Global) E) → is_json text ≡ true → IfOk result
    (λ note. string_bytes note ≡ twice_note text) → IfOk result (λ note. string_bytes note ≡ twice_note_of_refused text)
json_noted text (Err e) json noted = tt
json_noted text (Ok note) json noted = noted ∙ sym (ap (λ (b : Bool). if b then twice_note text else []) json)

-- of what is none nothing
pub nothing_noted : (text note : List ℕ) → note ≡ [] → (IsUtf8 text → read text ≡ None) → note ≡ twice_note_of_refused text
nothing_noted text note is none = is ∙ sym (ap (λ (b : Bool). if b then twice_note text else []) (no_json text none))
