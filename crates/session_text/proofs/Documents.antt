-- What `serde_json` says of a text, as the definition says it.
use Rattle.std.proofs.Common.{◌≡◌, ◌⊎◌, inl, inr, ℕ, Bool, true, false, List, [], Some, None, Ok, Err, refl}
use Rattle.std.specs.Prelude.{if◌then◌else◌}
use Rattle.std.specs.Str.{IsUtf8, is_utf8}
use Rattle.std.proofs.lemmas.Str.{IsUtf8-from_is_utf8, is_utf8-from_IsUtf8}
use Rattle.serde_json.specs.Data.{Data}
use Rattle.serde_json.specs.Read.{read}
use Rattle.session_text.specs.declared.detail.Detail.TheVariants as detail
use Rattle.json_data.specs.declared.document.Refused.{Refused}
use Rattle.json_data.specs.declared.document.Refused.TheVariants as refusal
use Rattle.session_text.specs.declared.fault.Why.TheVariants.{NotJson}
use Rattle.session_text.specs.ReadingRules.{no_memory}
use Rattle.session_text.specs.Session.{document, fault_of, json_or_fault, not_json}

pub document_read : (text : List ℕ) (d : Data) → IsUtf8 text → read text ≡ Some d → document text ≡ Ok d
document_read text d utf8 is = rw (is_utf8-from_IsUtf8 text utf8, is) refl

refused : (text : List ℕ) (test : Bool) → (test ≡ true → read text ≡ None) → json_or_fault (if test then read text else None) ≡ Err
    (record { why = NotJson; path = []; detail = detail.None })
refused text true none = rw (none refl) refl
refused text false none = refl

pub document_refused : (text : List ℕ) → (IsUtf8 text → read text ≡ None) → document text ≡ Err (record { why = NotJson; path = []; detail = detail.None })
document_refused text none = refused text (is_utf8 text) (λ utf8. none (IsUtf8-from_is_utf8 text utf8))

pub refused_reads : (text : List ℕ) (result : Refused) → (result ≡ refusal.NotJson → IsUtf8 text → read text ≡ None) →
    (document text ≡ Err (fault_of result)) ⊎ (fault_of result ≡ no_memory)
refused_reads text refusal.NotJson none = inl (document_refused text (none refl))
refused_reads text refusal.NoMemory none = inr refl

pub refused_at_once : (text : List ℕ) (result : Refused) → (result ≡ refusal.NoMemory → IsUtf8 text) → ¬ (IsUtf8 text) → fault_of result ≡ not_json
refused_at_once text refusal.NotJson utf8 no_text = refl
refused_at_once text refusal.NoMemory utf8 no_text = absurd (no_text (utf8 refl))
