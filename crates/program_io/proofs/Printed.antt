-- What people are told of a text that was refused, and what was written where a write failed.
use Rattle.std.proofs.Common.{◌≡◌, ℕ, List, true, refl, None, Result, Ok, Err, IfOk, codes, ap, subst, ◌∙◌}
use Rattle.std.specs.Prelude.{is_err, Option, OnErr, String, string_bytes}
use Rattle.std.specs.declared.alloc.Global.{Global}
use Rattle.std.specs.Str.{IsUtf8}
use Rattle.std.proofs.lemmas.Str.{IsUtf8-from_is_utf8, is_utf8-from_IsUtf8}
use Rattle.serde_json.specs.Read.{read}
use Rattle.program_io.specs.Device.{AppendsPrefix}
use Rattle.session_text.specs.declared.fault.TextFault.{TextFault}
use Rattle.program_io.specs.Hint.{IsFaultHint, IsShortTextHint, TellsLocation}
use Rattle.program_io.specs.Outputs.{Printed}
use Rattle.program_io.specs.Refusal.{IsPrintedFault, refusal_line, why_text}
use Rattle.program_io.specs.Twice.{twice_note_of_refused, warned}

-- what a write that failed has written
pub part_written : {A E : Type 0} (result : Result A E) (old new : Option (List ℕ)) (bytes text : List ℕ) → is_err result ≡ true → OnErr result
    (AppendsPrefix old new bytes) → bytes ≡ text → AppendsPrefix old new text
part_written (Ok done) old new bytes text failed part same = absurd (cc failed)
part_written (Err fault) old new bytes text failed part same = subst (λ (text : List ℕ). AppendsPrefix old new text) same part

-- of a text
pub text_printed : {E : Type 0} (input text : List ℕ) (result : Result (String Global) E) → text ≡ input → IsUtf8 input → IfOk result
    (λ hint. read text ≡ None → TellsLocation (string_bytes hint))
    → IfOk result (λ hint. IsShortTextHint input (string_bytes hint))
text_printed input text (Err e) same utf8 printed = tt
text_printed input text (Ok hint) same utf8 printed = record {
  location = λ is none. printed (ap read same ∙ none);
  bytes = λ is. absurd (cc (is, is_utf8-from_IsUtf8 input utf8));
}

-- of bytes that are none
pub bytes_printed : {E : Type 0} (input : List ℕ) (result : Result (String Global) E) → (IsUtf8 input → ⊥) → IfOk result
    (λ hint. string_bytes hint ≡ codes "not JSON: not UTF-8\n") → IfOk result (λ hint. IsShortTextHint input (string_bytes hint))
bytes_printed input (Err e) none printed = tt
bytes_printed input (Ok hint) none printed = record {
  location = λ is. absurd (none (IsUtf8-from_is_utf8 input is));
  bytes = λ is. printed;
}

-- what is shown of each value that a result may be holds where it is one
pub where_ok : {A E : Type 0} {P : A → Type 0} (result : Result A E) → ((a : A) → result ≡ Ok a → P a) → IfOk result P
where_ok (Ok a) shown = shown a refl
where_ok (Err e) shown = tt

-- what is told of a text that was not read, after a line where a member stands twice
pub fault_printed : {E : Type 0} (Puts : List ℕ → List ℕ → Printed) (input : List ℕ) (fault : TextFault) (line hint note : List ℕ) (given : Printed)
    (result : Result Printed E) → line ≡ refusal_line (why_text fault.why) fault.path → IsFaultHint input fault.why fault.path fault.detail hint
    → note ≡ twice_note_of_refused input → given ≡ Puts line hint → IfOk result (λ printed. printed ≡ warned note given) → IfOk result
    (λ printed. IsPrintedFault Puts input fault printed)
fault_printed Puts input fault line hint note given (Err e) is_line is_hint is_note is_given is = tt
fault_printed Puts input fault line hint note given (Ok printed) is_line is_hint is_note is_given is = record {
  hint = hint;
  is_hint = is_hint;
  is_printed = is ∙ ap (warned note) is_given ∙ ap (λ (first : List ℕ). warned first (Puts line hint)) is_note
      ∙ ap (λ (refused : List ℕ). warned (twice_note_of_refused input) (Puts refused hint)) is_line;
}
