-- What is told of a workload, whether it was read or not.
use Rattle.std.proofs.Common.{◌≡◌, ◌⊎◌, ℕ, List, [], Bool, true, false, ◌&&◌, Option, None, Some, Result, Ok, Err, IfOk, if◌then◌else◌, refl, sym, ap, subst, ◌∙◌, inl, inr}
use Rattle.std.specs.Prelude.{is_some}
use Rattle.std.specs.Str.{is_utf8}
use Rattle.serde_json.specs.Data.{Data}
use Rattle.serde_json.specs.Read.{read}
use Rattle.session_text.specs.declared.detail.Detail.TheVariants as detail
use Rattle.session_text.specs.declared.fault.TextFault.{TextFault}
use Rattle.session_text.specs.declared.fault.Why.TheVariants.{NoMemory}
use Rattle.session_text.specs.ReadingRules.{◌>>=◌}
use Rattle.session_text.specs.Session.{document, json_or_fault}
use Rattle.edited_workloads.specs.declared.document.EditedWorkload.{EditedWorkload}
use Rattle.edited_workloads.specs.Edited.{edited_document_at, edited_workload_text}
use Rattle.program_io.specs.Hint.{IsFaultHint}
use Rattle.program_io.specs.Outputs.{Printed}
use Rattle.program_io.specs.Refusal.{IsPrintedFault}
use Rattle.program_io.specs.Twice.{is_json, twice_note, twice_note_of_refused}
use Rattle.view_commands.specs.declared.request.Job.{Job}
use Rattle.view_commands.specs.Commands.{IsPrintedOfNone, IsPrintedOfTicked, IsPrintedOfWorkload}
use Rattle.view_commands.specs.Refusals.{refused_lines}
use Rattle.view_commands.specs.Ticks.{both_ticked, ticks_of}

-- want of memory is no refusal
no_hint : (input : List ℕ) (fault : TextFault) (printed : Printed) → fault ≡ record { why = NoMemory; path = []; detail = detail.None }
    → IsPrintedFault refused_lines input fault printed → ⊥
no_hint input fault printed none line = subst (λ (f : TextFault). IsFaultHint input f.why f.path f.detail line.hint) none line.is_hint

-- what is told of a workload that was not read
pub refused_workload : {E : Type 0} (job : Job) (input : List ℕ) (fault : TextFault) (result : Result Printed E) → (edited_workload_text input ≡ Err fault) ⊎
    (fault ≡ record { why = NoMemory; path = []; detail = detail.None })
    → IfOk result (λ printed. IsPrintedFault refused_lines input fault printed) → IfOk result (IsPrintedOfWorkload job input (edited_workload_text input))
refused_workload job input fault (Err e) reading line = tt
refused_workload job input fault (Ok printed) (inl read) line = subst (λ text. IsPrintedOfWorkload job input text printed) (sym read) line
refused_workload job input fault (Ok printed) (inr none) line = absurd (no_hint input fault printed none line)

-- what is told of a text that is no JSON, where a workload is wanted
pub refused_none : {E : Type 0} (input : List ℕ) (fault : TextFault) (result : Result Printed E) → (document input ≡ Err fault) ⊎
    (fault ≡ record { why = NoMemory; path = []; detail = detail.None })
    → IfOk result (λ printed. IsPrintedFault refused_lines input fault printed) → IfOk result (IsPrintedOfNone input (document input))
refused_none input fault (Err e) reading line = tt
refused_none input fault (Ok printed) (inl is) line = subst (λ text. IsPrintedOfNone input text printed) (sym is) line
refused_none input fault (Ok printed) (inr none) line = absurd (no_hint input fault printed none line)

-- a text that spells a workload is JSON
is_json_read : (utf8 : Bool) (found : Option Data) (next : Data → Result EditedWorkload TextFault) (made : EditedWorkload) →
    ((json_or_fault (if utf8 then found else None)) >>= next) ≡ Ok made → (utf8 && is_some found) ≡ true
is_json_read true (Some d) next made is = refl
is_json_read true None next made is = absurd (cc is)
is_json_read false found next made is = absurd (cc is)

json_of_workload : (input : List ℕ) (made : EditedWorkload) → edited_workload_text input ≡ Ok made → is_json input ≡ true
unfolding edited_workload_text
json_of_workload input made is = is_json_read (is_utf8 input) (read input) (λ d. edited_document_at [] d) made is

-- what is told of a workload that was read
pub workload_told : {E : Type 0} (job : Job) (input lines : List ℕ) (made : EditedWorkload) (result : Result Printed E) → edited_workload_text input ≡ Ok made
    → lines ≡ twice_note_of_refused input
    → IfOk result (IsPrintedOfTicked lines job (both_ticked (ticks_of job.documents) made))
    → IfOk result (IsPrintedOfWorkload job input (edited_workload_text input))
workload_told job input lines made (Err e) is are told = tt
workload_told job input lines made (Ok printed) is are told =
    let json = json_of_workload input made is in
    let whole : lines ≡ twice_note input = are ∙ ap (λ (b : Bool). if b then twice_note input else []) json in
    subst (λ text. IsPrintedOfWorkload job input text printed) (sym is)
    (subst (λ (some : List ℕ). IsPrintedOfTicked some job (both_ticked (ticks_of job.documents) made) printed) whole told)
