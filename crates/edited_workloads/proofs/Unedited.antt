-- A document without edits is read as a workload document.
use Rattle.std.proofs.Common.{◌≡◌, ℕ, List, [], Option, Some, None, Ok, refl, sym, ap, ◌∙◌, subst}
use Rattle.std.specs.Prelude.{codes}
use Rattle.serde_json.specs.Data.{Data}
use Rattle.serde_json.specs.Find.{get}
use Rattle.session_text.specs.ReadingRules.{◌>>=◌}
use Rattle.workload_text.specs.Workloads.{document_at, workload_text}
use Rattle.edited_workloads.specs.Edited.{edited_document_at, edited_with, edited_workload_text, unedited, unedited_at, unedited_text, IsUnedited}

without_edits : (at : List ℕ) (d : Data) (workload : Option Data) → edited_with at d workload None ≡ unedited_at at d
without_edits at d (Some inner) = refl
without_edits at d None = refl

unedited_data : (d : Data) → get (codes "edits") d ≡ None → edited_document_at [] d ≡ unedited_at [] d
unedited_data d none = ap (edited_with [] d (get (codes "workload") d)) none ∙ without_edits [] d (get (codes "workload") d)

pub unedited_law : (text : List ℕ) → IsUnedited text → edited_workload_text text ≡ unedited_text text
unfolding edited_workload_text workload_text
unedited_law text h =
    subst (λ read. (read >>= edited_document_at []) ≡ ((read >>= document_at []) >>= λ workload. Ok (unedited workload))) (sym h.1) (unedited_data h.0 h.2)
