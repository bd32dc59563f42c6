-- A workload document with edits: they are made one after another, on its JSON data.
use Rattle.std.specs.Prelude.{◌≡◌, ℕ, suc, ◌-◌, List, [], ◌∷◌, codes, length, nat_le, nat_lt, Option, Some, None, option_and_then, Result, Ok, Err, ⊤, if◌then◌else◌}
use Rattle.serde_json.specs.Data.{Data, depth}
use Rattle.serde_json.specs.Find.{get}
use Rattle.serde_json.specs.Read.{max_depth}
use Rattle.bench_types.specs.declared.fault.Fault.{Fault}
use Rattle.bench_types.specs.declared.fault.Fault.TheVariants.{BadArgument, BadMutex}
use Rattle.bench_types.specs.declared.header.Header.{Header}
use Rattle.bench_types.specs.declared.step_flaw.StepFlaw.TheVariants.{Task}
use Rattle.session_text.specs.declared.detail.BrokenRule.{BrokenRule}
use Rattle.session_text.specs.declared.detail.BrokenRule.TheVariants.{Edits, NoItem}
use Rattle.session_text.specs.declared.detail.Detail.TheVariants as detail
use Rattle.session_text.specs.declared.fault.TextFault.{TextFault}
use Rattle.session_text.specs.declared.fault.Why.TheVariants.{Bench}
use Rattle.session_text.specs.Accepted.{item_fault, item_of}
use Rattle.session_text.specs.Array.{list_at}
use Rattle.session_text.specs.Member.{object_at, only_at}
use Rattle.session_text.specs.Names.{known_names, user_names}
use Rattle.session_text.specs.Path.{item_path, member_path, path_text}
use Rattle.session_text.specs.ReadingRules.{◌>>=◌}
use Rattle.session_text.specs.Session.{document, not_json}
use Rattle.task_programs.specs.declared.workload.Workload.{Workload}
use Rattle.workload_edits.specs.declared.edit.TaskEdit.{TaskEdit}
use Rattle.workload_edits.specs.Edits.{edited}
use Rattle.edited_workloads.specs.declared.document.EditedWorkload.{EditedWorkload}
use Rattle.workload_text.specs.Edits.{edit_at}
use Rattle.workload_text.specs.Workloads.{Shapes, document_at, shapes_at, workload_accepted, workload_at, workload_text}

-- F1 to F5 at a location where a rule is broken
abbrev pub broken : Fault → BrokenRule → List ℕ → TextFault
broken which rule at =
    record { why = Bench which; path = path_text at; detail = detail.Rule rule }

-- a document has at most this many edits
abbrev pub most_edits : ℕ
most_edits = 1000

-- F5 at the edits where there are more
abbrev pub few_edits : List ℕ → List TaskEdit → Result ⊤ TextFault
few_edits at edits =
    if nat_le (length edits) most_edits then Ok tt
    else Err (broken BadArgument (Edits most_edits) (member_path at (codes "edits")))

-- the index of the task that an edit names, by its number; F3 at the edit where it names none
abbrev pub task_index : Header → List ℕ → Option Data → ℕ → Result ℕ TextFault
task_index header at d task =
    if nat_lt task header.config.cores then Err (item_fault (user_names header) at d (Task task))
    else Ok (task - header.config.cores)

-- F4 at the path of an edit where no item stands there
abbrev pub made_or_fault : List ℕ → Option Data → Result Data TextFault
made_or_fault at (Some made) = Ok made
made_or_fault at None = Err (broken BadMutex NoItem (member_path at (codes "item")))

-- data that a text spells, or H1: it nests too deep for one
abbrev pub spelled : Data → Result Data TextFault
spelled d = if nat_le (depth d) max_depth then Ok d else Err not_json

-- the workload that data at a location is
abbrev pub read_at : List ℕ → Data → Result Workload TextFault
read_at home d = do
  same ← spelled d
  workload_at home same

-- what is read, or its fault, told at another location
abbrev pub told_at : {A : Type 0} → List ℕ → Result A TextFault → Result A TextFault
told_at at (Ok x) = Ok x
told_at at (Err fault) =
    Err (record { why = fault.why; path = path_text at; detail = fault.detail })

-- the data that an edit leaves, and the workload that it is
unfoldable pub edit_made :
    Header → List ℕ → List ℕ → Option Data → TaskEdit → Data → Result (Data × Workload) TextFault
edit_made header home at d edit workload = do
  index ← task_index header at d edit.task
  made ← made_or_fault at (option_and_then (λ said. edited index edit.change said workload) d)
  read ← told_at at (read_at home made)
  Ok (made, read)

-- the edits from an index on of the array at a location, and the workload that the last one leaves
abbrev pub edits_made :
    Header → List ℕ → List ℕ → Option Data → ℕ → List TaskEdit → Data → Option Workload
    → Result (Option Workload) TextFault
edits_made header home at array index [] workload last = Ok last
edits_made header home at array index (edit ∷ rest) workload last = do
  made ← edit_made header home (item_path at index) (item_of index array) edit workload
  edits_made header home at array (suc index) rest made.0 (Some made.1)

abbrev pub edited_members : List (List ℕ)
edited_members = codes "workload" ∷ codes "edits" ∷ []

-- what the workload has that was found as the member `workload`, and its edits; shapes alone are
-- judged
unfoldable pub edited_shapes_at : List ℕ → Data → Data → Result (Shapes × List TaskEdit) TextFault
edited_shapes_at at d inner = do
  members ← object_at at d
  shapes ← shapes_at (member_path at (codes "workload")) inner
  edits ← list_at (edit_at (known_names shapes.0)) at (codes "edits") d
  only ← only_at at edited_members members
  Ok (shapes, edits)

-- the faults of the workload come before those of the edits
unfoldable pub edited_accepted :
    List ℕ → Data → Data → Shapes → List TaskEdit → Result EditedWorkload TextFault
edited_accepted at d inner shapes edits = do
  workload ← workload_accepted (member_path at (codes "workload")) shapes
  few ← few_edits at edits
  last ← edits_made workload.header (member_path at (codes "workload"))
      (member_path at (codes "edits")) (get (codes "edits") d) 0 edits inner None
  Ok (record { workload = workload; edited = last })

-- a workload and its edits
unfoldable pub edited_at : List ℕ → Data → Data → Result EditedWorkload TextFault
edited_at at d inner = do
  read ← edited_shapes_at at d inner
  edited_accepted at d inner read.0 read.1

-- a workload without edits
abbrev pub unedited : Workload → EditedWorkload
unedited workload = record { workload = workload; edited = None }

abbrev pub unedited_at : List ℕ → Data → Result EditedWorkload TextFault
unedited_at at d = do
  workload ← document_at at d
  Ok (unedited workload)

abbrev pub edited_with : List ℕ → Data → Option Data → Option Data → Result EditedWorkload TextFault
edited_with at d (Some inner) (Some edits) = edited_at at d inner
edited_with at d (Some inner) None = unedited_at at d
edited_with at d None edits = unedited_at at d

-- what has no members `workload` and `edits` is read as a workload document without edits
abbrev pub edited_document_at : List ℕ → Data → Result EditedWorkload TextFault
edited_document_at at d = edited_with at d (get (codes "workload") d) (get (codes "edits") d)

-- the workload that a text spells, and what its edits make of it, or its first fault
unfoldable pub edited_workload_text : List ℕ → Result EditedWorkload TextFault
edited_workload_text text = do
  d ← document text
  edited_document_at [] d

-- the same of a text whose document has no edits
abbrev pub unedited_text : List ℕ → Result EditedWorkload TextFault
unedited_text text = do
  workload ← workload_text text
  Ok (unedited workload)

-- a text spells a document without a member `edits`
abbrev pub IsUnedited : List ℕ → Type 0
IsUnedited text = (d : Data) × (document text ≡ Ok d) × (get (codes "edits") d ≡ None)
