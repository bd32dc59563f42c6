-- What is told of an input.
use Rattle.std.specs.Prelude.{◌≡◌, ℕ, List, length, Bool, true, false, ◌&&◌, nat_lt, Option, Some, None, is_none, position, Result, Ok, Err}
use Rattle.serde_json.specs.Data.{Data}
use Rattle.bench_types.specs.Limits.{max_input, max_steps}
use Rattle.kept_edits.specs.declared.edit.KeptEdit.{KeptEdit}
use Rattle.kept_edits.specs.Edits.{plain_edit}
use Rattle.session_text.specs.declared.bench.Bench.{Bench}
use Rattle.session_text.specs.declared.fault.TextFault.{TextFault}
use Rattle.session_text.specs.declared.fault.Why.{Why}
use Rattle.session_text.specs.declared.fault.Why.TheVariants.{NotJson}
use Rattle.session_text.specs.Bench.{kept_bench_text}
use Rattle.session_text.specs.Session.{document}
use Rattle.task_programs.specs.declared.flaw.WorkloadFlaw.{WorkloadFlaw}
use Rattle.edited_workloads.specs.declared.document.EditedWorkload.{EditedWorkload}
use Rattle.workload_text.specs.Documents.{is_workload_text}
use Rattle.edited_workloads.specs.Edited.{edited_workload_text}
use Rattle.program_io.specs.Outputs.{Printed}
use Rattle.program_io.specs.Refusal.{IsPrintedFault}
use Rattle.program_io.specs.Twice.{twice_note, twice_note_of_refused, warned}
use Rattle.view_commands.specs.declared.edited.EditedSource.TheVariants as edited
use Rattle.view_commands.specs.declared.request.Documents.{Documents}
use Rattle.view_commands.specs.declared.request.Documents.TheVariants.{All, Workloads}
use Rattle.view_commands.specs.declared.request.Job.{Job}
use Rattle.view_commands.specs.declared.request.SessionRuns.{SessionRuns}
use Rattle.view_commands.specs.declared.request.SessionRuns.TheVariants.{AsWritten, Settled, Kept}
use Rattle.view_commands.specs.Answers.{IsNoted}
use Rattle.view_commands.specs.EditedSources.{session_source}
use Rattle.view_commands.specs.Refusals.{no_kept, no_workload, refused_lines, too_long_input, too_many_steps, too_many_ticks}
use Rattle.view_commands.specs.Ticks.{both_ticked, ticks_of}

-- a refusal where the test says so, and else what the claim says
abbrev pub IsRefusedOr : Bool → Printed → Type 0 → Printed → Type 0
IsRefusedOr true refused claim printed = printed ≡ refused
IsRefusedOr false refused claim printed = claim

-- where the first of the edits stands for which a session is not shown by such runs: changes of
-- work are shown by runs that keep work alone
abbrev pub unshown_edit : SessionRuns → List KeptEdit → Option ℕ
unshown_edit AsWritten edits = position (λ edit. is_none (plain_edit edit)) edits
unshown_edit Settled edits = position (λ edit. is_none (plain_edit edit)) edits
unshown_edit (Kept order) edits = None

-- J2 comes after all other refusals of the document
abbrev pub IsPrintedOfSession : List ℕ → Job → Bench KeptEdit → Printed → Type 0
IsPrintedOfSession lines job bench printed =
    IsRefusedOr (nat_lt max_steps (length bench.steps)) (warned lines too_many_steps)
    (IsNoted lines job
    (session_source job.sessions (record { header = bench.header; steps = bench.steps })
    bench.edits)
    printed)
    printed

-- by the first of its edits for which it is not shown
abbrev pub IsPrintedUnless : Option ℕ → List ℕ → Job → Bench KeptEdit → Printed → Type 0
IsPrintedUnless (Some place) lines job bench printed = printed ≡ warned lines (no_kept place)
IsPrintedUnless None lines job bench printed = IsPrintedOfSession lines job bench printed

-- what is told begins with lines
abbrev pub IsPrintedOfBench : List ℕ → Job → Bench KeptEdit → Printed → Type 0
IsPrintedOfBench lines job bench printed =
    IsPrintedUnless (unshown_edit job.sessions bench.edits) lines job bench printed

-- the first line says that a member stands twice, where one does
abbrev pub IsPrintedOfText :
    Job → List ℕ → Result (Bench KeptEdit) TextFault → Printed → Type 0
IsPrintedOfText job input (Ok bench) printed = IsPrintedOfBench (twice_note input) job bench printed
IsPrintedOfText job input (Err fault) printed = IsPrintedFault refused_lines input fault printed

-- F5 where the ticks that are asked for are too many
abbrev pub IsPrintedOfTicked : List ℕ → Job → Result EditedWorkload WorkloadFlaw → Printed → Type 0
IsPrintedOfTicked lines job (Ok made) printed = IsNoted lines job (edited.Workload made) printed
IsPrintedOfTicked lines job (Err flaw) printed = printed ≡ warned lines too_many_ticks

-- of a workload, likewise
abbrev pub IsPrintedOfWorkload : Job → List ℕ → Result EditedWorkload TextFault → Printed → Type 0
IsPrintedOfWorkload job input (Ok made) printed =
    IsPrintedOfTicked (twice_note input) job (both_ticked (ticks_of job.documents) made) printed
IsPrintedOfWorkload job input (Err fault) printed =
    IsPrintedFault refused_lines input fault printed

-- H2 where a workload is wanted, and the document is none
abbrev pub IsPrintedOfNone : List ℕ → Result Data TextFault → Printed → Type 0
IsPrintedOfNone input (Ok d) printed = printed ≡ warned (twice_note_of_refused input) no_workload
IsPrintedOfNone input (Err fault) printed = IsPrintedFault refused_lines input fault printed

-- by which documents are read, what is told of a text that is no workload
abbrev pub IsPrintedOfOther : Documents → Job → List ℕ → Printed → Type 0
IsPrintedOfOther All job input printed = IsPrintedOfText job input (kept_bench_text input) printed
IsPrintedOfOther (Workloads ticks) job input printed =
    IsPrintedOfNone input (document input) printed

-- by whether the text is a workload
abbrev pub IsPrintedOfDocument : Bool → Job → List ℕ → Printed → Type 0
IsPrintedOfDocument true job input printed =
    IsPrintedOfWorkload job input (edited_workload_text input) printed
IsPrintedOfDocument false job input printed = IsPrintedOfOther job.documents job input printed

-- what is told of an input; H3 where that is too long
unfoldable pub IsView : Job → List ℕ → Printed → Type 0
IsView job input printed =
    IsRefusedOr (nat_lt max_input (length input)) too_long_input
    (IsPrintedOfDocument (is_workload_text input) job input printed) printed

-- ---- there is one

abbrev pub is_json_fault : Why → Bool
is_json_fault NotJson = false
is_json_fault why = true

-- what is read of a text is not refused for being no JSON
abbrev pub is_json : {A : Type 0} → Result A TextFault → Bool
is_json (Ok document) = true
is_json (Err fault) = is_json_fault fault.why

-- the text is not, whatever it is read as
abbrev pub is_json_text : List ℕ → Bool
is_json_text input = is_json (kept_bench_text input) && is_json (edited_workload_text input)

-- The same is told. Only of a text that is no JSON nothing is said of the place that is told.
pub record IsSame (input : List ℕ) (printed other : Printed) : Type 0 where
  pub status : printed.status ≡ other.status
  pub text : printed.text ≡ other.text
  pub note : is_json_text input ≡ true → printed.note ≡ other.note

-- one thing alone is told of each input
abbrev pub ViewIsOne : Type 0
ViewIsOne =
    (job : Job) (input : List ℕ) (printed other : Printed) → IsView job input printed
    → IsView job input other → IsSame input printed other
