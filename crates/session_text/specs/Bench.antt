-- A bench document: a session and edits of it, or a session alone. What an edit may be is a matter
-- of the kind of document.
use Rattle.std.specs.Prelude.{ℕ, List, [], ◌∷◌, codes, Option, Some, None, Result, Ok, ⊤, All}
use Rattle.serde_json.specs.Data.{Data}
use Rattle.serde_json.specs.Find.{get}
use Rattle.bench_types.specs.declared.edit.Edit.{Edit}
use Rattle.bench_types.specs.declared.flaw.HeaderFlaw.{HeaderFlaw}
use Rattle.bench_types.specs.declared.header.Header.{Header}
use Rattle.bench_types.specs.declared.step.Step.{Step}
use Rattle.bench_types.specs.declared.step_flaw.StepFlaw.{StepFlaw}
use Rattle.bench_types.specs.Edit.{IsCheckedEdit}
use Rattle.bench_types.specs.StepFlaw.{edit_flaw}
use Rattle.bench_types.specs.Session.{IsSession}
use Rattle.kept_edits.specs.declared.edit.KeptEdit.{KeptEdit}
use Rattle.kept_edits.specs.Edits.{IsKeptEdit}
use Rattle.session_text.specs.declared.fault.TextFault.{TextFault}
use Rattle.session_text.specs.declared.format.Format.{Format}
use Rattle.session_text.specs.declared.bench.Bench.{Bench}
use Rattle.session_text.specs.Accepted.{items_accepted}
use Rattle.session_text.specs.Array.{list_at}
use Rattle.session_text.specs.Edit.{edit_at}
use Rattle.session_text.specs.KeptEdit.{kept_edit_at, kept_flaw}
use Rattle.session_text.specs.Member.{object_at, only_at}
use Rattle.session_text.specs.Names.{TaskNames, known_names, user_names}
use Rattle.session_text.specs.ReadingRules.{◌>>=◌}
use Rattle.session_text.specs.Path.{member_path}
use Rattle.session_text.specs.Session.{document, session_at, session_accepted}

-- how an edit is read, in a format and under the names of the tasks
abbrev pub EditReading : Type 0 → Type 0
EditReading E = Format → TaskNames → List ℕ → Data → Result E TextFault

-- the first thing for which an edit is not accepted under a header
abbrev pub EditFlaw : Type 0 → Type 0
EditFlaw E = Header → E → Option StepFlaw

abbrev pub bench_members : List (List ℕ)
bench_members = codes "session" ∷ codes "edits" ∷ []

-- a session with no edits
unfoldable pub unedited_at : {E : Type 0} → List ℕ → Data → Result (Bench E) TextFault
unedited_at at d = do
  read ← session_at at d
  held ← session_accepted at d read.1 read.2
  Ok (record { header = held.0; steps = held.1; edits = [] })

-- the header, accepted or not, of the session that was found as the member `session`, its steps,
-- and the edits, which are in its format; shapes alone are judged
unfoldable pub shapes_at :
    {E : Type 0} → EditReading E → List ℕ → Data → Data
    → Result (Result Header HeaderFlaw × List Step × List E) TextFault
shapes_at reading at d inner = do
  members ← object_at at d
  read ← session_at (member_path at (codes "session")) inner
  edits ← list_at (reading read.0 (known_names read.1)) at (codes "edits") d
  only ← only_at at bench_members members
  Ok (read.1, read.2, edits)

-- the first fault of the edits
unfoldable pub edits_accepted :
    {E : Type 0} → EditFlaw E → Header → List ℕ → Data → List E → Result ⊤ TextFault
edits_accepted flaw_of header at d edits =
    items_accepted (flaw_of header) (user_names header) (member_path at (codes "edits"))
    (get (codes "edits") d) 0 edits

-- the faults of the session come before those of the edits
unfoldable pub bench_accepted :
    {E : Type 0} → EditFlaw E → List ℕ → Data → Data → Result Header HeaderFlaw → List Step
    → List E → Result (Bench E) TextFault
bench_accepted flaw_of at d inner header steps edits = do
  held ← session_accepted (member_path at (codes "session")) inner header steps
  done ← edits_accepted flaw_of held.0 at d edits
  Ok (record { header = held.0; steps = held.1; edits = edits })

-- a session and its edits
unfoldable pub edited_at :
    {E : Type 0} → EditReading E → EditFlaw E → List ℕ → Data → Data
    → Result (Bench E) TextFault
edited_at reading flaw_of at d inner = do
  read ← shapes_at reading at d inner
  bench_accepted flaw_of at d inner read.0 read.1 read.2

abbrev bench_with :
    {E : Type 0} → EditReading E → EditFlaw E → List ℕ → Data → Option Data
    → Result (Bench E) TextFault
bench_with reading flaw_of at d (Some inner) = edited_at reading flaw_of at d inner
bench_with reading flaw_of at d None = unedited_at at d

-- what has no member `session` is read as a session
abbrev pub bench_at :
    {E : Type 0} → EditReading E → EditFlaw E → List ℕ → Data → Result (Bench E) TextFault
bench_at reading flaw_of at d = bench_with reading flaw_of at d (get (codes "session") d)

-- the bench document that a text spells with edits of a kind, or its first fault
unfoldable pub bench_of_text :
    {E : Type 0} → EditReading E → EditFlaw E → List ℕ → Result (Bench E) TextFault
bench_of_text reading flaw_of text = do
  d ← document text
  bench_at reading flaw_of [] d

-- the same with edits of the session alone
abbrev pub bench_text : List ℕ → Result (Bench Edit) TextFault
bench_text text = bench_of_text edit_at edit_flaw text

-- the same with edits of work too
abbrev pub kept_bench_text : List ℕ → Result (Bench KeptEdit) TextFault
kept_bench_text text = bench_of_text kept_edit_at kept_flaw text

-- there is a session, and each edit was checked under its header
pub record IsBenchOf {E : Type 0} (IsEdit : Header → E → Type 0) (bench : Bench E) : Type 0 where
  pub is_session : IsSession (record { header = bench.header; steps = bench.steps })
  pub edits_checked : All (IsEdit bench.header) bench.edits

abbrev pub IsCheckedBench : Bench Edit → Type 0
IsCheckedBench bench = IsBenchOf IsCheckedEdit bench

abbrev pub IsKeptBench : Bench KeptEdit → Type 0
IsKeptBench bench = IsBenchOf IsKeptEdit bench
