-- What is told of a document, whether it was read and opened or not.
use Rattle.std.proofs.Common.{◌≡◌, ◌⊎◌, ◌<◌, ◌≤◌, ◌∙◌, ℕ, List, [], length, Bool, true, false, Option, Result, Ok, Err, IfOk, nat_lt, ap, ap₂, sym, subst, arith, inl, inr}
use Rattle.std.proofs.lemmas.Bool.Decides.{nat_tests}
use Rattle.bench_types.specs.declared.step.Step.{Step}
use Rattle.bench_types.specs.Limits.{max_steps}
use Rattle.bench_types.specs.Session.{Session}
use Rattle.kept_edits.specs.declared.edit.KeptEdit.{KeptEdit}
use Rattle.kept_sessions.specs.Sessions.{KeptView}
use Rattle.session_text.specs.declared.bench.Bench.{Bench}
use Rattle.session_text.specs.declared.detail.Detail.TheVariants.{None}
use Rattle.session_text.specs.declared.fault.TextFault.{TextFault}
use Rattle.session_text.specs.declared.fault.Why.TheVariants.{NoMemory}
use Rattle.session_text.specs.Bench.{kept_bench_text}
use Rattle.program_io.specs.Hint.{IsFaultHint}
use Rattle.program_io.specs.Refusal.{IsPrintedFault}
use Rattle.view_commands.specs.declared.request.Job.{Job}
use Rattle.view_commands.specs.declared.request.SessionRuns.{SessionRuns}
use Rattle.view_commands.specs.declared.edited.EditedSource.{EditedSource}
use Rattle.view_commands.specs.Answers.{IsNoted}
use Rattle.view_commands.specs.Commands.{unshown_edit, IsRefusedOr, IsPrintedOfBench, IsPrintedOfSession, IsPrintedOfText, IsPrintedUnless}
use Rattle.view_commands.specs.EditedSources.{session_source}
use Rattle.view_commands.specs.Refusals.{refused_lines, too_many_steps}
use Rattle.program_io.specs.Twice.{warned}
use Rattle.program_io.specs.Outputs.{Printed}

-- what is told of a text that was not read
pub refused_printed : {E : Type 0} (job : Job) (input : List ℕ) (fault : TextFault) (result : Result Printed E) → (kept_bench_text input ≡ Err fault) ⊎
    (fault ≡ record { why = NoMemory; path = []; detail = None })
    → IfOk result (λ printed. IsPrintedFault refused_lines input fault printed) → IfOk result (λ printed. IsPrintedOfText job input (kept_bench_text input) printed)
refused_printed job input fault (Err e) reading line = tt
refused_printed job input fault (Ok printed) (inl read) line = subst (λ text. IsPrintedOfText job input text printed) (sym read) line
refused_printed job input fault (Ok printed) (inr none) line = absurd (subst (λ (f : TextFault). IsFaultHint input f.why f.path f.detail line.hint) none
    line.is_hint)

-- where the test says so it is the refusal, and else the claim holds
or_refused : (test : Bool) (refused : Printed) (claim : Type 0) (printed : Printed) → test ≡ true → printed ≡ refused → IsRefusedOr test refused claim printed
or_refused true refused claim printed holds line = line
or_refused false refused claim printed holds line = absurd (cc holds)

or_claim : (test : Bool) (refused : Printed) (claim : Type 0) (printed : Printed) → test ≡ false → claim → IsRefusedOr test refused claim printed
or_claim true refused claim printed fails is = absurd (cc fails)
or_claim false refused claim printed fails is = is

-- what the document says, by how its runs are made
abbrev pub made_of : SessionRuns → Bench KeptEdit → EditedSource
made_of sessions bench = session_source sessions (record { header = bench.header; steps = bench.steps }) bench.edits

-- what is told of a session that has too many steps
pub long_printed : {E : Type 0} (lines : List ℕ) (job : Job) (bench : Bench KeptEdit) (result : Result Printed E) → max_steps < length bench.steps
    → IfOk result (λ printed. printed ≡ warned lines too_many_steps) → IfOk result (λ printed. IsPrintedOfSession lines job bench printed)
long_printed lines job bench (Err e) long line = tt
long_printed lines job bench (Ok printed) long line =
    let many : nat_lt max_steps (length bench.steps) ≡ true = grind (arith, nat_tests, long) in
    or_refused (nat_lt max_steps (length bench.steps)) (warned lines too_many_steps) (IsNoted lines job (made_of job.sessions bench) printed) printed many line

-- what is told of another one
pub short_printed : {E : Type 0} (lines : List ℕ) (job : Job) (bench : Bench KeptEdit) (result : Result Printed E) → length bench.steps ≤ max_steps
    → IfOk result (IsNoted lines job (made_of job.sessions bench)) → IfOk result (λ printed. IsPrintedOfSession lines job bench printed)
short_printed lines job bench (Err e) few told = tt
short_printed lines job bench (Ok printed) few told =
    let not_many : nat_lt max_steps (length bench.steps) ≡ false = grind (arith, nat_tests, few) in
    or_claim (nat_lt max_steps (length bench.steps)) (warned lines too_many_steps) (IsNoted lines job (made_of job.sessions bench) printed) printed not_many told

-- the same by the session, and the edits that are made of it
pub bench_told : {E : Type 0} (lines : List ℕ) (job : Job) (bench : Bench KeptEdit) (steps : List Step) (edits : List KeptEdit) (session : Session) (both : KeptView)
    (source : EditedSource) (result : Result Printed E) → steps ≡ bench.steps → edits ≡ bench.edits → session ≡ record { header = bench.header; steps = steps }
    → length session.steps ≤ max_steps → both ≡ record { session = session; edits = edits } → source ≡ session_source job.sessions both.session both.edits
    → IfOk result (IsNoted lines job source) → IfOk result (λ printed. IsPrintedOfSession lines job bench printed)
bench_told lines job bench steps edits session both source result same alike made few one is told =
    let whole : session ≡ record { header = bench.header; steps = bench.steps } =
    made ∙ ap (λ (all : List Step). record { header = bench.header; steps = all }) same in
    let short : length bench.steps ≤ max_steps = omega (arith, few, ap (λ (s : Session). length s.steps) whole) in
    let source_is : source ≡ made_of job.sessions bench =
    is ∙ ap (λ (e : KeptView). session_source job.sessions e.session e.edits) one ∙ ap₂ (session_source job.sessions) whole alike in
    short_printed lines job bench result short (subst (λ (s : EditedSource). IfOk result (IsNoted lines job s)) source_is told)

-- by the first of the edits for which the session is not shown
pub unless_told : {E : Type 0} (lines : List ℕ) (job : Job) (bench : Bench KeptEdit) (found : Option ℕ) (result : Result Printed E)
    → found ≡ unshown_edit job.sessions bench.edits → IfOk result (IsPrintedUnless found lines job bench) → IfOk result (IsPrintedOfBench lines job bench)
unless_told lines job bench found result same is = subst (λ (one : Option ℕ). IfOk result (IsPrintedUnless one lines job bench)) same is
