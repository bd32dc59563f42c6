-- What is told of a source and its edits.
use Rattle.std.specs.Prelude.{◌≡◌, ◌⊎◌, ℕ, List, [], ◌++◌, All, Bool, false}
use Rattle.program_io.specs.declared.output.OutputStatus.TheVariants.{Unknown}
use Rattle.program_io.specs.Outputs.{Printed, printed_with}
use Rattle.program_io.specs.Twice.{warned}
use Rattle.run_sources.specs.declared.source.Source.{Source}
use Rattle.run_sources.specs.declared.source.Source.TheVariants as source
use Rattle.run_sources.specs.Sources.{IsSourceTooLong}
use Rattle.session_advice.specs.declared.question.AdviceStatus.{AdviceStatus}
use Rattle.session_advice.specs.declared.question.AdviceStatus.TheVariants as advice
use Rattle.session_advice.specs.Advice.{IsAdvice}
use Rattle.session_advice.specs.Questions.{Asked, Printed as AdvicePrinted}
use Rattle.session_runs.specs.Run.{RunView}
use Rattle.shown_runs.specs.declared.ask.Ask.{Ask}
use Rattle.shown_runs.specs.declared.shown.Shown.{Shown}
use Rattle.shown_runs.specs.Runs.{last_of}
use Rattle.shown_runs.specs.Told.{told}
use Rattle.simulating.specs.Notes.{ends_text}
use Rattle.task_programs.specs.declared.workload.Workload.{Workload}
use Rattle.workload_runs.specs.Ends.{ends_of}
use Rattle.view_commands.specs.declared.edited.EditedSource.{EditedSource}
use Rattle.view_commands.specs.declared.request.Command.{Command}
use Rattle.view_commands.specs.declared.request.Command.TheVariants.{Advise, Show}
use Rattle.view_commands.specs.declared.request.Documents.{Documents}
use Rattle.view_commands.specs.declared.request.Documents.TheVariants as of_documents
use Rattle.view_commands.specs.declared.request.Job.{Job}
use Rattle.view_commands.specs.EditedSources.{after_of, edit_lines, making_of}
use Rattle.view_commands.specs.Known.{IsToldKnown}
use Rattle.view_commands.specs.ShownRuns.{shows_both, sources_of, IsShown}
use Rattle.view_commands.specs.Strict.{IsJudged, IsRefusing}
use Rattle.view_commands.specs.TooLong.{IsFirstTooLong}

-- ---- runs

-- where workloads alone are read, which tasks are at the end of their programs, and which are not
abbrev pub ends_by : Documents → Workload → List Bool → List ℕ
ends_by of_documents.All workload at_end = []
ends_by (of_documents.Workloads ticks) workload at_end = ends_text workload at_end

-- Of a workload the same, when the run ends; up to where a run that keeps work is known.
abbrev pub AreEnds : Documents → Source → RunView → List ℕ → Type 0
AreEnds documents (source.Session session) run ends = ends ≡ []
AreEnds documents (source.Settled session) run ends = ends ≡ []
AreEnds documents (source.Workload workload) run ends =
    ends ≡ ends_by documents workload (ends_of workload run.session.steps)
AreEnds documents (source.Kept made order) run ends = IsToldKnown order made run ends

-- what is asked of the runs that are shown, behind what the last of them ends with
pub record IsToldOfRuns (documents : Documents) (asked : Ask) (source : EditedSource)
    (printed : Printed) : Type 0 where
  pub shown : Shown
  pub is_shown : IsShown (shows_both asked source) source shown
  pub ends : List ℕ
  pub are_ends : AreEnds documents (after_of source) (last_of shown) ends
  pub is_told : printed ≡ warned ends (told (making_of source) asked shown)

-- ---- advice

-- by how advice ends: it goes to standard output, and the names that there are to standard error
abbrev pub printed_of_advice : AdviceStatus → List ℕ → Printed
printed_of_advice advice.Given text = printed_with text []
printed_of_advice advice.Unknown text = record { status = Unknown; text = []; note = text }

-- what is advised on a source
pub record IsAdvised (question : Asked) (source : Source) (printed : Printed) : Type 0 where
  pub advised : AdvicePrinted
  pub is_advice : IsAdvice question source advised
  pub is_printed : printed ≡ printed_of_advice advised.status advised.text

-- ---- commands

-- the sources whose runs a command is about
abbrev pub sources_for : Command → EditedSource → List Source
sources_for (Show asked) source = sources_of (shows_both asked source) source
sources_for (Advise question) source = sources_of false source

-- what a command tells where none of these is too long
abbrev pub IsTold : Documents → Command → EditedSource → Printed → Type 0
IsTold documents (Show asked) source printed = IsToldOfRuns documents asked source printed
IsTold documents (Advise question) source printed =
    IsAdvised question (after_of source) printed

-- it is told, judged where refusals count
pub record IsJudgedAnswer (documents : Documents) (strict : Bool) (command : Command)
    (source : EditedSource) (judged : Printed) : Type 0 where
  pub short : All (λ one. ¬ IsSourceTooLong one) (sources_for command source)
  pub printed : Printed
  pub is_told : IsTold documents command source printed
  pub is_judged : IsJudged strict (IsRefusing source) printed judged

-- the same, or J2 where one of them is too long
abbrev pub IsAnswer : Job → EditedSource → Printed → Type 0
IsAnswer job source printed =
    IsJudgedAnswer job.documents job.strict job.command source printed
    ⊎ IsFirstTooLong (sources_for job.command source) printed

-- these lines, a line for each edit that is refused, and then the answer
pub record IsNoted (lines : List ℕ) (job : Job) (source : EditedSource) (printed : Printed) :
    Type 0 where
  pub answer : Printed
  pub is_answer : IsAnswer job source answer
  pub is_noted : printed ≡ warned (lines ++ edit_lines source) answer
