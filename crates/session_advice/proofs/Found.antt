-- A figure of a run is one of a subject that its session has.
use Rattle.std.proofs.Common.{◌≡◌, Bool, List, [], ◌∷◌, map, flat_map, Some}
use Rattle.std.specs.Prelude.{find}
use Rattle.std.specs.List.{AllByRecursion}
use Rattle.std.proofs.lemmas.List.Elements.{recursion_from_All}
use Rattle.bench_types.specs.declared.header.Header.{Header}
use Rattle.bench_types.specs.declared.step.Step.{Step}
use Rattle.session_runs.specs.Run.{RunView}
use Rattle.bench_types.specs.Step.{settings_of}
use Rattle.list_orders.proofs.Filters.{All-append}
use Rattle.settled_runs.specs.declared.waiting_call.WaitingCall.{WaitingCall}
use Rattle.settled_runs.proofs.Pieces.{find_among}
use Rattle.run_numbers.specs.declared.subject.Subject.{Subject}
use Rattle.run_numbers.specs.declared.subject.Subject.TheVariants.{Time, Steps, TopPriority, MostMessages, NotMade, Job, Migrations, RanOut, Unfinished, MutexWait, Run}
use Rattle.run_numbers.specs.declared.subject.JobNumber.TheVariants as job
use Rattle.run_numbers.specs.Readings.{measured, IsSubjectOf}
use Rattle.report_figures.specs.declared.figures.Figure.{Figure}
use Rattle.report_figures.specs.Figures.{figures_in}
use Rattle.report_figures.specs.Subjects.{subjects_of}
use Rattle.report_figures.proofs.Measurable.{subjects_fit}
use Rattle.session_reports.specs.Figures.{run_figures}

module _ (header : Header) (run : List Step) (left : List WaitingCall) where
  abbrev IsOf : Figure → Type 0
  IsOf figure = IsSubjectOf (settings_of header) figure.subject

  figures_fit : (subject : Subject) → IsSubjectOf (settings_of header) subject → AllByRecursion IsOf (figures_in (measured header run left subject))
  figures_fit (Time condition) fits = (fits, (fits, tt))
  figures_fit (Steps event) fits = (fits, tt)
  figures_fit (TopPriority task) fits = (fits, tt)
  figures_fit (MostMessages queue) fits = (fits, tt)
  figures_fit (NotMade task) fits = (fits, tt)
  figures_fit (Job task job.Count) fits = (fits, tt)
  figures_fit (Job task job.Response) fits = (fits, (fits, tt))
  figures_fit (Job task job.ShortestResponse) fits = (fits, tt)
  figures_fit (Job task job.Latency) fits = (fits, tt)
  figures_fit (Job task job.Period) fits = (fits, tt)
  figures_fit (Job task job.ShortestPeriod) fits = (fits, tt)
  figures_fit (Migrations task) fits = (fits, tt)
  figures_fit (RanOut task) fits = (fits, tt)
  figures_fit (Unfinished task) fits = (fits, tt)
  figures_fit (MutexWait mutex) fits = (fits, tt)
  figures_fit (Run number) fits = (fits, tt)

  each_fits : (subjects : List Subject) → AllByRecursion (IsSubjectOf (settings_of header)) subjects
      → AllByRecursion IsOf (flat_map figures_in (map (measured header run left) subjects))
  each_fits [] all = tt
  each_fits (subject ∷ subjects) all =
      All-append IsOf (figures_in (measured header run left subject)) (flat_map figures_in (map (measured header run left) subjects))
      (figures_fit subject all.0) (each_fits subjects all.1)

  run_fits : AllByRecursion IsOf (run_figures (record { session = record { header = header; steps = run }; left = left }))
  run_fits = each_fits (subjects_of header) (recursion_from_All (IsSubjectOf (settings_of header)) (subjects_of header) (subjects_fit header))

pub found_fits : (run : RunView) (test : Figure → Bool) (figure : Figure) → find test (run_figures run) ≡ Some figure
    → IsSubjectOf (settings_of run.session.header) figure.subject
found_fits run test figure found =
    find_among test (λ (figure : Figure). IsSubjectOf (settings_of run.session.header) figure.subject) (run_figures run) figure
    (run_fits run.session.header run.session.steps run.left) found
