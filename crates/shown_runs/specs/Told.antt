-- What is told of runs.
use Rattle.std.specs.Prelude.{ℕ, List, None}
use Rattle.run_comparisons.specs.Comparison.{compare_text}
use Rattle.run_comparisons.specs.Pairs.{with_itself}
use Rattle.program_io.specs.Outputs.{Printed, fine, noted}
use Rattle.shown_runs.specs.declared.ask.Ask.{Ask}
use Rattle.shown_runs.specs.declared.ask.Ask.TheVariants as ask
use Rattle.shown_runs.specs.declared.ask.Making.{Making}
use Rattle.shown_runs.specs.declared.shown.Shown.{Shown}
use Rattle.shown_runs.specs.declared.shown.Shown.TheVariants.{One, Two}
use Rattle.shown_runs.specs.Checks.{check_printed}
use Rattle.shown_runs.specs.Pages.{page_of}
use Rattle.shown_runs.specs.Pictures.{picture_of}
use Rattle.shown_runs.specs.Reports.{report_of}
use Rattle.shown_runs.specs.Runs.{is_settled, last_of}
use Rattle.shown_runs.specs.Traces.{document_of, note_of, trace_output}

-- one run is compared with itself
abbrev pub comparison_of : Shown → List ℕ
comparison_of (One run) = compare_text None (with_itself run)
comparison_of (Two pair) = compare_text None pair

-- By what is asked. A trace, a document and a check are those of the last run.
abbrev pub told : Making → Ask → Shown → Printed
told making (ask.Trace selected) shown =
    noted (trace_output selected (last_of shown).session) (note_of (last_of shown))
told making ask.Session shown =
    noted (fine (document_of (last_of shown).session)) (note_of (last_of shown))
told making ask.Compare shown = fine (comparison_of shown)
told making (ask.Timeline extent) shown = picture_of making extent shown
told making (ask.Report form) shown = fine (report_of form (is_settled making) shown)
told making (ask.Check wanted) shown = check_printed (last_of shown) wanted
told making (ask.Page extent) shown = page_of making extent shown
