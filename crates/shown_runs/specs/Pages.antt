-- The page of runs, made of what else is told of them.
use Rattle.std.specs.Prelude.{ℕ, List, ◌++◌, length, codes, decimal, Option, Some, None}
use Rattle.bench_types.specs.Session.{Session}
use Rattle.run_comparisons.specs.Comparison.{compare_text}
use Rattle.run_pages.specs.Page.{page_text}
use Rattle.run_pages.specs.Shown.{Shown as PageShown}
use Rattle.run_pictures.specs.declared.picture.Extent.{Extent}
use Rattle.run_views.specs.declared.places.Places.{Places}
use Rattle.run_views.specs.PlaceTexts.{place_texts}
use Rattle.session_reports.specs.declared.report.Form.TheVariants.{Html}
use Rattle.program_io.specs.declared.output.OutputStatus.{OutputStatus}
use Rattle.program_io.specs.declared.output.OutputStatus.TheVariants.{Fine, Failed, Unknown}
use Rattle.program_io.specs.Outputs.{Printed, printed_with}
use Rattle.shown_runs.specs.declared.ask.Making.{Making}
use Rattle.shown_runs.specs.declared.ask.Making.TheVariants.{AsWritten, Settled, Simulated, Kept}
use Rattle.shown_runs.specs.declared.shown.Shown.{Shown}
use Rattle.shown_runs.specs.declared.shown.Shown.TheVariants.{One, Two}
use Rattle.shown_runs.specs.Pictures.{picture_of}
use Rattle.shown_runs.specs.Reports.{report_of}
use Rattle.shown_runs.specs.Runs.{is_settled, last_of}

-- how the run was made
abbrev pub run_word : Making → List ℕ
run_word AsWritten = codes "Run"
run_word Settled = codes "Settled run"
run_word Simulated = codes "Simulated run"
run_word Kept = codes "Run that keeps work"

-- of so many steps, cores and user tasks
abbrev pub counts_text : ℕ → ℕ → ℕ → List ℕ
counts_text steps cores tasks =
    codes " of " ++ decimal steps ++ codes " steps: cores " ++ decimal cores ++ codes ", tasks "
    ++ decimal tasks

-- the first line of a page
abbrev pub title_text : Making → Session → List ℕ
title_text making run =
    run_word making
    ++ counts_text (length run.steps) run.header.config.cores (length run.header.tasks)

-- of two runs the comparison, with the rows at the places alone
abbrev pub comparison_at : Places → Shown → Option (List ℕ)
comparison_at places (One run) = None
comparison_at places (Two pair) = Some (compare_text (Some places) pair)

-- the picture, the trace of the last run, the comparison and the report
abbrev pub page_shown : Making → Extent → Shown → List ℕ → PageShown
page_shown making extent shown picture =
    let last = (last_of shown).session in
    record {
      title = title_text making last;
      picture = picture;
      first = extent.places.from;
      places = place_texts extent.places last.header last.steps;
      comparison = comparison_at extent.places shown;
      report = report_of Html (is_settled making) shown;
    }

-- the page with this picture, unless that is refused
abbrev pub page_with : OutputStatus → Making → Extent → Shown → Printed → Printed
page_with Fine making extent shown picture =
    printed_with (page_text (page_shown making extent shown picture.text)) picture.note
page_with Failed making extent shown picture = picture
page_with Unknown making extent shown picture = picture

-- a page at these places, with what the picture notes beside it
abbrev pub page_of : Making → Extent → Shown → Printed
page_of making extent shown =
    let picture = picture_of making extent shown in
    page_with picture.status making extent shown picture
