-- Reports of the runs of sessions.
use Rattle.std.specs.Prelude.{ℕ, List, ◌++◌, Bool, codes}
use Rattle.bench_types.specs.declared.header.Header.{Header}
use Rattle.session_runs.specs.Run.{RunView}
use Rattle.report_figures.specs.declared.figures.Figure.{Figure}
use Rattle.core_loads.specs.Loads.{load_table}
use Rattle.report_figures.specs.Objects.{run_json, runs_json}
use Rattle.report_figures.specs.Table.{run_table, runs_table}
use Rattle.session_reports.specs.declared.report.Form.{Form}
use Rattle.session_reports.specs.declared.report.Form.TheVariants.{Table, Json, Html}
use Rattle.run_pages.specs.Page.{pieces_text}
use Rattle.report_pages.specs.Report.{run_pieces, runs_pieces}
use Rattle.report_pages.specs.Told.{Told}
use Rattle.session_reports.specs.Figures.{run_told}

-- a table of the figures, and one of loads
unfoldable pub run_tables : Header → List Figure → List ℕ
run_tables header figures =
    run_table header figures ++ load_table header figures (codes "load")

-- the same of two runs, with the loads of both
unfoldable pub runs_tables : Header → List Figure → List Figure → List ℕ
runs_tables header before after =
    runs_table header before after ++ load_table header before (codes "load before")
    ++ load_table header after (codes "load after")

abbrev pub run_text : Form → Bool → Header → Told → List ℕ
run_text Table settled header run = run_tables header run.figures
run_text Json settled header run = run_json header run.figures settled
run_text Html settled header run = pieces_text (run_pieces header run)

abbrev pub runs_text : Form → Bool → Header → Told → Told → List ℕ
runs_text Table settled header before after = runs_tables header before.figures after.figures
runs_text Json settled header before after =
    runs_json header before.figures after.figures settled
runs_text Html settled header before after = pieces_text (runs_pieces header before after)

-- the report of a run
abbrev pub run_report : Form → Bool → RunView → List ℕ
run_report form settled run = run_text form settled run.session.header (run_told run)

-- the report of two runs, by the names of the first
abbrev pub runs_report : Form → Bool → RunView → RunView → List ℕ
runs_report form settled before after =
    runs_text form settled before.session.header (run_told before) (run_told after)
