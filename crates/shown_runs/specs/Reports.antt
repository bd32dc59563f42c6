-- The numbers of one run, or of two beside each other.
use Rattle.std.specs.Prelude.{ℕ, List, Bool}
use Rattle.session_reports.specs.declared.report.Form.{Form}
use Rattle.session_reports.specs.Reports.{run_report, runs_report}
use Rattle.shown_runs.specs.declared.shown.Shown.{Shown}
use Rattle.shown_runs.specs.declared.shown.Shown.TheVariants.{One, Two}

-- by whether they are settled runs
abbrev pub report_of : Form → Bool → Shown → List ℕ
report_of form settled (One run) = run_report form settled run
report_of form settled (Two pair) = runs_report form settled pair.before pair.after
