use Rattle.report_pages.proofs.Plain.{run_is_plain, runs_are_plain}
use Rattle.report_pages.proofs.Whole.{page_is_plain}
use Rattle.report_pages.proofs.laws.laws_of_reports.Goals as goal

pub returns-clause-run : goal.returns-clause-run
returns-clause-run c = run_is_plain

pub returns-clause-runs : goal.returns-clause-runs
returns-clause-runs c = runs_are_plain

pub returns-clause-page : goal.returns-clause-page
returns-clause-page c = page_is_plain
