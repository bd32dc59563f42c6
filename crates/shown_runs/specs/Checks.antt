-- What is told of limits and a run.
use Rattle.std.specs.Prelude.{ℕ, List, []}
use Rattle.session_runs.specs.Run.{RunView}
use Rattle.session_reports.specs.declared.limits.CheckStatus.{CheckStatus}
use Rattle.session_reports.specs.declared.limits.CheckStatus.TheVariants as check
use Rattle.session_reports.specs.Asked.{Asked}
use Rattle.session_reports.specs.Checks.{check_of}
use Rattle.program_io.specs.declared.output.OutputStatus.TheVariants.{Failed, Unknown}
use Rattle.program_io.specs.Outputs.{Printed, printed_with}

-- By how a check ends: the limits that are not kept go to standard output, and the names that there
-- are to standard error.
abbrev pub printed_of_check : CheckStatus → List ℕ → Printed
printed_of_check check.Kept text = printed_with text []
printed_of_check check.NotKept text = record { status = Failed; text = text; note = [] }
printed_of_check check.Unknown text = record { status = Unknown; text = []; note = text }

-- whether the run keeps the limits
abbrev pub check_printed : RunView → List Asked → Printed
check_printed run wanted =
    let checked = check_of run wanted in
    printed_of_check checked.status checked.text
