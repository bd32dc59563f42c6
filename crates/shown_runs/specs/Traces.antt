-- The trace of a run, the run as a document, and the calls that were not made in it.
use Rattle.std.specs.Prelude.{ℕ, List, [], ◌++◌, ◌==◌, codes, decimal, length, Option, Some, None, if◌then◌else◌, slice_index_or}
use Rattle.bench_types.specs.Session.{Session}
use Rattle.session_runs.specs.Run.{RunView}
use Rattle.session_write.specs.Written.{written}
use Rattle.settling.specs.Notes.{left_text}
use Rattle.run_views.specs.Trace.{trace_text}
use Rattle.program_io.specs.Outputs.{Printed, fine, refusal}
use Rattle.shown_runs.specs.Interests.{interest_of, unknown_core, unknown_task}
use Rattle.shown_runs.specs.Selected.{Selected}

abbrev pub refused_task : List ℕ → Printed
refused_task name = refusal (codes "refused task " ++ name ++ codes "\n")

abbrev pub refused_core : ℕ → Printed
refused_core core = refusal (codes "refused core " ++ decimal core ++ codes "\n")

abbrev pub trace_of : Selected → Session → List ℕ
trace_of selected session =
    trace_text selected.places (interest_of session.header selected) session.header session.steps

-- A trace; it is refused where a name is no task's, which stands there, or a number no core's.
abbrev pub trace_where : Option ℕ → Option ℕ → Selected → Session → Printed
trace_where (Some index) core selected session =
    refused_task (slice_index_or selected.tasks index [])
trace_where None (Some core) selected session = refused_core core
trace_where None None selected session = fine (trace_of selected session)

abbrev pub trace_output : Selected → Session → Printed
trace_output selected session =
    trace_where (unknown_task session.header selected.tasks)
    (unknown_core session.header selected.cores) selected session

-- a run as a document, and a line feed
abbrev pub document_of : Session → List ℕ
document_of session = written session.header session.steps ++ codes "\n"

-- that calls of the run were not made; nothing where all were
abbrev pub note_of : RunView → List ℕ
note_of run =
    if length run.left == 0 then []
    else codes "not made: " ++ left_text run.session.header run.left ++ codes "\n"
