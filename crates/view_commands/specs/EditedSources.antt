-- What a document says, with its edits: a session or a workload.
use Rattle.std.specs.Prelude.{ℕ, List, [], length, Bool, is_some, nat_lt, unwrap_or}
use Rattle.bench_types.specs.Session.{Session}
use Rattle.bench_model.specs.Edits.{after_edits}
use Rattle.kept_edits.specs.declared.edit.KeptEdit.{KeptEdit}
use Rattle.kept_edits.specs.Edits.{plain_edits}
use Rattle.kept_notes.specs.Notes.{kept_notes}
use Rattle.kept_notes.specs.Refused.{places_of, refused_kept}
use Rattle.kept_sessions.specs.Sessions.{without_edits}
use Rattle.session_edits.specs.Notes.{edit_notes}
use Rattle.session_edits.specs.Refused.{refused_places}
use Rattle.run_sources.specs.declared.source.Source.{Source}
use Rattle.run_sources.specs.declared.source.Source.TheVariants as source
use Rattle.shown_runs.specs.declared.ask.Making.{Making}
use Rattle.shown_runs.specs.declared.ask.Making.TheVariants as making
use Rattle.task_programs.specs.declared.workload.Workload.{Workload}
use Rattle.edited_workloads.specs.declared.document.EditedWorkload.{EditedWorkload}
use Rattle.view_commands.specs.declared.edited.EditedSource.{EditedSource}
use Rattle.view_commands.specs.declared.edited.EditedSource.TheVariants as edited
use Rattle.view_commands.specs.declared.request.SessionRuns.{SessionRuns}
use Rattle.view_commands.specs.declared.request.SessionRuns.TheVariants.{AsWritten, Settled, Kept}

-- By how its runs are made, a session and edits of it. Runs that keep work alone are of changes of
-- work.
abbrev pub session_source : SessionRuns → Session → List KeptEdit → EditedSource
session_source AsWritten session edits =
    edited.Session (record { session = session; edits = plain_edits edits })
session_source Settled session edits =
    edited.Settled (record { session = session; edits = plain_edits edits })
session_source (Kept order) session edits =
    edited.Kept (record { session = session; edits = edits }) order

-- what stands before the edits
abbrev pub before_of : EditedSource → Source
before_of (edited.Session made) = source.Session made.session
before_of (edited.Settled made) = source.Settled made.session
before_of (edited.Workload made) = source.Workload made.workload
before_of (edited.Kept made order) = source.Kept (without_edits made) order

-- the workload that the edits leave
abbrev pub last_workload : EditedWorkload → Workload
last_workload made = unwrap_or made.edited made.workload

-- what the edits leave; those of a session are made one after another, and those that are refused
-- are passed over
abbrev pub after_of : EditedSource → Source
after_of (edited.Session made) = source.Session (after_edits made.session made.edits)
after_of (edited.Settled made) = source.Settled (after_edits made.session made.edits)
after_of (edited.Workload made) = source.Workload (last_workload made)
after_of (edited.Kept made order) = source.Kept made order

abbrev pub has_edits : EditedSource → Bool
has_edits (edited.Session made) = nat_lt 0 (length made.edits)
has_edits (edited.Settled made) = nat_lt 0 (length made.edits)
has_edits (edited.Workload made) = is_some made.edited
has_edits (edited.Kept made order) = nat_lt 0 (length made.edits)

-- how its runs are made
abbrev pub making_of : EditedSource → Making
making_of (edited.Session made) = making.AsWritten
making_of (edited.Settled made) = making.Settled
making_of (edited.Workload made) = making.Simulated
making_of (edited.Kept made order) = making.Kept

-- the places of the edits that are refused; of a workload none is
abbrev pub refused_of : EditedSource → List ℕ
refused_of (edited.Session made) = refused_places made.session made.edits
refused_of (edited.Settled made) = refused_places made.session made.edits
refused_of (edited.Workload made) = []
refused_of (edited.Kept made order) = places_of (refused_kept made.session made.edits)

-- a line for each edit that is refused
abbrev pub edit_lines : EditedSource → List ℕ
edit_lines (edited.Session made) = edit_notes made.session made.edits
edit_lines (edited.Settled made) = edit_notes made.session made.edits
edit_lines (edited.Workload made) = []
edit_lines (edited.Kept made order) = kept_notes made.session made.edits
