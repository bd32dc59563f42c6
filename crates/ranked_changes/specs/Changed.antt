-- What a change makes of a source.
use Rattle.std.specs.Prelude.{ℕ, ◌+◌, ◌<◌, ◌≤◌, ◌^◌, ◌++◌, List, length, map, swap, Option, Some, None, ⊤}
use Rattle.std.specs.Option.{option_to_list}
use Rattle.bench_types.specs.declared.edit.Edit.{Edit}
use Rattle.bench_types.specs.declared.edit.Edit.TheVariants.{ChangeTask}
use Rattle.bench_types.specs.declared.header.Header.{Header}
use Rattle.bench_types.specs.declared.step.Step.{Step}
use Rattle.bench_types.specs.Header.{cores_of_mask}
use Rattle.bench_types.specs.Session.{Session}
use Rattle.bench_model.specs.Edits.{args_of, changed as with_numbers}
use Rattle.kept_edits.specs.declared.edit.KeptEdit.TheVariants.{Plain}
use Rattle.kept_runs.specs.Items.{edited_session}
use Rattle.kept_sessions.specs.Sessions.{KeptView}
use Rattle.run_sources.specs.declared.source.Source.{Source}
use Rattle.run_sources.specs.declared.source.Source.TheVariants as source
use Rattle.run_sources.specs.Sources.{header_of, steps_of}
use Rattle.task_programs.specs.declared.workload.Workload.{Workload}
use Rattle.ranked_changes.specs.declared.change.Change.{Change}
use Rattle.ranked_changes.specs.declared.change.Change.TheVariants as change

-- the header with the task's other priority or mask
abbrev pub changed_header : Header → Change → Header
changed_header header (change.Priority task priority) =
    with_numbers task priority (args_of header task).mask header
changed_header header (change.Mask task mask) =
    with_numbers task (args_of header task).priority mask header
changed_header header (change.Order first second) = header

-- the steps with the two exchanged
abbrev pub changed_steps : List Step → Change → List Step
changed_steps steps (change.Priority task priority) = steps
changed_steps steps (change.Mask task mask) = steps
changed_steps steps (change.Order first second) = swap steps first second

-- the session with the change made
abbrev pub changed_session : Session → Change → Session
changed_session session made = record {
  header = changed_header session.header made;
  steps = changed_steps session.steps made;
}

-- the workload with the change made
abbrev pub changed_workload : Workload → Change → Workload
changed_workload workload made =
    record workload { header = changed_header workload.header made }

-- a change of a task as an edit of a session; an exchange of calls is none
abbrev pub edit_of : Header → Change → Option Edit
edit_of header (change.Priority task priority) =
    Some (ChangeTask task priority (args_of header task).mask)
edit_of header (change.Mask task mask) =
    Some (ChangeTask task (args_of header task).priority mask)
edit_of header (change.Order first second) = None

-- the session with the change of a task as one edit more
abbrev pub changed_kept : KeptView → Change → KeptView
changed_kept made change = record made {
  edits = made.edits
      ++ map Plain
      (option_to_list (edit_of (edited_session made.session made.edits).header change));
}

-- the source with the change made
abbrev pub changed : Source → Change → Source
changed (source.Session session) made = source.Session (changed_session session made)
changed (source.Settled session) made = source.Settled (changed_session session made)
changed (source.Workload workload) made = source.Workload (changed_workload workload made)
changed (source.Kept kept order) made = source.Kept (changed_kept kept made) order

-- it is a user task of the header
abbrev pub IsUserTask : Header → ℕ → Type 0
IsUserTask header task =
    (header.config.cores ≤ task) × (task < header.config.cores + length header.tasks)

-- a change that the header allows: a priority below their number, a mask of some core
abbrev pub IsHeaderChange : Header → Change → Type 0
IsHeaderChange header (change.Priority task priority) =
    IsUserTask header task × (priority < header.config.priorities)
IsHeaderChange header (change.Mask task mask) =
    IsUserTask header task × (0 < cores_of_mask header.config.cores mask) × (mask < 2 ^ 32)
IsHeaderChange header (change.Order first second) = ⊤

-- a change that the steps allow: there are both places
abbrev pub IsStepChange : List Step → Change → Type 0
IsStepChange steps (change.Priority task priority) = ⊤
IsStepChange steps (change.Mask task mask) = ⊤
IsStepChange steps (change.Order first second) =
    (first < length steps) × (second < length steps)

-- a change that the source allows; an exchange is one of the steps of a session whose order counts
abbrev pub IsChangeOf : Source → Change → Type 0
IsChangeOf source made =
    IsHeaderChange (header_of source) made × IsStepChange (steps_of source) made
