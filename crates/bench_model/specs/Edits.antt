-- What edits make of sessions.
use Rattle.std.specs.Prelude.{ℕ, ◌-◌, List, [], length, insert, remove, fold, Bool, true, nat_lt, nat_le, if◌then◌else◌, slice_set, slice_index_or, Result, Ok}
use Rattle.std.specs.Prelude.{Err, is_ok, ⊤}
use Rattle.std.specs.Result.{result_map_both}
use Rattle.bench_types.specs.declared.edit.Edit.{Edit}
use Rattle.bench_types.specs.declared.edit.Edit.TheVariants.{Insert, Remove, Replace, ChangeTask}
use Rattle.bench_types.specs.declared.edit.EditFault.{EditFault}
use Rattle.bench_types.specs.declared.edit.EditFault.TheVariants.{Bench, NoPlace, TooLong}
use Rattle.bench_types.specs.declared.header.Header.{Header}
use Rattle.bench_types.specs.declared.header.TaskArgs.{TaskArgs}
use Rattle.bench_types.specs.declared.step.Step.{Step}
use Rattle.bench_types.specs.Edit.{edit_check}
use Rattle.bench_types.specs.Limits.{max_steps}
use Rattle.bench_types.specs.Session.{Session}
use Rattle.bench_types.specs.Step.{◌>>◌}

-- J1: a step is inserted before one of the steps or after the last; one of the steps is removed or
-- replaced
abbrev pub has_place : List Step → Edit → Bool
has_place steps (Insert at step) = nat_le at (length steps)
has_place steps (Remove at) = nat_lt at (length steps)
has_place steps (Replace at step) = nat_lt at (length steps)
has_place steps (ChangeTask task priority mask) = true

-- J2: an inserted step is not one too many
abbrev pub has_room : List Step → Edit → Bool
has_room steps (Insert at step) = nat_lt (length steps) max_steps
has_room steps (Remove at) = true
has_room steps (Replace at step) = true
has_room steps (ChangeTask task priority mask) = true

-- what speaks against an edit of a session: a fault under its header, then J1, then J2
abbrev pub accepted : Session → Edit → Result ⊤ EditFault
accepted session edit = result_map_both (λ _. tt) Bench (edit_check session.header edit)
    >> (if has_place session.steps edit then Ok tt else Err NoPlace)
    >> (if has_room session.steps edit then Ok tt else Err TooLong)

-- the user task's arguments in the header; those of no name stand for a task that is none
abbrev pub args_of : Header → ℕ → TaskArgs
args_of header task =
    slice_index_or header.tasks (task - header.config.cores)
    (record { name = []; priority = 0; mask = 0 })

-- the header with this priority and mask for the user task
abbrev pub changed : ℕ → ℕ → ℕ → Header → Header
changed task priority mask header = record header {
  tasks = slice_set header.tasks (task - header.config.cores)
      (record (args_of header task) { priority = priority; mask = mask });
}

-- the session after an accepted edit
abbrev pub edited : Edit → Session → Session
edited (Insert at step) session = record session { steps = insert session.steps at step }
edited (Remove at) session = record session { steps = remove session.steps at }
edited (Replace at step) session = record session { steps = slice_set session.steps at step }
edited (ChangeTask task priority mask) session =
    record session { header = changed task priority mask session.header }

-- an edit that is not accepted is passed over
abbrev pub after_edit : Session → Edit → Session
after_edit session edit = if is_ok (accepted session edit) then edited edit session else session

-- the session after edits in their order
abbrev pub after_edits : Session → List Edit → Session
after_edits session edits = fold after_edit session edits
