-- Which edits a session of a header may have, whatever its steps are.
use Rattle.std.specs.Prelude.{◌≡◌, ℕ, ◌^◌, ◌<◌, Result, Ok, Err, if◌then◌else◌, ⊤}
use Rattle.bench_types.specs.Header.{has_valid_numbers}
use Rattle.bench_types.specs.Step.{settings_of, step_check, task_check, IsStepOfWords, ◌>>◌}
use Rattle.bench_types.specs.declared.fault.Fault.{Fault}
use Rattle.bench_types.specs.declared.fault.Fault.TheVariants.{BadHeader}
use Rattle.bench_types.specs.declared.header.Config.{Config}
use Rattle.bench_types.specs.declared.header.Header.{Header}
use Rattle.bench_types.specs.declared.edit.Edit.{Edit}
use Rattle.bench_types.specs.declared.edit.Edit.TheVariants as edit

-- F1: a priority or a mask that no task of a header may have
abbrev pub numbers_check : Config → ℕ → ℕ → Result ⊤ Fault
numbers_check config priority mask =
    if has_valid_numbers config priority mask then Ok tt else Err BadHeader

-- the faults of an edit, in the order in which they are tried
abbrev pub edit_check : Header → Edit → Result ⊤ Fault
edit_check header (edit.Insert at step) = step_check (settings_of header) step
edit_check header (edit.Remove at) = Ok tt
edit_check header (edit.Replace at step) = step_check (settings_of header) step
edit_check header (edit.ChangeTask task priority mask) =
    task_check (settings_of header) task >> numbers_check header.config priority mask

-- every number of an edit is one of 32 bits; the task and the priority of a change are within their
-- limits
abbrev pub IsEditOfWords : Edit → Type 0
IsEditOfWords (edit.Insert at step) = (at < 2 ^ 32) × IsStepOfWords step
IsEditOfWords (edit.Remove at) = at < 2 ^ 32
IsEditOfWords (edit.Replace at step) = (at < 2 ^ 32) × IsStepOfWords step
IsEditOfWords (edit.ChangeTask task priority mask) = mask < 2 ^ 32

-- an edit that was checked against the header
pub record IsCheckedEdit (header : Header) (made : Edit) : Type 0 where
  pub passes : edit_check header made ≡ Ok tt
  pub words : IsEditOfWords made
