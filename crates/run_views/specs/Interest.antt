-- Which steps a trace tells: those that concern a task or a core that is named.
use Rattle.std.specs.Prelude.{ℕ, List, length, Bool, false, ◌&&◌, ◌||◌, ◌==◌, Option, Some, None}
use Rattle.std.specs.List.{list_any}
use Rattle.bench_types.specs.declared.kernel_data.Hold.{Hold}
use Rattle.bench_types.specs.declared.step.Call.{Call}
use Rattle.bench_types.specs.declared.step.Call.TheVariants.{PrioritySet, AffinitySet, PreemptOff, PreemptOn, Suspend, Resume, Notify, StateClear, ValueClear}
use Rattle.bench_types.specs.declared.step.Step.{Step}
use Rattle.bench_types.specs.declared.step.Step.TheVariants as steps
use Rattle.run_views.specs.declared.change.Change.{Change}
use Rattle.run_views.specs.declared.change.Change.TheVariants as changes
use Rattle.run_views.specs.declared.change.CoreChange.{CoreChange}
use Rattle.run_views.specs.declared.change.CoreChange.TheVariants.{Current}
use Rattle.run_views.specs.declared.change.MutexChange.{MutexChange}
use Rattle.run_views.specs.declared.change.MutexChange.TheVariants.{Holder}
use Rattle.run_views.specs.declared.interest.Interest.{Interest}

abbrev pub is_one_of : List ℕ → ℕ → Bool
is_one_of numbers number = list_any (λ one. one == number) numbers

abbrev pub names_task : Interest → ℕ → Bool
names_task interest task = is_one_of interest.tasks task

abbrev pub names_core : Interest → ℕ → Bool
names_core interest core = is_one_of interest.cores core

abbrev pub names_nobody : Interest → Bool
names_nobody interest = length interest.tasks == 0 && length interest.cores == 0

-- a task that is named, where there is one
abbrev pub some_task_concerns : Interest → Option ℕ → Bool
some_task_concerns interest None = false
some_task_concerns interest (Some task) = names_task interest task

-- the task that a call names beside the one that makes it
abbrev pub call_task : Call → Option ℕ
call_task (PrioritySet task priority) = Some task
call_task (AffinitySet task mask) = Some task
call_task (PreemptOff task) = Some task
call_task (PreemptOn task) = Some task
call_task (Suspend task) = Some task
call_task (Resume task) = Some task
call_task (Notify note) = Some note.task
call_task (StateClear task index) = Some task
call_task (ValueClear task bits index) = Some task
call_task call = None

-- a step of a core or a task that is named, or one that names such a task
abbrev pub step_concerns : Interest → Step → Bool
step_concerns interest steps.Tick = false
step_concerns interest (steps.Switch core) = names_core interest core
step_concerns interest (steps.Call core task call) =
    names_core interest core || names_task interest task
    || some_task_concerns interest (call_task call)
step_concerns interest (steps.Interrupt core note) =
    names_core interest core || names_task interest note.task
step_concerns interest (steps.QueueInterrupt core queue direction) = names_core interest core
step_concerns interest (steps.ResumeInterrupt core task) =
    names_core interest core || names_task interest task
step_concerns interest (steps.Pass units) = false

abbrev pub hold_concerns : Interest → Option Hold → Bool
hold_concerns interest None = false
hold_concerns interest (Some hold) = names_core interest hold.core

abbrev pub core_change_concerns : Interest → CoreChange → Bool
core_change_concerns interest (Current from to) = names_task interest from || names_task interest to
core_change_concerns interest change = false

abbrev pub holder_concerns : Interest → MutexChange → Bool
holder_concerns interest (Holder from to) =
    some_task_concerns interest from || some_task_concerns interest to

-- a change of a core or a task that is named, or one that names such a task or core
abbrev pub change_concerns : Interest → Change → Bool
change_concerns interest (changes.Tick from to) = false
change_concerns interest (changes.Hold from to) =
    hold_concerns interest from || hold_concerns interest to
change_concerns interest (changes.Core core change) =
    names_core interest core || core_change_concerns interest change
change_concerns interest (changes.Task task change) = names_task interest task
change_concerns interest (changes.Further index task change) = names_task interest task
change_concerns interest (changes.Mutex mutex change) = holder_concerns interest change
change_concerns interest (changes.Queue queue change) = false

-- whether a step that made these changes is told; all are where nobody is named
abbrev pub tells : Interest → Step → List Change → Bool
tells interest step some =
    names_nobody interest || step_concerns interest step
    || list_any (change_concerns interest) some
