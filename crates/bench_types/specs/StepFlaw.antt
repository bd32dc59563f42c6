-- For what a step, an action or an edit is not accepted: the first of these things, in the order in
-- which its faults are tried.
use Rattle.std.specs.Prelude.{ℕ, ◌==◌, ◌&&◌, nat_lt, nat_le, Option, Some, None, is_some, Result, Ok, Err, if◌then◌else◌, ⊤}
use Rattle.std.specs.Option.{option_or}
use Rattle.bench_types.specs.declared.core_action.CoreAction.{CoreAction}
use Rattle.bench_types.specs.declared.core_action.CoreAction.TheVariants as core_action
use Rattle.bench_types.specs.declared.edit.Edit.{Edit}
use Rattle.bench_types.specs.declared.edit.Edit.TheVariants as edit
use Rattle.bench_types.specs.declared.fault.Fault.{Fault}
use Rattle.bench_types.specs.declared.fault.Fault.TheVariants.{BadHeader, BadCore, BadTask, BadMutex, BadArgument}
use Rattle.bench_types.specs.declared.header.Config.{Config}
use Rattle.bench_types.specs.declared.header.Header.{Header}
use Rattle.bench_types.specs.declared.kernel_data.Settings.{Settings}
use Rattle.bench_types.specs.declared.note.Note.{Note}
use Rattle.bench_types.specs.declared.step.Call.{Call}
use Rattle.bench_types.specs.declared.step.Call.TheVariants as call
use Rattle.bench_types.specs.declared.step.Step.{Step}
use Rattle.bench_types.specs.declared.step.Step.TheVariants as step
use Rattle.bench_types.specs.declared.step_flaw.StepFlaw.{StepFlaw}
use Rattle.bench_types.specs.declared.step_flaw.StepFlaw.TheVariants.{Core, TickCore, Task, Mutex, Queue, Mask, Increment, Suspending, NoUnits, NoTime, Index, NewPriority, NewMask}
use Rattle.bench_types.specs.Mask.{cores_of_mask}
use Rattle.bench_types.specs.Step.{queue_total, settings_of}

-- the fault that it is
abbrev pub flaw_fault : StepFlaw → Fault
flaw_fault (Core core cores) = BadCore
flaw_fault (TickCore core) = BadCore
flaw_fault (Task task) = BadTask
flaw_fault (Mutex mutex mutexes) = BadMutex
flaw_fault (Queue queue queues) = BadMutex
flaw_fault (Mask mask cores) = BadArgument
flaw_fault Increment = BadArgument
flaw_fault Suspending = BadArgument
flaw_fault NoUnits = BadArgument
flaw_fault NoTime = BadArgument
flaw_fault (Index index notes) = BadArgument
flaw_fault (NewPriority priority priorities) = BadHeader
flaw_fault (NewMask mask cores) = BadHeader

-- what a check answers where this is the first one
abbrev pub check_of : Option StepFlaw → Result ⊤ Fault
check_of None = Ok tt
check_of (Some flaw) = Err (flaw_fault flaw)

abbrev pub core_flaw : Settings → ℕ → Option StepFlaw
core_flaw settings core =
    if nat_lt core settings.cores then None else Some (Core core settings.cores)

abbrev pub task_flaw : Settings → ℕ → Option StepFlaw
task_flaw settings task =
    if nat_le settings.cores task && nat_lt task settings.tasks then None else Some (Task task)

abbrev pub mutex_flaw : Settings → ℕ → Option StepFlaw
mutex_flaw settings mutex =
    if nat_lt mutex settings.mutexes then None else Some (Mutex mutex settings.mutexes)

abbrev pub queue_flaw : Settings → ℕ → Option StepFlaw
queue_flaw settings queue =
    if nat_lt queue (queue_total settings) then None else Some (Queue queue (queue_total settings))

abbrev pub mask_flaw : Settings → ℕ → Option StepFlaw
mask_flaw settings mask =
    if nat_lt 0 (cores_of_mask settings.cores mask) then None else Some (Mask mask settings.cores)

abbrev pub index_flaw : Settings → ℕ → Option StepFlaw
index_flaw settings index =
    if nat_lt index settings.notes then None else Some (Index index settings.notes)

abbrev pub increment_flaw : ℕ → Option StepFlaw
increment_flaw inc = if inc == 0 then Some Increment else None

abbrev pub suspending_flaw : Settings → Option StepFlaw
suspending_flaw settings = if is_some settings.queues then None else Some Suspending

-- of the task that is suspended or resumed
abbrev pub resume_flaw : Settings → ℕ → Option StepFlaw
resume_flaw settings task = option_or (task_flaw settings task) (suspending_flaw settings)

abbrev pub pass_flaw : Settings → ℕ → Option StepFlaw
pass_flaw settings units =
    if settings.units == 1 then Some NoUnits else (if units == 0 then Some NoTime else None)

abbrev pub note_flaw : Settings → Note → Option StepFlaw
note_flaw settings note = option_or (task_flaw settings note.task) (index_flaw settings note.index)

-- the first flaw of a call's arguments
abbrev pub call_flaw : Settings → Call → Option StepFlaw
call_flaw settings call.Yield = None
call_flaw settings (call.Delay ticks) = None
call_flaw settings (call.DelayUntil prev inc) = increment_flaw inc
call_flaw settings call.Finish = None
call_flaw settings call.HoldOpen = None
call_flaw settings call.HoldClose = None
call_flaw settings (call.PrioritySet task priority) = task_flaw settings task
call_flaw settings (call.AffinitySet task mask) =
    option_or (task_flaw settings task) (mask_flaw settings mask)
call_flaw settings (call.PreemptOff task) = task_flaw settings task
call_flaw settings (call.PreemptOn task) = task_flaw settings task
call_flaw settings (call.Suspend task) = resume_flaw settings task
call_flaw settings (call.Resume task) = resume_flaw settings task
call_flaw settings (call.Notify note) = note_flaw settings note
call_flaw settings (call.NotifyWait entry exit ticks index) = index_flaw settings index
call_flaw settings (call.NotifyTake clear ticks index) = index_flaw settings index
call_flaw settings (call.StateClear task index) =
    option_or (task_flaw settings task) (index_flaw settings index)
call_flaw settings (call.ValueClear task bits index) =
    option_or (task_flaw settings task) (index_flaw settings index)
call_flaw settings (call.MutexTake mutex ticks) = mutex_flaw settings mutex
call_flaw settings (call.MutexGive mutex) = mutex_flaw settings mutex
call_flaw settings (call.QueueSend queue ticks) = queue_flaw settings queue
call_flaw settings (call.QueueReceive queue ticks) = queue_flaw settings queue

-- the first flaw of a step
abbrev pub step_flaw : Settings → Step → Option StepFlaw
step_flaw settings step.Tick = None
step_flaw settings (step.Switch core) = core_flaw settings core
step_flaw settings (step.Call core task call) =
    option_or (option_or (core_flaw settings core) (task_flaw settings task))
    (call_flaw settings call)
step_flaw settings (step.Interrupt core note) =
    option_or (core_flaw settings core) (note_flaw settings note)
step_flaw settings (step.QueueInterrupt core queue direction) =
    option_or (core_flaw settings core) (queue_flaw settings queue)
step_flaw settings (step.ResumeInterrupt core task) =
    option_or (core_flaw settings core) (resume_flaw settings task)
step_flaw settings (step.Pass units) = pass_flaw settings units

-- of what the core would do
abbrev pub core_action_flaw : Settings → ℕ → CoreAction → Option StepFlaw
core_action_flaw settings core (core_action.Call call) = call_flaw settings call
core_action_flaw settings core (core_action.Interrupt note) = note_flaw settings note
core_action_flaw settings core (core_action.QueueInterrupt queue direction) =
    queue_flaw settings queue
core_action_flaw settings core (core_action.ResumeInterrupt task) = resume_flaw settings task
core_action_flaw settings core core_action.Tick = if core == 0 then None else Some (TickCore core)
core_action_flaw settings core core_action.Switch = None

-- of a task's new numbers
abbrev pub numbers_flaw : Config → ℕ → ℕ → Option StepFlaw
numbers_flaw config priority mask =
    option_or
    (if nat_lt priority config.priorities then None
    else Some (NewPriority priority config.priorities))
    (if nat_lt 0 (cores_of_mask config.cores mask) then None else Some (NewMask mask config.cores))

-- of an edit
abbrev pub edit_flaw : Header → Edit → Option StepFlaw
edit_flaw header (edit.Insert at step) = step_flaw (settings_of header) step
edit_flaw header (edit.Remove at) = None
edit_flaw header (edit.Replace at step) = step_flaw (settings_of header) step
edit_flaw header (edit.ChangeTask task priority mask) =
    option_or (task_flaw (settings_of header) task) (numbers_flaw header.config priority mask)
