-- Which steps a session of a header may have.
use Rattle.std.specs.Prelude.{◌≡◌, ℕ, ◌+◌, ◌^◌, ◌<◌, ◌==◌, length, nat_lt, nat_le, ◌&&◌, Result, Ok, Err, is_some, unwrap_or, if◌then◌else◌, ⊤}
use Rattle.bench_types.specs.declared.fault.Fault.{Fault}
use Rattle.bench_types.specs.declared.fault.Fault.TheVariants.{BadCore, BadTask, BadMutex, BadArgument}
use Rattle.bench_types.specs.Header.{cores_of_mask, queue_count}
use Rattle.bench_types.specs.declared.header.Header.{Header}
use Rattle.bench_types.specs.declared.kernel_data.Settings.{Settings}
use Rattle.bench_types.specs.declared.note.NotifyAction.{NotifyAction}
use Rattle.bench_types.specs.declared.note.Note.{Note}
use Rattle.bench_types.specs.declared.note.NotifyAction.TheVariants.{Nothing, SetBits, Increment, Set, SetNew}
use Rattle.bench_types.specs.declared.step.Step.{Step}
use Rattle.bench_types.specs.declared.step.Step.TheVariants as step
use Rattle.bench_types.specs.declared.step.Call.{Call}
use Rattle.bench_types.specs.declared.step.Call.TheVariants as call
use Rattle.bench_types.specs.declared.step.BlockingCall.{BlockingCall}
use Rattle.bench_types.specs.declared.step.BlockingCall.TheVariants as blocking
use Rattle.bench_types.specs.declared.step.Unfinished.{Unfinished}
use Rattle.bench_types.specs.declared.step.Unfinished.TheVariants as unfinished

-- the core that makes the step; a tick is made by core 0, and a pass, which no core makes, counts
-- as one of core 0
abbrev pub core_of : Step → ℕ
core_of step.Tick = 0
core_of (step.Switch core) = core
core_of (step.Call core task call) = core
core_of (step.Interrupt core note) = core
core_of (step.QueueInterrupt core queue direction) = core
core_of (step.ResumeInterrupt core task) = core
core_of (step.Pass units) = 0

-- what a kernel keeps of its header's settings; the number of tasks counts the idle tasks too
abbrev pub settings_of : Header → Settings
settings_of header = record {
  cores = header.config.cores;
  priorities = header.config.priorities;
  slicing = header.config.slicing;
  mutexes = header.config.mutexes;
  notes = header.config.notes;
  queues = queue_count header;
  units = header.config.units;
  tasks = header.config.cores + length header.tasks;
}

-- F2: there is no such core
abbrev pub core_check : Settings → ℕ → Result ⊤ Fault
core_check settings core = if nat_lt core settings.cores then Ok tt else Err BadCore

-- F3: an idle task, or no task
abbrev pub task_check : Settings → ℕ → Result ⊤ Fault
task_check settings task =
    if nat_le settings.cores task && nat_lt task settings.tasks then Ok tt else Err BadTask

-- F4: there is no such mutex
abbrev pub mutex_check : Settings → ℕ → Result ⊤ Fault
mutex_check settings mutex = if nat_lt mutex settings.mutexes then Ok tt else Err BadMutex

-- how many queues there are; a session that says nothing of queues has none
abbrev pub queue_total : Settings → ℕ
queue_total settings = unwrap_or settings.queues 0

-- F4: there is no such queue
abbrev pub queue_check : Settings → ℕ → Result ⊤ Fault
queue_check settings queue = if nat_lt queue (queue_total settings) then Ok tt else Err BadMutex

-- F5: the mask allows no core
abbrev pub mask_check : Settings → ℕ → Result ⊤ Fault
mask_check settings mask =
    if nat_lt 0 (cores_of_mask settings.cores mask) then Ok tt else Err BadArgument

-- F5: a task has no notification of the index
abbrev pub index_check : Settings → ℕ → Result ⊤ Fault
index_check settings index = if nat_lt index settings.notes then Ok tt else Err BadArgument

-- F5: the wake is not after the last one
abbrev pub increment_check : ℕ → Result ⊤ Fault
increment_check inc = if inc == 0 then Err BadArgument else Ok tt

-- F5: a session that says nothing of queues suspends no task
abbrev pub suspending_check : Settings → Result ⊤ Fault
suspending_check settings = if is_some settings.queues then Ok tt else Err BadArgument

-- F5: no time goes by, or a tick has no units that could
abbrev pub pass_check : Settings → ℕ → Result ⊤ Fault
pass_check settings units =
    if settings.units == 1 then Err BadArgument
    else (if units == 0 then Err BadArgument else Ok tt)

-- the second where the first is no fault
infixl 10 ◌>>◌
abbrev pub ◌>>◌ : {Why : Type 0} → Result ⊤ Why → Result ⊤ Why → Result ⊤ Why
Ok done >> next = next
Err fault >> next = Err fault

-- the fault of a notification: the task that it is for, then its index there
abbrev pub note_check : Settings → Note → Result ⊤ Fault
note_check settings note = task_check settings note.task >> index_check settings note.index

-- the fault of the task that is suspended or resumed
abbrev pub resume_check : Settings → ℕ → Result ⊤ Fault
resume_check settings task = task_check settings task >> suspending_check settings

-- the fault of a call's arguments: the task that it is for, then the mask, the ticks between wakes,
-- the index of a notification, or that tasks are suspended
abbrev pub call_check : Settings → Call → Result ⊤ Fault
call_check settings call.Yield = Ok tt
call_check settings (call.Delay ticks) = Ok tt
call_check settings (call.DelayUntil prev inc) = increment_check inc
call_check settings call.Finish = Ok tt
call_check settings call.HoldOpen = Ok tt
call_check settings call.HoldClose = Ok tt
call_check settings (call.PrioritySet task priority) = task_check settings task
call_check settings (call.AffinitySet task mask) =
    task_check settings task >> mask_check settings mask
call_check settings (call.PreemptOff task) = task_check settings task
call_check settings (call.PreemptOn task) = task_check settings task
call_check settings (call.Suspend task) = resume_check settings task
call_check settings (call.Resume task) = resume_check settings task
call_check settings (call.Notify note) = note_check settings note
call_check settings (call.NotifyWait entry exit ticks index) = index_check settings index
call_check settings (call.NotifyTake clear ticks index) = index_check settings index
call_check settings (call.StateClear task index) =
    task_check settings task >> index_check settings index
call_check settings (call.ValueClear task bits index) =
    task_check settings task >> index_check settings index
call_check settings (call.MutexTake mutex ticks) = mutex_check settings mutex
call_check settings (call.MutexGive mutex) = mutex_check settings mutex
call_check settings (call.QueueSend queue ticks) = queue_check settings queue
call_check settings (call.QueueReceive queue ticks) = queue_check settings queue

-- the faults of a step, in the order in which they are tried
abbrev pub step_check : Settings → Step → Result ⊤ Fault
step_check settings step.Tick = Ok tt
step_check settings (step.Switch core) = core_check settings core
step_check settings (step.Call core task call) =
    core_check settings core >> task_check settings task >> call_check settings call
step_check settings (step.Interrupt core note) =
    core_check settings core >> note_check settings note
step_check settings (step.QueueInterrupt core queue direction) =
    core_check settings core >> queue_check settings queue
step_check settings (step.ResumeInterrupt core task) =
    core_check settings core >> resume_check settings task
step_check settings (step.Pass units) = pass_check settings units

-- the number of an action is one of 32 bits
abbrev pub IsNotifyActionOfWord : NotifyAction → Type 0
IsNotifyActionOfWord Nothing = ⊤
IsNotifyActionOfWord (SetBits bits) = bits < 2 ^ 32
IsNotifyActionOfWord Increment = ⊤
IsNotifyActionOfWord (Set value) = value < 2 ^ 32
IsNotifyActionOfWord (SetNew value) = value < 2 ^ 32

-- every number of a call is one of 32 bits
abbrev pub IsOfWords : Call → Type 0
IsOfWords call.Yield = ⊤
IsOfWords (call.Delay ticks) = ticks < 2 ^ 32
IsOfWords (call.DelayUntil prev inc) = (prev < 2 ^ 32) × (inc < 2 ^ 32)
IsOfWords call.Finish = ⊤
IsOfWords call.HoldOpen = ⊤
IsOfWords call.HoldClose = ⊤
IsOfWords (call.PrioritySet task priority) = priority < 2 ^ 32
IsOfWords (call.AffinitySet task mask) = mask < 2 ^ 32
IsOfWords (call.PreemptOff task) = ⊤
IsOfWords (call.PreemptOn task) = ⊤
IsOfWords (call.Suspend task) = ⊤
IsOfWords (call.Resume task) = ⊤
IsOfWords (call.Notify note) = IsNotifyActionOfWord note.action
IsOfWords (call.NotifyWait entry exit ticks index) =
    (entry < 2 ^ 32) × (exit < 2 ^ 32) × (ticks < 2 ^ 32)
IsOfWords (call.NotifyTake clear ticks index) = ticks < 2 ^ 32
IsOfWords (call.StateClear task index) = ⊤
IsOfWords (call.ValueClear task bits index) = bits < 2 ^ 32
IsOfWords (call.MutexTake mutex ticks) = ticks < 2 ^ 32
IsOfWords (call.MutexGive mutex) = ⊤
IsOfWords (call.QueueSend queue ticks) = ticks < 2 ^ 32
IsOfWords (call.QueueReceive queue ticks) = ticks < 2 ^ 32

abbrev pub IsStepOfWords : Step → Type 0
IsStepOfWords step.Tick = ⊤
IsStepOfWords (step.Switch core) = core < 2 ^ 32
IsStepOfWords (step.Call core task call) = IsOfWords call
IsStepOfWords (step.Interrupt core note) = IsNotifyActionOfWord note.action
IsStepOfWords (step.QueueInterrupt core queue direction) = ⊤
IsStepOfWords (step.ResumeInterrupt core task) = ⊤
IsStepOfWords (step.Pass units) = units < 2 ^ 32

-- a call and a step that were checked against the settings
pub record IsCheckedCall (settings : Settings) (call : Call) : Type 0 where
  pub passes : call_check settings call ≡ Ok tt
  pub words : IsOfWords call

-- a call that blocks its task, as a call
abbrev pub as_call : BlockingCall → Call
as_call (blocking.Delay ticks) = call.Delay ticks
as_call (blocking.DelayUntil prev inc) = call.DelayUntil prev inc
as_call (blocking.NotifyWait entry exit ticks index) = call.NotifyWait entry exit ticks index
as_call (blocking.NotifyTake clear ticks index) = call.NotifyTake clear ticks index

abbrev pub IsCheckedUnfinished : Settings → Unfinished → Type 0
IsCheckedUnfinished settings (unfinished.Made call) = IsCheckedCall settings (as_call call)
IsCheckedUnfinished settings (unfinished.Take mutex mark) = mutex < settings.mutexes
IsCheckedUnfinished settings (unfinished.Transfer queue direction) = queue < queue_total settings

pub record IsCheckedStep (settings : Settings) (step : Step) : Type 0 where
  pub passes : step_check settings step ≡ Ok tt
  pub words : IsStepOfWords step
