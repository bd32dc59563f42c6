-- A step in the words of a document: what it does, and its members in their order.
use Rattle.std.specs.Prelude.{ℕ, List, [], ◌++◌, ◌==◌, codes, decimal, Bool, if◌then◌else◌}
use Rattle.bench_types.specs.declared.header.Header.{Header}
use Rattle.bench_types.specs.declared.note.NotifyAction.{NotifyAction}
use Rattle.bench_types.specs.declared.note.NotifyAction.TheVariants.{Nothing, SetBits, Increment, Set, SetNew}
use Rattle.bench_types.specs.declared.note.Note.{Note}
use Rattle.bench_types.specs.declared.step.Call.{Call}
use Rattle.bench_types.specs.declared.step.Call.TheVariants.{Yield, Delay, DelayUntil, PrioritySet, AffinitySet, PreemptOff, PreemptOn, Notify, NotifyWait}
use Rattle.bench_types.specs.declared.step.Call.TheVariants.{NotifyTake, StateClear, ValueClear, MutexTake, MutexGive, QueueSend, QueueReceive, Suspend, Resume}
use Rattle.bench_types.specs.declared.step.Call.TheVariants.{Finish, HoldOpen, HoldClose}
use Rattle.bench_types.specs.declared.step.Direction.{Direction}
use Rattle.bench_types.specs.declared.step.Direction.TheVariants.{Send, Receive}
use Rattle.bench_types.specs.declared.step.Step.{Step}
use Rattle.bench_types.specs.declared.step.Step.TheVariants as steps
use Rattle.bench_types.specs.Header.{name_of}

-- a member that is a number, and one that names a task
abbrev pub number_text : List ℕ → ℕ → List ℕ
number_text member n = codes " " ++ member ++ codes " " ++ decimal n

abbrev pub task_text : Header → List ℕ → ℕ → List ℕ
task_text header member task = codes " " ++ member ++ codes " " ++ name_of header task

abbrev pub to_text : Header → ℕ → List ℕ
to_text header task = task_text header (codes "to") task

-- an index, where each task has more than one notification
abbrev pub index_text : Header → ℕ → List ℕ
index_text header index =
    if header.config.notes == 1 then [] else number_text (codes "index") index

abbrev pub clear_text : Bool → List ℕ
clear_text clear = codes " clear " ++ (if clear then codes "true" else codes "false")

abbrev pub action_text : NotifyAction → List ℕ
action_text Nothing = codes " action none"
action_text (SetBits bits) = codes " action set_bits" ++ number_text (codes "value") bits
action_text Increment = codes " action increment"
action_text (Set value) = codes " action set" ++ number_text (codes "value") value
action_text (SetNew value) = codes " action set_new" ++ number_text (codes "value") value

abbrev pub note_text : Header → Note → List ℕ
note_text header note =
    to_text header note.task ++ action_text note.action ++ index_text header note.index

-- the word of a call
abbrev pub call_word : Call → List ℕ
call_word Yield = codes "yield"
call_word (Delay ticks) = codes "delay"
call_word (DelayUntil prev inc) = codes "delay_until"
call_word (PrioritySet task priority) = codes "priority_set"
call_word (AffinitySet task mask) = codes "affinity_set"
call_word (PreemptOff task) = codes "preempt_off"
call_word (PreemptOn task) = codes "preempt_on"
call_word (Notify note) = codes "notify"
call_word (NotifyWait entry exit ticks index) = codes "notify_wait"
call_word (NotifyTake clear ticks index) = codes "notify_take"
call_word (StateClear task index) = codes "state_clear"
call_word (ValueClear task bits index) = codes "value_clear"
call_word (MutexTake mutex ticks) = codes "mutex_take"
call_word (MutexGive mutex) = codes "mutex_give"
call_word (QueueSend queue ticks) = codes "queue_send"
call_word (QueueReceive queue ticks) = codes "queue_receive"
call_word (Suspend task) = codes "suspend"
call_word (Resume task) = codes "resume"
call_word Finish = codes "finish"
call_word HoldOpen = codes "hold_open"
call_word HoldClose = codes "hold_close"

-- what a call has beside its core and its task
abbrev pub call_members : Header → Call → List ℕ
call_members header Yield = []
call_members header (Delay ticks) = number_text (codes "ticks") ticks
call_members header (DelayUntil prev inc) =
    number_text (codes "prev") prev ++ number_text (codes "inc") inc
call_members header (PrioritySet task priority) =
    to_text header task ++ number_text (codes "priority") priority
call_members header (AffinitySet task mask) =
    to_text header task ++ number_text (codes "mask") mask
call_members header (PreemptOff task) = to_text header task
call_members header (PreemptOn task) = to_text header task
call_members header (Notify note) = note_text header note
call_members header (NotifyWait entry exit ticks index) =
    number_text (codes "entry") entry ++ number_text (codes "exit") exit
    ++ number_text (codes "ticks") ticks ++ index_text header index
call_members header (NotifyTake clear ticks index) =
    clear_text clear ++ number_text (codes "ticks") ticks ++ index_text header index
call_members header (StateClear task index) = to_text header task ++ index_text header index
call_members header (ValueClear task bits index) =
    to_text header task ++ number_text (codes "bits") bits ++ index_text header index
call_members header (MutexTake mutex ticks) =
    number_text (codes "mutex") mutex ++ number_text (codes "ticks") ticks
call_members header (MutexGive mutex) = number_text (codes "mutex") mutex
call_members header (QueueSend queue ticks) =
    number_text (codes "queue") queue ++ number_text (codes "ticks") ticks
call_members header (QueueReceive queue ticks) =
    number_text (codes "queue") queue ++ number_text (codes "ticks") ticks
call_members header (Suspend task) = to_text header task
call_members header (Resume task) = to_text header task
call_members header Finish = []
call_members header HoldOpen = []
call_members header HoldClose = []

abbrev pub core_text : ℕ → List ℕ
core_text core = number_text (codes "core") core

-- the word of an interrupt that sends or receives
abbrev pub interrupt_word : Direction → List ℕ
interrupt_word Send = codes "isr_send"
interrupt_word Receive = codes "isr_receive"

-- a step
unfoldable pub step_text : Header → Step → List ℕ
step_text header steps.Tick = codes "tick"
step_text header (steps.Switch core) = codes "switch" ++ core_text core
step_text header (steps.Call core task call) =
    call_word call ++ core_text core ++ task_text header (codes "by") task
    ++ call_members header call
step_text header (steps.Interrupt core note) =
    codes "isr_notify" ++ core_text core ++ note_text header note
step_text header (steps.QueueInterrupt core queue direction) =
    interrupt_word direction ++ core_text core ++ number_text (codes "queue") queue
step_text header (steps.ResumeInterrupt core task) =
    codes "isr_resume" ++ core_text core ++ to_text header task
step_text header (steps.Pass units) = codes "pass" ++ number_text (codes "units") units
