-- A session as it is written: a JSON value, whose members stand in ascending byte order, in its
-- compact text.
use Rattle.std.specs.Prelude.{◌≡◌, ◌-◌, ℕ, ◌==◌, Bool, List, [], ◌∷◌, ◌++◌, map, codes, Option, Some, None, Ok, is_some, slice_index_or, unwrap_or, if◌then◌else◌}
use Rattle.serde_json.specs.Data.{Data, Members, number, unsigned, string, boolean, array, object, no_members, member}
use Rattle.serde_json.specs.View.{items_of}
use Rattle.serde_json.specs.Written.{compact_text}
use Rattle.bench_types.specs.declared.note.NotifyAction.{NotifyAction}
use Rattle.bench_types.specs.declared.note.NotifyAction.TheVariants as action
use Rattle.bench_types.specs.declared.header.Config.{Config}
use Rattle.bench_types.specs.declared.header.QueueArgs.{QueueArgs}
use Rattle.bench_types.specs.declared.header.TaskArgs.{TaskArgs}
use Rattle.bench_types.specs.declared.header.Header.{Header}
use Rattle.bench_types.specs.declared.step.Step.{Step}
use Rattle.bench_types.specs.declared.step.Step.TheVariants as step
use Rattle.bench_types.specs.declared.step.Call.{Call}
use Rattle.bench_types.specs.declared.step.Call.TheVariants as call
use Rattle.bench_types.specs.declared.step.Direction.{Direction}
use Rattle.bench_types.specs.declared.step.Direction.TheVariants.{Send, Receive}
use Rattle.bench_types.specs.Session.{IsSession}
use Rattle.session_text.specs.declared.format.Format.{Format}
use Rattle.session_text.specs.declared.format.Format.TheVariants.{One, Two, Three}
use Rattle.session_text.specs.NotifyAction.{action_number}
use Rattle.session_text.specs.Session.{session}

abbrev pub members : List (List ℕ × Data) → Members
members [] = no_members
members (first ∷ others) = member first.0 first.1 (members others)

-- an object with these members, in this order
abbrev pub object_with : List (List ℕ × Data) → Data
object_with all = object (members all)

abbrev pub whole : ℕ → Data
whole n = number (unsigned n)

-- the format that a session of the header is written in: the third where it says which queues there
-- are, else the first where each task has one notification
abbrev pub format_for : Header → Format
format_for header =
    if is_some header.queues then Three else if header.config.notes == 1 then One else Two

abbrev pub queue_data : QueueArgs → Data
queue_data queue =
    object_with ((codes "length", whole queue.length) ∷ (codes "messages", whole queue.messages)
    ∷ [])

abbrev pub queues_data : Option (List QueueArgs) → Data
queues_data queues = array (items_of (map queue_data (unwrap_or queues [])))

abbrev pub task_data : TaskArgs → Data
task_data task =
    object_with ((codes "mask", whole task.mask) ∷ (codes "name", string task.name)
    ∷ (codes "priority", whole task.priority) ∷ [])

-- the name of a user task
abbrev pub task_name : Header → ℕ → List ℕ
task_name header task =
    (slice_index_or header.tasks (task - header.config.cores)
    (record { name = []; priority = 0; mask = 0 })).name

-- a call by the task of this name on a core: the call's word is all that is said of it
abbrev pub bare_call : List ℕ → ℕ → List ℕ → Data
bare_call by core word =
    object_with ((codes "by", string by) ∷ (codes "core", whole core) ∷ (codes "do", string word)
    ∷ [])

-- the same, for the task of the other name
abbrev pub call_for : List ℕ → ℕ → List ℕ → List ℕ → Data
call_for by core word to =
    object_with ((codes "by", string by) ∷ (codes "core", whole core) ∷ (codes "do", string word)
    ∷ (codes "to", string to) ∷ [])

abbrev pub delay_data : List ℕ → ℕ → ℕ → Data
delay_data by core ticks =
    object_with ((codes "by", string by) ∷ (codes "core", whole core)
    ∷ (codes "do", string (codes "delay")) ∷ (codes "ticks", whole ticks) ∷ [])

abbrev pub delay_until_data : List ℕ → ℕ → ℕ → ℕ → Data
delay_until_data by core prev inc =
    object_with ((codes "by", string by) ∷ (codes "core", whole core)
    ∷ (codes "do", string (codes "delay_until")) ∷ (codes "inc", whole inc)
    ∷ (codes "prev", whole prev) ∷ [])

abbrev pub priority_data : List ℕ → ℕ → List ℕ → ℕ → Data
priority_data by core to priority =
    object_with ((codes "by", string by) ∷ (codes "core", whole core)
    ∷ (codes "do", string (codes "priority_set")) ∷ (codes "priority", whole priority)
    ∷ (codes "to", string to) ∷ [])

abbrev pub affinity_data : List ℕ → ℕ → List ℕ → ℕ → Data
affinity_data by core to mask =
    object_with ((codes "by", string by) ∷ (codes "core", whole core)
    ∷ (codes "do", string (codes "affinity_set")) ∷ (codes "mask", whole mask)
    ∷ (codes "to", string to) ∷ [])

-- the word of an action
abbrev pub action_word : NotifyAction → List ℕ
action_word action.Nothing = codes "none"
action_word (action.SetBits bits) = codes "set_bits"
action_word action.Increment = codes "increment"
action_word (action.Set value) = codes "set"
action_word (action.SetNew value) = codes "set_new"

-- the index of a notification, which the formats have from the second on
abbrev pub index_member : Format → ℕ → List (List ℕ × Data)
index_member One index = []
index_member Two index = (codes "index", whole index) ∷ []
index_member Three index = (codes "index", whole index) ∷ []

-- the last member of a notification, where its action has a number
abbrev pub value_member : Option ℕ → List (List ℕ × Data)
value_member None = []
value_member (Some value) = (codes "value", whole value) ∷ []

abbrev pub notify_data : Format → List ℕ → ℕ → List ℕ → NotifyAction → ℕ → Data
notify_data format by core to what index =
    object_with ((codes "action", string (action_word what)) ∷ (codes "by", string by)
    ∷ (codes "core", whole core) ∷ (codes "do", string (codes "notify"))
    ∷ index_member format index ++ (codes "to", string to) ∷ value_member (action_number what))

abbrev pub interrupt_data : Format → ℕ → List ℕ → NotifyAction → ℕ → Data
interrupt_data format core to what index =
    object_with ((codes "action", string (action_word what)) ∷ (codes "core", whole core)
    ∷ (codes "do", string (codes "isr_notify"))
    ∷ index_member format index ++ (codes "to", string to) ∷ value_member (action_number what))

abbrev pub wait_data : Format → List ℕ → ℕ → ℕ → ℕ → ℕ → ℕ → Data
wait_data format by core entry exit ticks index =
    object_with ((codes "by", string by) ∷ (codes "core", whole core)
    ∷ (codes "do", string (codes "notify_wait")) ∷ (codes "entry", whole entry)
    ∷ (codes "exit", whole exit) ∷ index_member format index ++ (codes "ticks", whole ticks) ∷ [])

abbrev pub take_data : Format → List ℕ → ℕ → Bool → ℕ → ℕ → Data
take_data format by core clear ticks index =
    object_with ((codes "by", string by) ∷ (codes "clear", boolean clear)
    ∷ (codes "core", whole core) ∷ (codes "do", string (codes "notify_take"))
    ∷ index_member format index ++ (codes "ticks", whole ticks) ∷ [])

abbrev pub state_clear_data : Format → List ℕ → ℕ → List ℕ → ℕ → Data
state_clear_data format by core to index =
    object_with ((codes "by", string by) ∷ (codes "core", whole core)
    ∷ (codes "do", string (codes "state_clear"))
    ∷ index_member format index ++ (codes "to", string to) ∷ [])

abbrev pub value_clear_data : Format → List ℕ → ℕ → List ℕ → ℕ → ℕ → Data
value_clear_data format by core to bits index =
    object_with ((codes "bits", whole bits) ∷ (codes "by", string by) ∷ (codes "core", whole core)
    ∷ (codes "do", string (codes "value_clear"))
    ∷ index_member format index ++ (codes "to", string to) ∷ [])

abbrev pub mutex_take_data : List ℕ → ℕ → ℕ → ℕ → Data
mutex_take_data by core mutex ticks =
    object_with ((codes "by", string by) ∷ (codes "core", whole core)
    ∷ (codes "do", string (codes "mutex_take")) ∷ (codes "mutex", whole mutex)
    ∷ (codes "ticks", whole ticks) ∷ [])

abbrev pub mutex_give_data : List ℕ → ℕ → ℕ → Data
mutex_give_data by core mutex =
    object_with ((codes "by", string by) ∷ (codes "core", whole core)
    ∷ (codes "do", string (codes "mutex_give")) ∷ (codes "mutex", whole mutex) ∷ [])

-- the same, by which a message goes into a queue or out of it
abbrev pub transfer_data : List ℕ → ℕ → List ℕ → ℕ → ℕ → Data
transfer_data by core word queue ticks =
    object_with ((codes "by", string by) ∷ (codes "core", whole core) ∷ (codes "do", string word)
    ∷ (codes "queue", whole queue) ∷ (codes "ticks", whole ticks) ∷ [])

-- the word of an interrupt whose handler sends or receives
abbrev pub queue_interrupt_word : Direction → List ℕ
queue_interrupt_word Send = codes "isr_send"
queue_interrupt_word Receive = codes "isr_receive"

abbrev pub queue_interrupt_data : ℕ → ℕ → Direction → Data
queue_interrupt_data core queue direction =
    object_with ((codes "core", whole core)
    ∷ (codes "do", string (queue_interrupt_word direction)) ∷ (codes "queue", whole queue) ∷ [])

-- an interrupt whose handler resumes the task of this name
abbrev pub resume_interrupt_data : ℕ → List ℕ → Data
resume_interrupt_data core to =
    object_with ((codes "core", whole core) ∷ (codes "do", string (codes "isr_resume"))
    ∷ (codes "to", string to) ∷ [])

abbrev pub pass_data : ℕ → Data
pass_data units =
    object_with ((codes "do", string (codes "pass")) ∷ (codes "units", whole units) ∷ [])

abbrev pub call_data : Format → Header → List ℕ → ℕ → Call → Data
call_data format header by core call.Yield = bare_call by core (codes "yield")
call_data format header by core (call.Delay ticks) = delay_data by core ticks
call_data format header by core (call.DelayUntil prev inc) = delay_until_data by core prev inc
call_data format header by core (call.PrioritySet task priority) =
    priority_data by core (task_name header task) priority
call_data format header by core (call.AffinitySet task mask) =
    affinity_data by core (task_name header task) mask
call_data format header by core (call.PreemptOff task) =
    call_for by core (codes "preempt_off") (task_name header task)
call_data format header by core (call.PreemptOn task) =
    call_for by core (codes "preempt_on") (task_name header task)
call_data format header by core (call.Notify note) =
    notify_data format by core (task_name header note.task) note.action note.index
call_data format header by core (call.NotifyWait entry exit ticks index) =
    wait_data format by core entry exit ticks index
call_data format header by core (call.NotifyTake clear ticks index) =
    take_data format by core clear ticks index
call_data format header by core (call.StateClear task index) =
    state_clear_data format by core (task_name header task) index
call_data format header by core (call.ValueClear task bits index) =
    value_clear_data format by core (task_name header task) bits index
call_data format header by core (call.MutexTake mutex ticks) = mutex_take_data by core mutex ticks
call_data format header by core (call.MutexGive mutex) = mutex_give_data by core mutex
call_data format header by core (call.QueueSend queue ticks) =
    transfer_data by core (codes "queue_send") queue ticks
call_data format header by core (call.QueueReceive queue ticks) =
    transfer_data by core (codes "queue_receive") queue ticks
call_data format header by core (call.Suspend task) =
    call_for by core (codes "suspend") (task_name header task)
call_data format header by core (call.Resume task) =
    call_for by core (codes "resume") (task_name header task)
call_data format header by core call.Finish = bare_call by core (codes "finish")
call_data format header by core call.HoldOpen = bare_call by core (codes "hold_open")
call_data format header by core call.HoldClose = bare_call by core (codes "hold_close")

abbrev pub step_data : Format → Header → Step → Data
step_data format header step.Tick = object_with ((codes "do", string (codes "tick")) ∷ [])
step_data format header (step.Switch core) =
    object_with ((codes "core", whole core) ∷ (codes "do", string (codes "switch")) ∷ [])
step_data format header (step.Call core task made) =
    call_data format header (task_name header task) core made
step_data format header (step.Interrupt core note) =
    interrupt_data format core (task_name header note.task) note.action note.index
step_data format header (step.QueueInterrupt core queue direction) =
    queue_interrupt_data core queue direction
step_data format header (step.ResumeInterrupt core task) =
    resume_interrupt_data core (task_name header task)
step_data format header (step.Pass units) = pass_data units

abbrev pub tasks_data : List TaskArgs → Data
tasks_data tasks = array (items_of (map task_data tasks))

abbrev pub steps_data : Format → Header → List Step → Data
steps_data format header steps = array (items_of (map (step_data format header) steps))

-- a session of the first format, with these steps and tasks
abbrev pub first_data : Config → Data → Data → Data
first_data config steps tasks = object_with (
    (codes "cores", whole config.cores) ∷
    (codes "format", whole 1) ∷
    (codes "mutexes", whole config.mutexes) ∷
    (codes "priorities", whole config.priorities) ∷
    (codes "slicing", boolean config.slicing) ∷
    (codes "steps", steps) ∷
    (codes "tasks", tasks) ∷
    (codes "tick", whole config.tick) ∷ [])

-- the same of the second
abbrev pub second_data : Config → Data → Data → Data
second_data config steps tasks = object_with (
    (codes "cores", whole config.cores) ∷
    (codes "format", whole 2) ∷
    (codes "mutexes", whole config.mutexes) ∷
    (codes "notes", whole config.notes) ∷
    (codes "priorities", whole config.priorities) ∷
    (codes "slicing", boolean config.slicing) ∷
    (codes "steps", steps) ∷
    (codes "tasks", tasks) ∷
    (codes "tick", whole config.tick) ∷ [])

-- how many units of time a tick has, where it has more than one
abbrev pub units_member : ℕ → List (List ℕ × Data)
units_member units = if units == 1 then [] else (codes "units", whole units) ∷ []

-- and of the third, with these queues
abbrev pub third_data : Config → Data → Data → Data → Data
third_data config queues steps tasks = object_with (
    (codes "cores", whole config.cores) ∷
    (codes "format", whole 3) ∷
    (codes "mutexes", whole config.mutexes) ∷
    (codes "notes", whole config.notes) ∷
    (codes "priorities", whole config.priorities) ∷
    (codes "queues", queues) ∷
    (codes "slicing", boolean config.slicing) ∷
    (codes "steps", steps) ∷
    (codes "tasks", tasks) ∷
    (codes "tick", whole config.tick) ∷ units_member config.units)

unfoldable pub data_in : Format → Header → List Step → Data
data_in One header steps =
    first_data header.config (steps_data One header steps) (tasks_data header.tasks)
data_in Two header steps =
    second_data header.config (steps_data Two header steps) (tasks_data header.tasks)
data_in Three header steps =
    third_data header.config (queues_data header.queues) (steps_data Three header steps)
    (tasks_data header.tasks)

abbrev pub session_data : Header → List Step → Data
session_data header steps = data_in (format_for header) header steps

abbrev pub written : Header → List Step → List ℕ
written header steps = compact_text (session_data header steps)

-- Every session that is written is read back as itself.
abbrev pub WrittenReadsBack : Type 0
WrittenReadsBack =
    (header : Header) (steps : List Step) → IsSession (record { header = header; steps = steps })
    → session (written header steps) ≡ Ok (header, steps)
