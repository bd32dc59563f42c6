-- What changed from one look to another, and a look with changes made.
use Rattle.std.specs.Prelude.{◌≡◌, ◌≢◌, ◌+◌, ◌<◌, ◌^◌, ℕ, zero, suc, All, List, [], ◌∷◌, ◌++◌, length, map, fold, Bool, true, false, ◌&&◌, ◌==◌, Option, Some}
use Rattle.std.specs.Prelude.{if◌then◌else◌, slice_get}
use Rattle.bench_types.specs.declared.cause.Cause.{Cause}
use Rattle.bench_types.specs.declared.cause.Cause.TheVariants as cause
use Rattle.bench_types.specs.declared.kernel_data.CoreLook.{CoreLook}
use Rattle.bench_types.specs.declared.note.Notification.{Notification}
use Rattle.bench_model.specs.SameTest.{are_same_bools, are_same_directions, are_same_options, are_same_holds, are_same_states}
use Rattle.run_views.specs.declared.change.Change.{Change}
use Rattle.run_views.specs.declared.change.Change.TheVariants.{Tick, Hold, Core, Task, Further, Mutex, Queue}
use Rattle.run_views.specs.declared.change.CoreChange.{CoreChange}
use Rattle.run_views.specs.declared.change.CoreChange.TheVariants.{Current, Pend, Asked}
use Rattle.run_views.specs.declared.change.MutexChange.{MutexChange}
use Rattle.run_views.specs.declared.change.MutexChange.TheVariants.{Holder}
use Rattle.run_views.specs.declared.change.NoteChange.{NoteChange}
use Rattle.run_views.specs.declared.change.NoteChange.TheVariants.{Value, State}
use Rattle.run_views.specs.declared.change.QueueChange.{QueueChange}
use Rattle.run_views.specs.declared.change.QueueChange.TheVariants.{Messages}
use Rattle.run_views.specs.declared.change.TaskChange.{TaskChange}
use Rattle.run_views.specs.declared.change.TaskChange.TheVariants.{Stands, InUse, Base, Mask, Preempt, Call, Note}
use Rattle.run_views.specs.declared.look.Look.{Look}
use Rattle.run_views.specs.declared.look.Standing.{Standing}
use Rattle.run_views.specs.declared.look.Standing.TheVariants.{Ready, Blocked, Suspended}
use Rattle.run_views.specs.declared.look.TaskStatus.{TaskStatus}

abbrev pub are_same_numbers : Option ℕ → Option ℕ → Bool
are_same_numbers = are_same_options (λ m n. m == n)

abbrev pub are_same_standings : Standing → Standing → Bool
are_same_standings Ready Ready = true
are_same_standings (Blocked wake) (Blocked later) = are_same_numbers wake later
are_same_standings Suspended Suspended = true
are_same_standings a b = false

abbrev pub are_same_causes : Cause → Cause → Bool
are_same_causes cause.Delay cause.Delay = true
are_same_causes cause.Notification cause.Notification = true
are_same_causes (cause.Mutex mutex) (cause.Mutex other) = mutex == other
are_same_causes (cause.Queue queue direction) (cause.Queue other way) =
    queue == other && are_same_directions direction way
are_same_causes a b = false

-- ---- what changed

-- none where it is the same, else the change
abbrev pub unless : {C : Type 0} → Bool → C → List C
unless same change = if same then [] else change ∷ []

abbrev pub core_changes : CoreLook → CoreLook → List CoreChange
core_changes old new =
    unless (old.current == new.current) (Current old.current new.current)
    ++ unless (are_same_bools old.pend new.pend) (Pend new.pend)
    ++ unless (are_same_bools old.asked new.asked) (Asked new.asked)

-- of how it is scheduled
abbrev pub schedule_changes : TaskStatus → TaskStatus → List TaskChange
schedule_changes old new =
    unless (are_same_standings old.standing new.standing) (Stands old.standing new.standing)
    ++ unless (old.in_use == new.in_use) (InUse old.in_use new.in_use)
    ++ unless (old.base == new.base) (Base old.base new.base)
    ++ unless (old.mask == new.mask) (Mask old.mask new.mask)
    ++ unless (are_same_bools old.preempt new.preempt) (Preempt new.preempt)

-- of its call and its notification of index 0
abbrev pub call_changes : TaskStatus → TaskStatus → List TaskChange
call_changes old new =
    unless (are_same_options are_same_causes old.cause new.cause) (Call old.cause new.cause)
    ++ unless (old.value == new.value) (Note (Value old.value new.value))
    ++ unless (are_same_states old.state new.state) (Note (State old.state new.state))

abbrev pub task_changes : TaskStatus → TaskStatus → List TaskChange
task_changes old new = schedule_changes old new ++ call_changes old new

abbrev pub note_changes : Notification → Notification → List NoteChange
note_changes old new =
    unless (old.value == new.value) (Value old.value new.value)
    ++ unless (are_same_states old.state new.state) (State old.state new.state)

abbrev pub mutex_changes : Option ℕ → Option ℕ → List MutexChange
mutex_changes old new = unless (are_same_numbers old new) (Holder old new)

abbrev pub queue_changes : ℕ → ℕ → List QueueChange
queue_changes old new = unless (old == new) (Messages old new)

-- the changes of items, each with the number of its item; the first item has this number
abbrev pub changes_each :
    {X C : Type 0} → (ℕ → C → Change) → (X → X → List C) → ℕ → List X → List X → List Change
changes_each of_item changes number (old ∷ olds) (new ∷ news) =
    map (of_item number) (changes old new) ++ changes_each of_item changes (suc number) olds news
changes_each of_item changes number olds news = []

-- the changes of all tasks' notifications of an index, and of those of the indices above it
abbrev pub further_changes :
    ℕ → List (List Notification) → List (List Notification) → List Change
further_changes index (old ∷ olds) (new ∷ news) =
    changes_each (Further index) note_changes 0 old new ++ further_changes (suc index) olds news
further_changes index olds news = []

-- the tick count, the hold, the cores, the tasks, their notifications of further indices, the
-- mutexes and the queues
unfoldable pub changes : Look → Look → List Change
changes before after =
    unless (before.tick == after.tick) (Tick before.tick after.tick)
    ++ unless (are_same_options are_same_holds before.hold after.hold)
    (Hold before.hold after.hold)
    ++ changes_each Core core_changes 0 before.cores after.cores
    ++ changes_each Task task_changes 0 before.tasks after.tasks
    ++ further_changes 1 before.further after.further
    ++ changes_each Mutex mutex_changes 0 before.holders after.holders
    ++ changes_each Queue queue_changes 0 before.messages after.messages

-- ---- what changes lead to

abbrev pub core_after : CoreChange → CoreLook → CoreLook
core_after (Current from to) core = record core { current = to }
core_after (Pend now) core = record core { pend = now }
core_after (Asked now) core = record core { asked = now }

abbrev pub task_after : TaskChange → TaskStatus → TaskStatus
task_after (Stands from to) task = record task { standing = to }
task_after (InUse from to) task = record task { in_use = to }
task_after (Base from to) task = record task { base = to }
task_after (Mask from to) task = record task { mask = to }
task_after (Preempt now) task = record task { preempt = now }
task_after (Call from to) task = record task { cause = to }
task_after (Note (Value from to)) task = record task { value = to }
task_after (Note (State from to)) task = record task { state = to }

abbrev pub note_after : NoteChange → Notification → Notification
note_after (Value from to) note = record note { value = to }
note_after (State from to) note = record note { state = to }

abbrev pub holder_after : MutexChange → Option ℕ → Option ℕ
holder_after (Holder from to) holder = to

abbrev pub messages_after : QueueChange → ℕ → ℕ
messages_after (Messages from to) messages = to

-- the list, whose item of the number is what the function makes of it
abbrev pub item_changed : {X : Type 0} → ℕ → (X → X) → List X → List X
item_changed number f [] = []
item_changed zero f (x ∷ xs) = f x ∷ xs
item_changed (suc number) f (x ∷ xs) = x ∷ item_changed number f xs

-- the notifications of the indices above 0, of which the task's of the index changed
abbrev pub further_after :
    ℕ → ℕ → NoteChange → List (List Notification) → List (List Notification)
further_after zero task change notes = notes
further_after (suc k) task change notes =
    item_changed k (item_changed task (note_after change)) notes

abbrev pub look_after : Change → Look → Look
look_after (Tick from to) look = record look { tick = to }
look_after (Hold from to) look = record look { hold = to }
look_after (Core core change) look =
    record look { cores = item_changed core (core_after change) look.cores }
look_after (Task task change) look =
    record look { tasks = item_changed task (task_after change) look.tasks }
look_after (Further index task change) look =
    record look { further = further_after index task change look.further }
look_after (Mutex mutex change) look =
    record look { holders = item_changed mutex (holder_after change) look.holders }
look_after (Queue queue change) look =
    record look { messages = item_changed queue (messages_after change) look.messages }

-- the look after the changes, made one after another
unfoldable pub applied : List Change → Look → Look
applied changes look = fold (λ look change. look_after change look) look changes

-- as many cores, tasks, notifications of each further index, mutexes and queues
pub record HasSameShape (one other : Look) : Type 0 where
  pub cores : length one.cores ≡ length other.cores
  pub tasks : length one.tasks ≡ length other.tasks
  pub further : map length one.further ≡ map length other.further
  pub mutexes : length one.holders ≡ length other.holders
  pub queues : length one.messages ≡ length other.messages

-- ---- what a change says of both looks

-- it was the one, is the other, and these two differ
abbrev pub Differs : {X : Type 0} → X → X → X → X → Type 0
Differs old new from to = (old ≡ from) × (new ≡ to) × (from ≢ to)

abbrev pub TellsOfCore : CoreChange → CoreLook → CoreLook → Type 0
TellsOfCore (Current from to) old new = Differs old.current new.current from to
TellsOfCore (Pend now) old new = (new.pend ≡ now) × (old.pend ≢ now)
TellsOfCore (Asked now) old new = (new.asked ≡ now) × (old.asked ≢ now)

abbrev pub TellsOfTask : TaskChange → TaskStatus → TaskStatus → Type 0
TellsOfTask (Stands from to) old new = Differs old.standing new.standing from to
TellsOfTask (InUse from to) old new = Differs old.in_use new.in_use from to
TellsOfTask (Base from to) old new = Differs old.base new.base from to
TellsOfTask (Mask from to) old new = Differs old.mask new.mask from to
TellsOfTask (Preempt now) old new = (new.preempt ≡ now) × (old.preempt ≢ now)
TellsOfTask (Call from to) old new = Differs old.cause new.cause from to
TellsOfTask (Note (Value from to)) old new = Differs old.value new.value from to
TellsOfTask (Note (State from to)) old new = Differs old.state new.state from to

abbrev pub TellsOfNote : NoteChange → Notification → Notification → Type 0
TellsOfNote (Value from to) old new = Differs old.value new.value from to
TellsOfNote (State from to) old new = Differs old.state new.state from to

abbrev pub TellsOfMutex : MutexChange → Option ℕ → Option ℕ → Type 0
TellsOfMutex (Holder from to) old new = Differs old new from to

abbrev pub TellsOfQueue : QueueChange → ℕ → ℕ → Type 0
TellsOfQueue (Messages from to) old new = Differs old new from to

-- the change tells of the two items of the number
pub record TellsOfItem {X : Type 0} (tells : X → X → Type 0) (number : ℕ)
    (olds news : List X) : Type 0 where
  pub old : X
  pub new : X
  pub was : slice_get olds number ≡ Some old
  pub is : slice_get news number ≡ Some new
  pub printed : tells old new

-- the change tells of the task's notifications of the index, which is above 0
abbrev pub TellsOfFurther :
    ℕ → ℕ → NoteChange → List (List Notification) → List (List Notification) → Type 0
TellsOfFurther zero task change olds news = ⊥
TellsOfFurther (suc k) task change olds news =
    TellsOfItem (TellsOfItem (TellsOfNote change) task) k olds news

-- the change names what it was before and is after, which differ
abbrev pub TellsOf : Look → Look → Change → Type 0
TellsOf before after (Tick from to) = Differs before.tick after.tick from to
TellsOf before after (Hold from to) = Differs before.hold after.hold from to
TellsOf before after (Core core change) =
    TellsOfItem (TellsOfCore change) core before.cores after.cores
TellsOf before after (Task task change) =
    TellsOfItem (TellsOfTask change) task before.tasks after.tasks
TellsOf before after (Further index task change) =
    TellsOfFurther index task change before.further after.further
TellsOf before after (Mutex mutex change) =
    TellsOfItem (TellsOfMutex change) mutex before.holders after.holders
TellsOf before after (Queue queue change) =
    TellsOfItem (TellsOfQueue change) queue before.messages after.messages

-- the items can be numbered by 32 bits
pub record IsNumbered (look : Look) : Type 0 where
  pub cores : length look.cores < 2 ^ 32
  pub tasks : length look.tasks < 2 ^ 32
  pub further : length look.further + 1 < 2 ^ 32
  pub notes : All (λ notes. length notes < 2 ^ 32) look.further
  pub mutexes : length look.holders < 2 ^ 32
  pub queues : length look.messages < 2 ^ 32
