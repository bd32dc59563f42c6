-- Whether what can be seen of two kernels is equal, as a test that computes: field by field.
use Rattle.std.specs.Prelude.{List, [], ◌∷◌, Bool, true, false, not, ◌&&◌, ◌==◌, Option, Some, None, if◌then◌else◌}
use Rattle.bench_types.specs.declared.kernel_data.CoreLook.{CoreLook}
use Rattle.bench_types.specs.declared.kernel_data.Delayed.{Delayed}
use Rattle.bench_types.specs.declared.kernel_data.Hold.{Hold}
use Rattle.bench_types.specs.declared.kernel_data.QueueLook.{QueueLook}
use Rattle.bench_types.specs.declared.kernel_data.Settings.{Settings}
use Rattle.bench_types.specs.declared.kernel_data.TaskControl.{TaskControl}
use Rattle.bench_types.specs.declared.kernel_data.Waiter.{Waiter}
use Rattle.bench_types.specs.declared.note.NotifyAction.{NotifyAction}
use Rattle.bench_types.specs.declared.note.NotifyAction.TheVariants.{Nothing, SetBits, Increment, Set, SetNew}
use Rattle.bench_types.specs.declared.note.Note.{Note}
use Rattle.bench_types.specs.declared.note.NoteState.{NoteState}
use Rattle.bench_types.specs.declared.note.NoteState.TheVariants.{NotWaiting, Waiting, Received}
use Rattle.bench_types.specs.declared.note.Notification.{Notification}
use Rattle.bench_types.specs.declared.step.Call.{Call}
use Rattle.bench_types.specs.declared.step.Call.TheVariants.{Yield, Delay, DelayUntil, PrioritySet, AffinitySet, PreemptOff, PreemptOn, Notify, NotifyWait}
use Rattle.bench_types.specs.declared.step.Call.TheVariants.{NotifyTake, StateClear, ValueClear, MutexTake, MutexGive, QueueSend, QueueReceive, Suspend, Resume, Finish, HoldOpen, HoldClose}
use Rattle.bench_types.specs.declared.step.Direction.{Direction}
use Rattle.bench_types.specs.declared.step.Direction.TheVariants.{Send, Receive}
use Rattle.bench_types.specs.declared.step.Unfinished.{Unfinished}
use Rattle.bench_types.specs.declared.step.Unfinished.TheVariants.{Made, Take, Transfer}
use Rattle.bench_types.specs.Step.{as_call}
use Rattle.bench_model.specs.Control.{Control}
use Rattle.bench_model.specs.Lists.{Lists, View, view_of}
use Rattle.bench_model.specs.Table.{Table}

abbrev pub are_same_bools : Bool → Bool → Bool
are_same_bools a b = if a then b else not b

abbrev pub are_same_options : {X : Type 0} → (X → X → Bool) → Option X → Option X → Bool
are_same_options same None None = true
are_same_options same (Some x) (Some y) = same x y
are_same_options same x y = false

-- of one length, and equal item by item
abbrev pub are_same_lists : {X : Type 0} → (X → X → Bool) → List X → List X → Bool
are_same_lists same [] [] = true
are_same_lists same (x ∷ xs) (y ∷ ys) = same x y && are_same_lists same xs ys
are_same_lists same xs ys = false

abbrev pub are_same_settings : Settings → Settings → Bool
are_same_settings a b =
    a.cores == b.cores && a.priorities == b.priorities && are_same_bools a.slicing b.slicing
    && a.mutexes == b.mutexes && a.notes == b.notes
    && are_same_options (λ m n. m == n) a.queues b.queues && a.units == b.units
    && a.tasks == b.tasks

abbrev pub are_same_looks : CoreLook → CoreLook → Bool
are_same_looks a b =
    a.current == b.current && are_same_bools a.pend b.pend && are_same_bools a.asked b.asked

abbrev pub are_same_blocks : TaskControl → TaskControl → Bool
are_same_blocks a b =
    a.base == b.base && a.in_use == b.in_use && a.mask == b.mask
    && are_same_bools a.preempt b.preempt

abbrev pub are_same_actions : NotifyAction → NotifyAction → Bool
are_same_actions Nothing Nothing = true
are_same_actions (SetBits bits) (SetBits others) = bits == others
are_same_actions Increment Increment = true
are_same_actions (Set value) (Set other) = value == other
are_same_actions (SetNew value) (SetNew other) = value == other
are_same_actions a b = false

abbrev pub are_same_notes : Note → Note → Bool
are_same_notes a b =
    a.task == b.task && are_same_actions a.action b.action && a.index == b.index

abbrev pub are_same_states : NoteState → NoteState → Bool
are_same_states NotWaiting NotWaiting = true
are_same_states Waiting Waiting = true
are_same_states Received Received = true
are_same_states a b = false

abbrev pub are_same_notifications : Notification → Notification → Bool
are_same_notifications a b = a.value == b.value && are_same_states a.state b.state

abbrev pub are_same_calls : Call → Call → Bool
are_same_calls Yield Yield = true
are_same_calls (Delay ticks) (Delay others) = ticks == others
are_same_calls (DelayUntil prev inc) (DelayUntil other more) = prev == other && inc == more
are_same_calls (PrioritySet task priority) (PrioritySet other level) =
    task == other && priority == level
are_same_calls (AffinitySet task mask) (AffinitySet other bits) = task == other && mask == bits
are_same_calls (PreemptOff task) (PreemptOff other) = task == other
are_same_calls (PreemptOn task) (PreemptOn other) = task == other
are_same_calls (Notify note) (Notify other) = are_same_notes note other
are_same_calls (NotifyWait entry exit ticks index) (NotifyWait first last others place) =
    entry == first && exit == last && ticks == others && index == place
are_same_calls (NotifyTake clear ticks index) (NotifyTake all others place) =
    are_same_bools clear all && ticks == others && index == place
are_same_calls (StateClear task index) (StateClear other place) = task == other && index == place
are_same_calls (ValueClear task bits index) (ValueClear other others place) =
    task == other && bits == others && index == place
are_same_calls (MutexTake mutex ticks) (MutexTake other others) = mutex == other && ticks == others
are_same_calls (MutexGive mutex) (MutexGive other) = mutex == other
are_same_calls (QueueSend queue ticks) (QueueSend other others) = queue == other && ticks == others
are_same_calls (QueueReceive queue ticks) (QueueReceive other others) =
    queue == other && ticks == others
are_same_calls (Suspend task) (Suspend other) = task == other
are_same_calls (Resume task) (Resume other) = task == other
are_same_calls Finish Finish = true
are_same_calls HoldOpen HoldOpen = true
are_same_calls HoldClose HoldClose = true
are_same_calls a b = false

abbrev pub are_same_directions : Direction → Direction → Bool
are_same_directions Send Send = true
are_same_directions Receive Receive = true
are_same_directions a b = false

abbrev pub are_same_unfinished : Unfinished → Unfinished → Bool
are_same_unfinished (Made a) (Made b) = are_same_calls (as_call a) (as_call b)
are_same_unfinished (Take mutex mark) (Take other flag) =
    mutex == other && are_same_bools mark flag
are_same_unfinished (Transfer queue direction) (Transfer other way) =
    queue == other && are_same_directions direction way
are_same_unfinished a b = false

abbrev pub are_same_queues : QueueLook → QueueLook → Bool
are_same_queues a b = a.length == b.length && a.messages == b.messages

abbrev pub are_same_holds : Hold → Hold → Bool
are_same_holds a b = a.core == b.core && a.depth == b.depth

abbrev pub are_same_delays : Delayed → Delayed → Bool
are_same_delays a b = a.task == b.task && a.left == b.left

abbrev pub are_same_waiters : Waiter → Waiter → Bool
are_same_waiters a b =
    a.task == b.task && a.wait.list == b.wait.list && a.wait.priority == b.wait.priority

abbrev pub are_same_controls : Control → Control → Bool
are_same_controls a b =
    are_same_lists are_same_looks a.cores b.cores && are_same_lists are_same_blocks a.tasks b.tasks

abbrev pub are_same_orders : Lists → Lists → Bool
are_same_orders a b =
    are_same_lists (λ i j. i == j) a.ready b.ready && a.tick == b.tick
    && are_same_lists are_same_delays a.delayed b.delayed
    && are_same_lists are_same_waiters a.waiters b.waiters
    && are_same_lists (are_same_options (λ m n. m == n)) a.deadlines b.deadlines
    && are_same_lists (λ m n. m == n) a.values b.values

abbrev pub are_same_views : View → View → Bool
are_same_views a b =
    are_same_settings a.settings b.settings && are_same_controls a.control b.control
    && are_same_lists (are_same_options are_same_unfinished) a.calls b.calls
    && are_same_lists are_same_notifications a.notes b.notes
    && are_same_lists (are_same_options (λ m n. m == n)) a.holders b.holders
    && are_same_lists are_same_queues a.queues b.queues
    && are_same_options are_same_holds a.hold b.hold && are_same_orders a.orders b.orders

-- what can be seen of the tables is equal, as a test that computes, which meetings use; the law
-- SameIsTested says that it agrees with Same
unfoldable pub is_same : Table → Table → Bool
is_same a b = are_same_views (view_of a) (view_of b)
