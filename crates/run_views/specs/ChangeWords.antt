-- A change in words.
use Rattle.std.specs.Prelude.{ℕ, List, ◌++◌, codes, decimal, Bool, Option, Some, None, if◌then◌else◌}
use Rattle.bench_types.specs.declared.header.Header.{Header}
use Rattle.bench_types.specs.declared.kernel_data.Hold.{Hold}
use Rattle.bench_types.specs.declared.note.NoteState.{NoteState}
use Rattle.bench_types.specs.declared.note.NoteState.TheVariants.{NotWaiting, Waiting, Received}
use Rattle.bench_types.specs.Header.{name_of}
use Rattle.run_views.specs.declared.change.Change.{Change}
use Rattle.run_views.specs.declared.change.Change.TheVariants as changes
use Rattle.run_views.specs.declared.change.CoreChange.{CoreChange}
use Rattle.run_views.specs.declared.change.CoreChange.TheVariants.{Current, Pend, Asked}
use Rattle.run_views.specs.declared.change.MutexChange.{MutexChange}
use Rattle.run_views.specs.declared.change.MutexChange.TheVariants.{Holder}
use Rattle.run_views.specs.declared.change.NoteChange.{NoteChange}
use Rattle.run_views.specs.declared.change.NoteChange.TheVariants.{Value, State}
use Rattle.run_views.specs.declared.change.QueueChange.{QueueChange}
use Rattle.run_views.specs.declared.change.QueueChange.TheVariants.{Messages}
use Rattle.run_views.specs.declared.change.TaskChange.{TaskChange}
use Rattle.run_views.specs.declared.change.TaskChange.TheVariants.{Stands, InUse, Base, Mask, Preempt, Call, Note}
use Rattle.run_views.specs.declared.look.Standing.{Standing}
use Rattle.run_views.specs.declared.look.Standing.TheVariants.{Ready, Blocked, Suspended}
use Rattle.run_views.specs.StepWords.{index_text}

-- what it was, and what it is
abbrev pub from_to : List ℕ → ℕ → ℕ → List ℕ
from_to name from to = name ++ codes " " ++ decimal from ++ codes " to " ++ decimal to

-- a flag that was set or cleared
abbrev pub set_text : Bool → List ℕ
set_text now = if now then codes " set" else codes " cleared"

abbrev pub hold_text : Hold → List ℕ
hold_text hold = codes "core " ++ decimal hold.core ++ codes " depth " ++ decimal hold.depth

abbrev pub hold_change : Option Hold → Option Hold → List ℕ
hold_change None None = codes "no hold"
hold_change None (Some to) = codes "hold opened, " ++ hold_text to
hold_change (Some from) None = codes "hold closed, " ++ hold_text from
hold_change (Some from) (Some to) = codes "hold " ++ hold_text from ++ codes " to " ++ hold_text to

abbrev pub core_change : Header → CoreChange → List ℕ
core_change header (Current from to) =
    codes " current " ++ name_of header from ++ codes " to " ++ name_of header to
core_change header (Pend now) = codes " pend" ++ set_text now
core_change header (Asked now) = codes " asked" ++ set_text now

-- how the task stands now
abbrev pub standing_text : Standing → List ℕ
standing_text Ready = codes " woken"
standing_text (Blocked None) = codes " blocked without end"
standing_text (Blocked (Some wake)) = codes " blocked until tick " ++ decimal wake
standing_text Suspended = codes " suspended"

-- a suspended task that is ready was resumed
abbrev pub standing_change : Standing → Standing → List ℕ
standing_change Suspended Ready = codes " resumed"
standing_change from to = standing_text to

abbrev pub state_text : NoteState → List ℕ
state_text NotWaiting = codes "none"
state_text Waiting = codes "waiting"
state_text Received = codes "received"

-- a notification, and its index where there are more than one
abbrev pub note_change : Header → ℕ → NoteChange → List ℕ
note_change header index (Value from to) =
    from_to (codes " notification value") from to ++ index_text header index
note_change header index (State from to) =
    codes " notification " ++ state_text from ++ codes " to " ++ state_text to
    ++ index_text header index

abbrev pub task_change : Header → TaskChange → List ℕ
task_change header (Stands from to) = standing_change from to
task_change header (InUse from to) = from_to (codes " priority in use") from to
task_change header (Base from to) = from_to (codes " base priority") from to
task_change header (Mask from to) = from_to (codes " mask") from to
task_change header (Preempt now) = if now then codes " preemption on" else codes " preemption off"
task_change header (Call from None) = codes " call ended"
task_change header (Call from (Some to)) = codes " call begun"
task_change header (Note change) = note_change header 0 change

abbrev pub holder_change : Header → Option ℕ → Option ℕ → List ℕ
holder_change header None None = codes " free"
holder_change header None (Some to) = codes " taken by " ++ name_of header to
holder_change header (Some from) None = codes " given by " ++ name_of header from
holder_change header (Some from) (Some to) =
    codes " given by " ++ name_of header from ++ codes ", taken by " ++ name_of header to

abbrev pub mutex_change : Header → MutexChange → List ℕ
mutex_change header (Holder from to) = holder_change header from to

abbrev pub queue_change : QueueChange → List ℕ
queue_change (Messages from to) = from_to (codes " messages") from to

-- a change, by what it is of
unfoldable pub change_text : Header → Change → List ℕ
change_text header (changes.Tick from to) = from_to (codes "tick") from to
change_text header (changes.Hold from to) = hold_change from to
change_text header (changes.Core core change) =
    codes "core " ++ decimal core ++ core_change header change
change_text header (changes.Task task change) = name_of header task ++ task_change header change
change_text header (changes.Further index task change) =
    name_of header task ++ note_change header index change
change_text header (changes.Mutex mutex change) =
    codes "mutex " ++ decimal mutex ++ mutex_change header change
change_text header (changes.Queue queue change) =
    codes "queue " ++ decimal queue ++ queue_change change
