-- The laws of suspended tasks. Each is the contract of a public function.
use Rattle.std.specs.Prelude.{◌≡◌, ℕ, ◌<◌, ◌≤◌, true, false, Some}
use Rattle.bench_types.specs.declared.kernel_data.Waiter.{Waiter}
use Rattle.bench_types.specs.declared.note.Note.{Note}
use Rattle.list_orders.specs.Search.{has}
use Rattle.bench_model.specs.Lists.{list_queues, seen_of, view_of}
use Rattle.bench_model.specs.Notifying.{notify}
use Rattle.bench_model.specs.Sound.{IsConsistent}
use Rattle.bench_model.specs.Suspending.{is_suspended, suspended, resumed, resume_interrupted}
use Rattle.bench_model.specs.Table.{Table, stamp_queues, due, first_waiter, is_ready}

-- seen as lists, each rule of a table is the rule over lists

abbrev pub SuspensionIsSeen : Type 0
SuspensionIsSeen = (table : Table) (task : ℕ) → IsConsistent table → task < table.settings.tasks →
    is_suspended list_queues task (view_of table) ≡ is_suspended stamp_queues task table

abbrev pub SuspendSimulates : Type 0
SuspendSimulates =
    (table : Table) (acting task : ℕ) → IsConsistent table → task < table.settings.tasks →
    view_of (suspended stamp_queues acting task table)
    ≡ suspended list_queues acting task (view_of table)

abbrev pub ResumeSimulates : Type 0
ResumeSimulates =
    (table : Table) (acting task : ℕ) → IsConsistent table → task < table.settings.tasks →
    view_of (resumed stamp_queues acting task table)
    ≡ resumed list_queues acting task (view_of table)

abbrev pub ResumeInterruptSimulates : Type 0
ResumeInterruptSimulates =
    (table : Table) (core task : ℕ) → IsConsistent table → task < table.settings.tasks →
    seen_of (resume_interrupted stamp_queues core task table)
    ≡ resume_interrupted list_queues core task (view_of table)

-- each rule keeps a table consistent; a user task may be suspended

abbrev pub SuspendKeepsConsistent : Type 0
SuspendKeepsConsistent =
    (table : Table) (acting task : ℕ) → IsConsistent table → table.settings.cores ≤ task
    → task < table.settings.tasks → IsConsistent (suspended stamp_queues acting task table)

abbrev pub ResumeKeepsConsistent : Type 0
ResumeKeepsConsistent =
    (table : Table) (acting task : ℕ) → IsConsistent table → task < table.settings.tasks
    → IsConsistent (resumed stamp_queues acting task table)

-- a task is suspended where it was suspended by a call
abbrev pub SuspendedIsSuspended : Type 0
SuspendedIsSuspended =
    (table : Table) (acting task : ℕ) → IsConsistent table → task < table.settings.tasks
    → is_suspended stamp_queues task (suspended stamp_queues acting task table) ≡ true

-- and it is ready where it was resumed
abbrev pub ResumedIsReady : Type 0
ResumedIsReady =
    (table : Table) (acting task : ℕ) → IsConsistent table → task < table.settings.tasks
    → is_suspended stamp_queues task table ≡ true →
    is_ready task (resumed stamp_queues acting task table).orders ≡ true

-- to a task that is not suspended nothing happens where it is resumed
abbrev pub OthersAreNotResumed : Type 0
OthersAreNotResumed =
    (table : Table) (acting task : ℕ) → is_suspended stamp_queues task table ≡ false
    → resumed stamp_queues acting task table ≡ table

-- a notification wakes no suspended task: it changes the notifications alone
abbrev pub NotifyWakesNoSuspended : Type 0
NotifyWakesNoSuspended =
    (table : Table) (acting : ℕ) (note : Note) → note.index < table.settings.notes
    → is_suspended stamp_queues note.task table ≡ true →
    notify stamp_queues acting note table
    ≡ record table { notes = (notify stamp_queues acting note table).notes }

-- nor does a tick
abbrev pub NoSuspendedIsDue : Type 0
NoSuspendedIsDue =
    (table : Table) (task : ℕ) → is_suspended stamp_queues task table ≡ true
    → has task (due table.orders) ≡ false

-- and a suspended task is the first waiter of no event list
abbrev pub NoSuspendedIsServed : Type 0
NoSuspendedIsServed =
    (table : Table) (list : ℕ) (waiter : Waiter) → first_waiter list table.orders ≡ Some waiter
    → is_suspended stamp_queues waiter.task table ≡ false
