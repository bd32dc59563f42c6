-- What the table of every kernel keeps: that it is sound.
use Rattle.std.specs.Prelude.{◌≡◌, ℕ, suc, ◌+◌, ◌*◌, ◌<◌, ◌≤◌, ◌^◌, List, [], length, true, false, Option, Some, None, option_map, is_some, IfSome, All, if◌then◌else◌}
use Rattle.std.specs.List.{AllByRecursion}
use Rattle.std.specs.Option.{ForSome}
use Rattle.bench_types.specs.declared.kernel_data.Hold.{Hold}
use Rattle.bench_types.specs.declared.kernel_data.TaskControl.{TaskControl}
use Rattle.bench_types.specs.declared.note.Notification.{Notification}
use Rattle.bench_types.specs.declared.step.Step.{Step}
use Rattle.bench_types.specs.declared.step.Step.TheVariants.{Tick, Switch, Interrupt, QueueInterrupt, ResumeInterrupt, Pass}
use Rattle.bench_types.specs.declared.step.Step.TheVariants as steps
use Rattle.bench_types.specs.declared.kernel_data.EventWait.{EventWait}
use Rattle.bench_types.specs.declared.kernel_data.Settings.{Settings}
use Rattle.bench_types.specs.declared.kernel_data.Waiter.{Waiter}
use Rattle.bench_types.specs.declared.step.Unfinished.{Unfinished}
use Rattle.bench_types.specs.declared.step.Unfinished.TheVariants.{Take, Transfer}
use Rattle.bench_types.specs.Limits.{max_depth}
use Rattle.bench_types.specs.Step.{queue_total, IsCheckedUnfinished}
use Rattle.bench_model.specs.Control.{Control, current, is_due, task_at}
use Rattle.bench_model.specs.Notes.{note_at}
use Rattle.bench_model.specs.State.{call_at, holder_at}
use Rattle.bench_model.specs.Turns.{AreByList, AreInTurn, WaitOnce}
use Rattle.bench_model.specs.Waiters.{event_list, event_lists, list_awaited}
use Rattle.bench_model.specs.Table.{Stamps, Table, row_at, stamp_of, wake_in, deadline_at, is_ready, waits}

-- each task has a list value in a session with queues, and none in another
abbrev pub list_values : Settings → ℕ
list_values settings = if is_some settings.queues then settings.tasks else 0

-- there is a row, a control block, a deadline or none and an unfinished call or none for each task,
-- a list value for each where there are list values, some notifications for each as well, a holder
-- or none for each mutex, what each queue has, and an idle task for each core
pub record IsSized (table : Table) : Type 0 where
  pub cores : length table.control.cores ≡ table.settings.cores
  pub controls : length table.control.tasks ≡ table.settings.tasks
  pub calls : length table.calls ≡ table.settings.tasks
  pub notes : length table.notes ≡ table.settings.tasks * table.settings.notes
  pub holders : length table.holders ≡ table.settings.mutexes
  pub queues : length table.queues ≡ queue_total table.settings
  pub rows : length table.orders.rows ≡ table.settings.tasks
  pub deadlines : length table.orders.deadlines ≡ table.settings.tasks
  pub values : length table.orders.values ≡ list_values table.settings
  pub some_core : 0 < table.settings.cores
  pub some_note : 0 < table.settings.notes
  pub idle_tasks : table.settings.cores ≤ table.settings.tasks

-- every stamp was given once
pub record IsStamped (stamps : Stamps) : Type 0 where
  pub given : (i : ℕ) → i < length stamps.rows → stamp_of stamps i < stamps.next
  pub once :
      (i j : ℕ) → i < length stamps.rows → j < length stamps.rows
      → stamp_of stamps i ≡ stamp_of stamps j → i ≡ j

-- each core has one current task, no task is on two cores, and a core whose current task is not
-- ready is due
pub record HasCurrentTasks (control : Control) (stamps : Stamps) : Type 0 where
  pub is_task : (c : ℕ) → c < length control.cores → current control c < length stamps.rows
  pub on_one_core :
      (c d : ℕ) → c < length control.cores → d < length control.cores
      → current control c ≡ current control d → c ≡ d
  pub blocked_is_due :
      (c : ℕ) → c < length control.cores → is_ready (current control c) stamps ≡ false
      → is_due control c ≡ true
  pub idle_is_ready : (i : ℕ) → i < length control.cores → is_ready i stamps ≡ true

-- a wait is for 1 to 4294967295 ticks, or without end
abbrev pub IsWait : Option ℕ → Type 0
IsWait ticks = IfSome ticks (λ ticks. (0 < ticks) × (ticks < 2 ^ 32))

-- a wait for an event is for at most 4294967294 ticks, or without end (FreeRTOS Reference Manual,
-- xSemaphoreTake and xQueueReceive, portMAX_DELAY)
abbrev pub IsEventTime : Option ℕ → Type 0
IsEventTime ticks = IfSome ticks (λ ticks. suc ticks < 2 ^ 32)

-- a blocked task is woken after 1 to 4294967295 ticks, or waits without end
abbrev pub WakesInTime : Stamps → Type 0
WakesInTime stamps =
    (i wake : ℕ) → i < length stamps.rows → wake_in (row_at stamps i).standing ≡ Some wake
    → (stamps.tick < wake) × (wake < stamps.tick + 2 ^ 32)

-- the priority in use and the base priority are below the number of priorities, and the mask has
-- bits of cores alone
pub record IsControlBlock (settings : Settings) (task : TaskControl) : Type 0 where
  pub in_use : task.in_use < settings.priorities
  pub base : task.base < settings.priorities
  pub mask : task.mask < 2 ^ settings.cores

-- each notification value is a number of 32 bits
abbrev pub HasWords : List Notification → Type 0
HasWords notes = (i : ℕ) → i < length notes → (note_at notes i).value < 2 ^ 32

-- a wait is in an event list that there is, with a priority that there is
abbrev pub IsEventWait : Settings → EventWait → Type 0
IsEventWait settings wait =
    (wait.list < event_lists settings) × (wait.priority < settings.priorities)

-- a waiter is a task that is not ready
abbrev pub IsWaiter : Settings → Stamps → Waiter → Type 0
IsWaiter settings stamps waiter =
    (waiter.task < length stamps.rows) × (is_ready waiter.task stamps ≡ false)
    × IsEventWait settings waiter.wait

-- the event list in which the task of an unfinished call waits
abbrev pub list_of_call : Settings → Option Unfinished → Option ℕ
list_of_call settings (Some (Take mutex mark)) = Some mutex
list_of_call settings (Some (Transfer queue direction)) =
    Some (event_list settings direction queue)
list_of_call settings unfinished = None

-- a task that waits for some ticks or in an event list does so in the event list of its unfinished
-- call, or in none
abbrev pub WaitForTheirCalls : Settings → List (Option Unfinished) → Stamps → Type 0
WaitForTheirCalls settings calls stamps =
    (i : ℕ) → i < length stamps.rows → waits i stamps ≡ true
    → list_awaited i stamps.waiters ≡ list_of_call settings (call_at calls i)

-- what is kept of mutexes and event lists: tasks hold mutexes, tasks wait, each in one list, and
-- are served in turn where there are no list values, which are priorities that there are, and a
-- deadline is that of an unfinished wait, at most 4294967294 ticks ahead, since a wait for
-- 4294967295 has none
pub record HasMutexes (settings : Settings) (calls : List (Option Unfinished))
    (holders : List (Option ℕ)) (stamps : Stamps) : Type 0 where
  pub held_by_tasks : (mutex task : ℕ) → holder_at holders mutex ≡ Some task → task < settings.tasks
  pub waits : AllByRecursion (IsWaiter settings stamps) stamps.waiters
  pub once : WaitOnce stamps.waiters
  pub by_list : AreByList stamps.waiters
  pub awaited : WaitForTheirCalls settings calls stamps
  pub turns : stamps.values ≡ [] → AreInTurn stamps stamps.waiters
  pub values : All (λ value. value < settings.priorities) stamps.values
  pub deadlines :
      (i deadline : ℕ) → deadline_at stamps i ≡ Some deadline
      → (suc deadline < stamps.tick + 2 ^ 32)
      × (is_some (list_of_call settings (call_at calls i)) ≡ true)

-- a task that makes this call waits so: in the event list of the call, and for no longer than a
-- wait for an event may be
abbrev pub IsWaitOf : Settings → Unfinished → Option ℕ → Option EventWait → Type 0
IsWaitOf settings call ticks wait =
    (option_map (λ (wait : EventWait). wait.list) wait ≡ list_of_call settings (Some call))
    × (is_some wait ≡ true → IsEventTime ticks)

-- all of it that says nothing of a hold
pub record IsConsistent (table : Table) : Type 0 where
  pub sized : IsSized table
  pub stamped : IsStamped table.orders
  pub in_place : HasCurrentTasks table.control table.orders
  pub in_time : WakesInTime table.orders
  pub blocks :
      (i : ℕ) → i < table.settings.tasks → IsControlBlock table.settings (task_at table.control i)
  pub calls :
      (i : ℕ) (call : Unfinished) → call_at table.calls i ≡ Some call
      → IsCheckedUnfinished table.settings call
  pub notes : HasWords table.notes
  pub mutexes : HasMutexes table.settings table.calls table.holders table.orders

-- an open hold is open at least once and not too many times over, and the current task of its core
-- is a ready user task without an unfinished call
pub record IsHeldWell (table : Table) (hold : Hold) : Type 0 where
  pub core_below : hold.core < table.settings.cores
  pub depth : (0 < hold.depth) × (hold.depth ≤ max_depth)
  pub user : table.settings.cores ≤ current table.control hold.core
  pub ready : is_ready (current table.control hold.core) table.orders ≡ true
  pub no_call : call_at table.calls (current table.control hold.core) ≡ None

pub record IsSound (table : Table) : Type 0 where
  pub consistent : IsConsistent table
  pub held : ForSome table.hold (IsHeldWell table)

-- the ready task that a core runs
abbrev pub IsCaller : Table → ℕ → ℕ → Type 0
IsCaller table core task =
    (core < length table.control.cores) × (current table.control core ≡ task)
    × (task < length table.orders.rows) × (is_ready task table.orders ≡ true)

-- what a checked step that is not refused finds: its core, and for a call its ready task there
abbrev pub StepFits : Table → Step → Type 0
StepFits table Tick = Unit {0}
StepFits table (Switch core) = core < length table.control.cores
StepFits table (Interrupt core note) =
    (core < length table.control.cores) × (note.task < table.settings.tasks)
    × (note.index < table.settings.notes)
StepFits table (QueueInterrupt core queue direction) =
    (core < length table.control.cores) × (queue < queue_total table.settings)
StepFits table (ResumeInterrupt core task) =
    (core < length table.control.cores) × (task < table.settings.tasks)
StepFits table (Pass units) = Unit {0}
StepFits table (steps.Call core task call) = IsCaller table core task
