-- A kernel's parts together, and what a step needs of them.
use Rattle.std.specs.Prelude.{◌≡◌, ℕ, ◌<◌, ◌≤◌, ◌^◌, ◌==◌, ◌&&◌, Bool, not, filter, List, [], length, true, false, Option, Some, None, Ok}
use Rattle.std.specs.List.{list_any}
use Rattle.std.specs.Option.{ForSome}
use Rattle.bench_types.specs.declared.kernel_data.Delayed.{Delayed}
use Rattle.bench_types.specs.declared.kernel_data.Hold.{Hold}
use Rattle.bench_types.specs.declared.kernel_data.QueueLook.{QueueLook}
use Rattle.bench_types.specs.declared.kernel_data.Settings.{Settings}
use Rattle.bench_types.specs.declared.kernel_data.Waiter.{Waiter}
use Rattle.bench_types.specs.declared.step.Call.{Call}
use Rattle.bench_types.specs.declared.step.Unfinished.{Unfinished}
use Rattle.bench_types.specs.Step.{call_check, queue_total, IsCheckedUnfinished}
use Rattle.bench_types.specs.Limits.{max_cores, max_depth}
use Rattle.list_orders.specs.Search.{has}
use Rattle.bench_model.specs.Control.{current, is_due}
use Rattle.bench_model.specs.Holds.{depth_of}
use Rattle.bench_model.specs.Refusals.{give_refusal}
use Rattle.bench_model.specs.Sound.{list_values}
use Rattle.bench_model.specs.State.{call_at}
use Rattle.bench_model.specs.Table.{Table}
use Rattle.bench_model.specs.Lists.{View, due_tasks, is_ready}
use Rattle.bench_model.specs.Tally.{is_current}
use Rattle.bench_model.specs.Waiters.{event_lists}
use Rattle.ready_core.specs.Fields.{has_priority}
use Rattle.bench_model.specs.Equal.{StandsFor}
use Rattle.bench_model.specs.Cores.{CoresView}
use Rattle.mutex_inherit.specs.Parts.{MutexPart}
use Rattle.notify_core.specs.Parts.{NotesPart}
use Rattle.tick_delay.specs.Parts.{DelayView}

pub record Parts : Type 0 where
  pub settings : Settings
  pub cores : CoresView
  -- per task its unfinished call
  pub calls : List (Option Unfinished)
  pub notes : NotesPart
  pub mutexes : MutexPart
  -- per queue how many messages it has
  pub queues : List QueueLook
  pub delays : DelayView
  -- per task the ticks left to the end of its unfinished wait for an event
  pub deadlines : List (Option ℕ)
  -- the open hold, if there is one
  pub hold : Option Hold

-- the parts, in the order of the record
abbrev pub parts_of :
    Settings → CoresView → List (Option Unfinished) → NotesPart → MutexPart → List QueueLook
    → DelayView → List (Option ℕ) → Option Hold → Parts
parts_of settings cores calls notes mutexes queues delays deadlines hold = record {
  settings = settings;
  cores = cores;
  calls = calls;
  notes = notes;
  mutexes = mutexes;
  queues = queues;
  delays = delays;
  deadlines = deadlines;
  hold = hold;
}

-- what a kernel of these parts shows
abbrev pub kernel_view : Parts → View
kernel_view parts = record {
  settings = parts.settings;
  control = parts.cores.control;
  calls = parts.calls;
  notes = parts.notes.notes;
  holders = parts.mutexes.holders;
  queues = parts.queues;
  hold = parts.hold;
  orders = record {
    ready = parts.cores.ready;
    tick = parts.delays.tick;
    delayed = parts.delays.delayed;
    waiters = parts.mutexes.waiters;
    deadlines = parts.deadlines;
    values = parts.mutexes.values;
  };
}

-- no entry is that of a ready task
abbrev pub IsDisjoint : {E : Type 0} → (E → ℕ) → List ℕ → List E → Type 0
IsDisjoint task_of ready entries =
    (task : ℕ) → has task ready ≡ true → list_any (λ entry. task_of entry == task) entries ≡ false

abbrev pub delayed_task : Delayed → ℕ
delayed_task entry = entry.task

abbrev pub waiting_task : Waiter → ℕ
waiting_task waiter = waiter.task

-- the parts are of the settings, and no ready task waits
pub record IsKernelShape (parts : Parts) : Type 0 where
  pub priorities : parts.cores.priorities ≡ parts.settings.priorities
  pub slicing : parts.cores.slicing ≡ parts.settings.slicing
  pub few_cores : parts.settings.cores ≤ max_cores
  pub some_priority : 0 < parts.settings.priorities
  pub cores : length parts.cores.control.cores ≡ parts.settings.cores
  pub controls : length parts.cores.control.tasks ≡ parts.settings.tasks
  pub calls : length parts.calls ≡ parts.settings.tasks
  pub note_tasks : parts.notes.tasks ≡ parts.settings.tasks
  pub note_entries : parts.notes.entries ≡ parts.settings.notes
  pub some_note : 0 < parts.settings.notes
  pub mutexes : parts.mutexes.tasks ≡ parts.settings.tasks
  pub mutex_priorities : parts.mutexes.priorities ≡ parts.settings.priorities
  pub holders : length parts.mutexes.holders ≡ parts.settings.mutexes
  pub lists : parts.mutexes.lists ≡ event_lists parts.settings
  pub few_lists : event_lists parts.settings < 2 ^ 32
  pub queues : length parts.queues ≡ queue_total parts.settings
  pub delays : parts.delays.tasks ≡ parts.settings.tasks
  pub deadlines : length parts.deadlines ≡ parts.settings.tasks
  pub values : length parts.mutexes.values ≡ list_values parts.settings
  pub undelayed : IsDisjoint delayed_task parts.cores.ready parts.delays.delayed
  pub unqueued : IsDisjoint waiting_task parts.cores.ready parts.mutexes.waiters

-- each unfinished call was checked, so it is for a mutex or a notification that there is
abbrev pub HasCheckedCalls : View → Type 0
HasCheckedCalls view =
    (task : ℕ) (call : Unfinished) → call_at view.calls task ≡ Some call
    → IsCheckedUnfinished view.settings call

-- an open hold is not open too many times over, and its core runs a ready task
pub record IsHeldReady (view : View) (hold : Hold) : Type 0 where
  pub depth : hold.depth ≤ max_depth
  pub ready : has (current view.control hold.core) view.orders.ready ≡ true

-- between steps no task has waited long enough, a core that is not due or holds the kernel runs a
-- ready task, and unfinished calls were checked
pub record IsSettled (view : View) : Type 0 where
  pub none_due : due_tasks view.orders.delayed ≡ []
  pub runs_ready :
      (core : ℕ) → core < view.settings.cores → is_due view.control core ≡ false
      → has (current view.control core) view.orders.ready ≡ true
  pub held : ForSome view.hold (IsHeldReady view)
  pub calls : HasCheckedCalls view

-- what a call finds that is not refused: its core, its ready task and what it is for; it gives no
-- mutex that another task holds, and a hold that is not open too many times over
pub record FindsItsTask (view : View) (core task : ℕ) (call : Call) : Type 0 where
  pub core_below : core < view.settings.cores
  pub task_below : task < view.settings.tasks
  pub ready : has task view.orders.ready ≡ true
  pub checked : call_check view.settings call ≡ Ok tt
  pub own : give_refusal view.holders task call ≡ None
  pub depth : depth_of view.hold ≤ max_depth
  pub calls : HasCheckedCalls view

-- the task is ready and on no core
abbrev pub wants_core : View → ℕ → Bool
wants_core view task = is_ready task view.orders && not (is_current view.control task)

-- the tasks of the ready list of the priority
abbrev pub ready_list : View → ℕ → List ℕ
ready_list view priority = filter (has_priority view.control priority) view.orders.ready

-- there is a sound table that a kernel of which this can be seen stands for
abbrev pub StandsForSome : View → Type 0
StandsForSome view = (table : Table) × StandsFor view table

-- what can be seen but for the tick count and the tasks with ticks left
abbrev pub but_for_delays : View → View
but_for_delays view = record view { orders = record view.orders { tick = 0; delayed = [] } }

-- two kernels have equal cores and control blocks, holders of mutexes, messages, and orders of
-- tasks but for those with ticks left
pub record HasSameOrders (one other : View) : Type 0 where
  pub control : one.control ≡ other.control
  pub holders : one.holders ≡ other.holders
  pub queues : one.queues ≡ other.queues
  pub ready : one.orders.ready ≡ other.orders.ready
  pub waiters : one.orders.waiters ≡ other.orders.waiters
  pub deadlines : one.orders.deadlines ≡ other.orders.deadlines
  pub values : one.orders.values ≡ other.orders.values
