-- What can be seen of a table.
use Rattle.std.specs.Prelude.{◌≡◌, ℕ, All, List, length, ◌+◌, ◌-◌, ◌%◌, ◌^◌, map, Option, option_map, if◌then◌else◌}
use Rattle.bench_types.specs.declared.cause.Cause.{Cause}
use Rattle.bench_types.specs.declared.kernel_data.Settings.{Settings}
use Rattle.bench_types.specs.declared.kernel_data.TaskLook.{TaskLook}
use Rattle.bench_types.specs.declared.note.Notification.{Notification}
use Rattle.bench_types.specs.Cause.{cause_of}
use Rattle.bench_types.specs.Step.{queue_total}
use Rattle.list_orders.specs.Search.{numbers}
use Rattle.bench_model.specs.Control.{core_at}
use Rattle.bench_model.specs.Looks.{note_look, task_look}
use Rattle.bench_model.specs.Queues.{queue_at}
use Rattle.bench_model.specs.State.{call_at, holder_at}
use Rattle.bench_model.specs.Table.{Table, tick_count}
use Rattle.run_views.specs.declared.look.Look.{Look}
use Rattle.run_views.specs.declared.look.Standing.{Standing}
use Rattle.run_views.specs.declared.look.Standing.TheVariants.{Ready, Blocked, Suspended}
use Rattle.run_views.specs.declared.look.TaskStatus.{TaskStatus}

-- how the task stands at a tick count: one that waits for some ticks is to wake that much later
abbrev pub standing_in : ℕ → TaskLook → Standing
standing_in tick look =
    if look.ready then Ready
    else (if look.suspended then Suspended
    else Blocked (option_map (λ left. (tick + left) % 2 ^ 32) look.left))

-- what the task's unfinished call waits for, if it has one
abbrev pub cause_in : Table → ℕ → Option Cause
cause_in table task = option_map cause_of (call_at table.calls task)

abbrev pub status_in : ℕ → Option Cause → TaskLook → TaskStatus
status_in tick cause look = record {
  standing = standing_in tick look;
  in_use = look.in_use;
  base = look.base;
  mask = look.mask;
  preempt = look.preempt;
  cause = cause;
  value = look.value;
  state = look.state;
}

abbrev pub status_of : Table → ℕ → TaskStatus
status_of table task =
    status_in (tick_count table.orders) (cause_in table task) (task_look table task)

-- the notifications of an index, of all tasks
abbrev pub notes_of : Table → ℕ → List Notification
notes_of table index =
    map (λ task. note_look table task index) (numbers table.settings.tasks)

-- those of the indices above 0
abbrev pub further_of : Table → List (List Notification)
further_of table = map (λ k. notes_of table (k + 1)) (numbers (table.settings.notes - 1))

-- how many messages a queue has
abbrev pub messages_in : Table → ℕ → ℕ
messages_in table queue = (queue_at table.queues queue).messages

-- what can be seen of a table
unfoldable pub look_of : Table → Look
look_of table = record {
  tick = tick_count table.orders;
  hold = table.hold;
  cores = map (core_at table.control) (numbers table.settings.cores);
  tasks = map (status_of table) (numbers table.settings.tasks);
  further = further_of table;
  holders = map (holder_at table.holders) (numbers table.settings.mutexes);
  messages = map (messages_in table) (numbers (queue_total table.settings));
}

-- as many cores, tasks, notifications of further indices, mutexes and queues as the settings say
pub record HasShape (settings : Settings) (look : Look) : Type 0 where
  pub cores : length look.cores ≡ settings.cores
  pub tasks : length look.tasks ≡ settings.tasks
  pub further : length look.further ≡ settings.notes - 1
  pub notes : All (λ notes. length notes ≡ settings.tasks) look.further
  pub mutexes : length look.holders ≡ settings.mutexes
  pub queues : length look.messages ≡ queue_total settings
