-- The start of a kernel (V11 tasks.c, vTaskStartScheduler).
use Rattle.std.specs.Prelude.{ℕ, ◌+◌, ◌-◌, ◌*◌, ◌%◌, ◌^◌, [], ◌++◌, List, length, map, fold, replicate, false, true, None, is_some, unwrap_or, if◌then◌else◌}
use Rattle.std.specs.List.{range_with_len}
use Rattle.bench_types.specs.declared.header.Header.{Header}
use Rattle.bench_types.specs.declared.header.QueueArgs.{QueueArgs}
use Rattle.bench_types.specs.declared.header.TaskArgs.{TaskArgs}
use Rattle.bench_types.specs.declared.kernel_data.CoreLook.{CoreLook}
use Rattle.bench_types.specs.declared.kernel_data.QueueLook.{QueueLook}
use Rattle.bench_types.specs.declared.kernel_data.TaskControl.{TaskControl}
use Rattle.bench_types.specs.Header.{cores_of_mask}
use Rattle.bench_types.specs.Step.{settings_of}
use Rattle.bench_model.specs.declared.row.TaskRow.{TaskRow}
use Rattle.bench_model.specs.declared.row.TaskState.TheVariants.{Ready}
use Rattle.list_orders.specs.Search.{numbers, ranked}
use Rattle.bench_model.specs.Control.{Control}
use Rattle.bench_model.specs.Notes.{no_note}
use Rattle.bench_model.specs.State.{State, QueueOps}
use Rattle.bench_model.specs.Seek.{after_switch}
use Rattle.bench_model.specs.Table.{Stamps, Table, stamp_queues}
use Rattle.bench_model.specs.Lists.{Lists, View, list_queues, outranks}

-- preemption is on for each task; an idle task has priority 0 and may run on every core
abbrev pub idle_control : ℕ → TaskControl
idle_control cores = record { base = 0; in_use = 0; mask = 2 ^ cores - 1; preempt = true }

abbrev pub user_control : ℕ → TaskArgs → TaskControl
user_control cores args =
    record {
      base = args.priority;
      in_use = args.priority;
      mask = cores_of_mask cores args.mask;
      preempt = true;
    }

-- core c has idle task c and no flag
abbrev pub first_look : ℕ → CoreLook
first_look core = record { current = core; pend = false; asked = false }

abbrev pub first_control : Header → Control
first_control header = let cores = header.config.cores in record {
  cores = map first_look (numbers cores);
  tasks = replicate cores (idle_control cores) ++ map (user_control cores) header.tasks;
}

-- a session of format 3 has list values: each task's is its base priority
abbrev pub first_values : Header → List ℕ
first_values header =
    if is_some header.queues then map (λ block. block.base) (first_control header).tasks else []

-- a queue as it was created (FreeRTOS Reference Manual, xQueueCreate and
-- xSemaphoreCreateCounting)
abbrev pub first_queue : QueueArgs → QueueLook
first_queue args = record { length = args.length; messages = args.messages }

abbrev pub first_queues : Header → List QueueLook
first_queues header = map first_queue (unwrap_or header.queues [])

-- all tasks are ready: the user tasks in header order, the idle tasks after them
abbrev pub ready_row : ℕ → TaskRow
ready_row stamp = record { stamp = stamp; standing = Ready }

unfoldable pub first_stamps : Header → Stamps
first_stamps header = let cores = header.config.cores in let users = length header.tasks in record {
  rows = map (λ core. ready_row (users + core)) (numbers cores) ++ map ready_row (numbers users);
  waiters = [];
  deadlines = replicate (cores + users) None;
  values = first_values header;
  tick = header.config.tick;
  next = cores + users;
}

-- the same as lists
unfoldable pub first_lists : Header → Lists
first_lists header = let cores = header.config.cores in let users = length header.tasks in record {
  ready = ranked (outranks (first_control header)) (range_with_len cores users ++ numbers cores);
  tick = header.config.tick % 2 ^ 32;
  delayed = [];
  waiters = [];
  deadlines = replicate (cores + users) None;
  values = first_values header;
}

module _ {Orders : Type 0} where
  -- before any core has selected
  unfoldable pub unstarted : Orders → Header → State Orders
  unstarted orders header = record {
    settings = settings_of header;
    control = first_control header;
    calls = replicate (header.config.cores + length header.tasks) None;
    notes =
        replicate ((header.config.cores + length header.tasks) * header.config.notes) no_note;
    holders = replicate header.config.mutexes None;
    queues = first_queues header;
    hold = None;
    orders = orders;
  }

  -- then each core selects, core 0 first
  unfoldable pub started : QueueOps Orders → Orders → Header → State Orders
  started ops orders header =
      fold (λ kernel core. after_switch ops core kernel) (unstarted orders header)
      (numbers header.config.cores)

-- the table of a kernel that was just started, and what can be seen of it
abbrev pub start : Header → Table
start header = started stamp_queues (first_stamps header) header

abbrev pub start_seen : Header → View
start_seen header = started list_queues (first_lists header) header
