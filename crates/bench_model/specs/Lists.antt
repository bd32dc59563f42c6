-- What can be seen of a kernel: its orders as lists, the tick count as 32 bits, and how long each
-- task still waits.
use Rattle.bench_types.specs.declared.reply.Reply.{Reply}
use Rattle.std.specs.Prelude.{ℕ, ◌+◌, ◌-◌, ◌%◌, ◌^◌, List, map, filter, find, Bool, not, ◌||◌, ◌==◌, nat_le, Option, None, option_map, unwrap_or, is_some}
use Rattle.std.specs.Prelude.{if◌then◌else◌, slice_index_or, slice_set}
use Rattle.std.specs.Option.{option_map_or}
use Rattle.bench_types.specs.declared.kernel_data.Delayed.{Delayed}
use Rattle.bench_types.specs.declared.kernel_data.EventWait.{EventWait}
use Rattle.bench_types.specs.declared.kernel_data.Waiter.{Waiter}
use Rattle.bench_model.specs.Control.{Control, task_at, may_select}
use Rattle.bench_model.specs.State.{State, QueueOps}
use Rattle.list_orders.specs.Search.{by_stamp, placed, ranked, without, has}
use Rattle.bench_model.specs.Table.{Stamps, Table, row_at, stamp_of, tasks_of, stands_ready, wake_in}
use Rattle.bench_model.specs.Waiters.{first_of, list_value_of, revalued, list_awaited, with_wait, without_waiter}

pub record Lists : Type 0 where
  -- the ready tasks, running ones too: the greatest priority in use first, each priority in the
  -- order of its ready list
  pub ready : List ℕ
  -- the tick count
  pub tick : ℕ
  -- the blocked tasks with ticks left: the fewest first, those of one number in the order in which
  -- they began to wait
  pub delayed : List Delayed
  -- the tasks that wait in event lists: list 0 first, of one list the greatest waiting priority
  -- first, those of one priority in the order in which they began to wait
  pub waiters : List Waiter
  -- per task the ticks left to the end of its unfinished wait for an event, none where there is
  -- none or it has no end
  pub deadlines : List (Option ℕ)
  -- per task its list value; empty where the session has none
  pub values : List ℕ

abbrev pub View : Type 0
View = State Lists

-- a task stays in front of another of no greater priority in use
abbrev pub outranks : Control → ℕ → ℕ → Bool
outranks control i j = nat_le (task_at control j).in_use (task_at control i).in_use

-- a waiting task stays in front of another that waits as long or longer
abbrev pub wakes_first : Delayed → Delayed → Bool
wakes_first a b = nat_le a.left b.left

-- a task that begins to wait stands after those that wait as long or shorter
abbrev pub with_delay : ℕ → ℕ → List Delayed → List Delayed
with_delay task ticks delayed = placed wakes_first (record { task = task; left = ticks }) delayed

abbrev pub without_delay : ℕ → List Delayed → List Delayed
without_delay task delayed = filter (λ entry. not (entry.task == task)) delayed

-- a waiting task one tick later
abbrev pub one_tick_less : Delayed → Delayed
one_tick_less entry = record entry { left = entry.left - 1 }

-- the tasks that have waited long enough, in the order in which they began to wait
unfoldable pub due_tasks : List Delayed → List ℕ
due_tasks delayed = map (λ entry. entry.task) (filter (λ entry. entry.left == 0) delayed)

-- the tick count wraps
abbrev pub next_tick : ℕ → ℕ
next_tick tick = (tick + 1) % 2 ^ 32

abbrev pub is_ready : ℕ → Lists → Bool
is_ready task lists = has task lists.ready

-- the first of the ready lists that the core may select, from the greatest priority down
unfoldable pub pick : Control → ℕ → Lists → Option ℕ
pick control core lists = find (may_select control core) lists.ready

unfoldable pub add_to_ready_list : Control → ℕ → Lists → Lists
add_to_ready_list control task lists = record lists {
  ready = placed (outranks control) task (without task lists.ready);
  delayed = without_delay task lists.delayed;
  waiters = without_waiter task lists.waiters;
}

-- a task that waits without end stands in no list of delays
unfoldable pub delay : ℕ → Option ℕ → Option EventWait → Lists → Lists
delay task ticks wait lists = record lists {
  ready = without task lists.ready;
  delayed = option_map_or (λ left. with_delay task left lists.delayed) ticks lists.delayed;
  waiters = with_wait task wait lists.waiters;
  deadlines = slice_set lists.deadlines task (if is_some wait then ticks else None);
}

-- the ticks that are left in the entry of the task, if there is one
abbrev pub left_in : ℕ → List Delayed → Option ℕ
left_in task delayed = option_map (λ entry. entry.left) (find (λ entry. entry.task == task) delayed)

abbrev pub waits : ℕ → Lists → Bool
waits task lists =
    is_some (left_in task lists.delayed) || is_some (list_awaited task lists.waiters)

unfoldable pub suspend : ℕ → Lists → Lists
suspend task lists = record lists {
  ready = without task lists.ready;
  delayed = without_delay task lists.delayed;
  waiters = without_waiter task lists.waiters;
}

abbrev pub tick_count : Lists → ℕ
tick_count lists = lists.tick

-- the tick count wraps, and each waiting task has one tick less left; a deadline that is reached
-- stays so
unfoldable pub advance : Lists → Lists
advance lists = record lists {
  tick = next_tick lists.tick;
  delayed = map one_tick_less lists.delayed;
  deadlines = map (option_map (λ left. left - 1)) lists.deadlines;
}

abbrev pub due : Lists → List ℕ
due lists = due_tasks lists.delayed

unfoldable pub first_waiter : ℕ → Lists → Option Waiter
first_waiter list lists = first_of list lists.waiters

abbrev pub deadline_left : ℕ → Lists → Option ℕ
deadline_left task lists = slice_index_or lists.deadlines task None

unfoldable pub forget_deadline : ℕ → Lists → Lists
forget_deadline task lists = record lists { deadlines = slice_set lists.deadlines task None }

abbrev pub list_value : ℕ → Lists → Option ℕ
list_value task lists = list_value_of task lists.values

unfoldable pub set_list_value : ℕ → ℕ → Lists → Lists
set_list_value task value lists = record lists {
  waiters = revalued lists.values task value lists.waiters;
  values = slice_set lists.values task value;
}

abbrev pub list_queues : QueueOps Lists
list_queues = record {
  is_ready = is_ready;
  pick = pick;
  add_to_ready_list = add_to_ready_list;
  delay = delay;
  waits = waits;
  suspend = suspend;
  tick_count = tick_count;
  advance = advance;
  due = due;
  first_waiter = first_waiter;
  deadline_left = deadline_left;
  forget_deadline = forget_deadline;
  list_value = list_value;
  set_list_value = set_list_value;
}

-- the task with the ticks left to its wake
abbrev pub delayed_of : Stamps → ℕ → Delayed
delayed_of stamps task =
    record { task = task; left = unwrap_or (wake_in (row_at stamps task).standing) 0 - stamps.tick }

-- What can be seen of stamps and wakes.
unfoldable pub lists_of : Control → Stamps → Lists
lists_of control stamps =
    let in_order = λ (test : ℕ → Bool). by_stamp (stamp_of stamps) test
    (tasks_of stamps) stamps.next in record {
      ready = ranked (outranks control)
          (in_order (λ task. stands_ready (row_at stamps task).standing));
      tick = stamps.tick % 2 ^ 32;
      delayed = ranked wakes_first
          (map (delayed_of stamps)
          (in_order (λ task. is_some (wake_in (row_at stamps task).standing))));
      waiters = stamps.waiters;
      deadlines = map (option_map (λ deadline. deadline - stamps.tick)) stamps.deadlines;
      values = stamps.values;
    }

-- What can be seen of a table.
abbrev pub view_of : Table → View
view_of table = record {
  settings = table.settings;
  control = table.control;
  calls = table.calls;
  notes = table.notes;
  holders = table.holders;
  queues = table.queues;
  hold = table.hold;
  orders = lists_of table.control table.orders;
}

-- what can be seen of a reply and the table after it
abbrev pub seen_of : Reply × Table → Reply × View
seen_of made_step = (made_step.0, view_of made_step.1)
