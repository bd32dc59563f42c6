-- The kernel as a flat table: one row a task, whose stamps and absolute wakes give every order but
-- that of waiters, which is kept as it is.
use Rattle.std.specs.Prelude.{ℕ, suc, ◌+◌, ◌-◌, ◌%◌, ◌^◌, List, length, Bool, true, false, ◌&&◌, ◌||◌, ◌==◌, nat_lt, nat_le, Option, None, option_map, is_some}
use Rattle.std.specs.Prelude.{if◌then◌else◌, slice_index_or, slice_set}
use Rattle.std.specs.Option.{option_map_or}
use Rattle.bench_types.specs.declared.kernel_data.EventWait.{EventWait}
use Rattle.bench_types.specs.declared.kernel_data.Waiter.{Waiter}
use Rattle.bench_model.specs.declared.row.TaskRow.{TaskRow}
use Rattle.bench_model.specs.declared.row.TaskState.{TaskState}
use Rattle.bench_model.specs.declared.row.TaskState.TheVariants.{Ready, Blocked}
use Rattle.bench_model.specs.Control.{Control, task_at, may_select}
use Rattle.bench_model.specs.State.{State, QueueOps}
use Rattle.bench_model.specs.Waiters.{first_of, list_value_of, revalued, list_awaited, with_wait, without_waiter}
use Rattle.list_orders.specs.Search.{numbers, best, by_stamp}

pub record Stamps : Type 0 where
  -- per task its stamp and, where it waits for some ticks, its wake
  pub rows : List TaskRow
  -- the tasks that wait in event lists, in the order in which they are served
  pub waiters : List Waiter
  -- per task the tick count at which its unfinished wait for an event is to end, none where there
  -- is none or it has no end
  pub deadlines : List (Option ℕ)
  -- per task its list value; empty where the session has none
  pub values : List ℕ
  -- the tick count, never wrapped
  pub tick : ℕ
  -- a stamp above all that were given
  pub next : ℕ

abbrev pub Table : Type 0
Table = State Stamps

abbrev pub row_at : Stamps → ℕ → TaskRow
row_at stamps task = slice_index_or stamps.rows task (record { stamp = 0; standing = Ready })

abbrev pub stamp_of : Stamps → ℕ → ℕ
stamp_of stamps task = (row_at stamps task).stamp

abbrev pub tasks_of : Stamps → List ℕ
tasks_of stamps = numbers (length stamps.rows)

-- the tick count at which the task is to be woken, none for a ready task, for one that waits
-- without end and for a suspended one
abbrev pub wake_in : TaskState → Option ℕ
wake_in Ready = None
wake_in (Blocked wake) = wake

abbrev pub stands_ready : TaskState → Bool
stands_ready Ready = true
stands_ready (Blocked wake) = false

abbrev pub is_ready : ℕ → Stamps → Bool
is_ready task stamps = stands_ready (row_at stamps task).standing

-- the task stands so from now on, after all that stood there before
abbrev pub restamped : ℕ → TaskState → Stamps → Stamps
restamped task standing stamps = record stamps {
  rows = slice_set stamps.rows task (record { stamp = stamps.next; standing = standing });
  next = suc stamps.next;
}

-- a higher priority in use goes before a lower one, and in one priority the earlier stamp before
-- the later
abbrev pub goes_before : Control → Stamps → ℕ → ℕ → Bool
goes_before control stamps i j =
    let a = (task_at control i).in_use in
    let b = (task_at control j).in_use in
    nat_lt b a || (a == b && nat_le (stamp_of stamps i) (stamp_of stamps j))

-- The task that a core selects: of all ready tasks that it may select, the one that goes before the
-- others (V11 tasks.c, prvSelectHighestPriorityTask).
unfoldable pub pick : Control → ℕ → Stamps → Option ℕ
pick control core stamps =
    best (λ task. is_ready task stamps && may_select control core task) (goes_before control stamps)
    (tasks_of stamps)

-- Making a task ready: it waits no more, and goes to the end of its ready list (V11 tasks.c,
-- prvAddTaskToReadyList).
unfoldable pub add_to_ready_list : ℕ → Stamps → Stamps
add_to_ready_list task stamps =
    restamped task Ready
    (record stamps { waiters = without_waiter task stamps.waiters })

-- so many ticks from now
abbrev pub ahead : Stamps → Option ℕ → Option ℕ
ahead stamps ticks = option_map (λ ticks. stamps.tick + ticks) ticks

abbrev pub deadline_at : Stamps → ℕ → Option ℕ
deadline_at stamps task = slice_index_or stamps.deadlines task None

-- the deadline of the task's wait for an event
abbrev pub with_deadline : ℕ → Option ℕ → Stamps → Stamps
with_deadline task deadline stamps =
    record stamps { deadlines = slice_set stamps.deadlines task deadline }

-- Waiting for so many ticks from now, or without end; in an event list, or in none (V11 tasks.c,
-- prvAddCurrentTaskToDelayedList). A wait for an event is to end when its ticks have run out, also
-- where the task waits in several turns.
unfoldable pub delay : ℕ → Option ℕ → Option EventWait → Stamps → Stamps
delay task ticks wait stamps =
    with_deadline task (if is_some wait then ahead stamps ticks else None)
    (restamped task (Blocked (ahead stamps ticks))
    (record stamps { waiters = with_wait task wait stamps.waiters }))

-- the task waits for some ticks, or in an event list
abbrev pub waits : ℕ → Stamps → Bool
waits task stamps =
    is_some (wake_in (row_at stamps task).standing)
    || is_some (list_awaited task stamps.waiters)

-- Suspending a task: it is neither ready nor does it wait (V11 tasks.c, vTaskSuspend).
unfoldable pub suspend : ℕ → Stamps → Stamps
suspend task stamps =
    restamped task (Blocked None)
    (record stamps { waiters = without_waiter task stamps.waiters })

-- the ticks that are left to the deadline, 0 where it is reached
unfoldable pub deadline_left : ℕ → Stamps → Option ℕ
deadline_left task stamps =
    option_map (λ deadline. deadline - stamps.tick) (deadline_at stamps task)

-- the task waits for no event any more
unfoldable pub forget_deadline : ℕ → Stamps → Stamps
forget_deadline task stamps = with_deadline task None stamps

-- the first waiter of an event list
unfoldable pub first_waiter : ℕ → Stamps → Option Waiter
first_waiter list stamps = first_of list stamps.waiters

abbrev pub tick_count : Stamps → ℕ
tick_count stamps = stamps.tick % 2 ^ 32

unfoldable pub advance : Stamps → Stamps
advance stamps = record stamps { tick = suc stamps.tick }

-- the task is to be woken at that tick count; one that waits without end is so at none
abbrev pub wakes_at : ℕ → TaskState → Bool
wakes_at tick standing = option_map_or (λ wake. wake == tick) (wake_in standing) false

-- the tasks whose wake is now, in the order in which they began to wait
unfoldable pub due : Stamps → List ℕ
due stamps =
    by_stamp (stamp_of stamps) (λ task. wakes_at stamps.tick (row_at stamps task).standing)
    (tasks_of stamps) stamps.next

abbrev pub list_value : ℕ → Stamps → Option ℕ
list_value task stamps = list_value_of task stamps.values

unfoldable pub set_list_value : ℕ → ℕ → Stamps → Stamps
set_list_value task value stamps = record stamps {
  waiters = revalued stamps.values task value stamps.waiters;
  values = slice_set stamps.values task value;
}

abbrev pub stamp_queues : QueueOps Stamps
stamp_queues = record {
  is_ready = is_ready;
  pick = pick;
  add_to_ready_list = λ control. add_to_ready_list;
  delay = delay;
  waits = waits;
  suspend = suspend;
  tick_count = tick_count;
  advance = advance;
  due = due;
  first_waiter = first_waiter;
  deadline_left = deadline_left;
  forget_deadline = forget_deadline;
  list_value = list_value;
  set_list_value = set_list_value;
}
