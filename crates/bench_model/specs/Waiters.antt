-- The tasks that wait for mutexes and at queues, in one list, and the event lists that it shows.
use Rattle.std.specs.Prelude.{ℕ, ◌+◌, ◌*◌, List, length, map, filter, find, Bool, false, not, ◌&&◌, ◌||◌, ◌==◌, nat_lt, nat_le, Option, Some, None, option_map, if◌then◌else◌, slice_index_or}
use Rattle.std.specs.Option.{option_map_or}
use Rattle.bench_types.specs.declared.kernel_data.EventWait.{EventWait}
use Rattle.bench_types.specs.declared.kernel_data.Settings.{Settings}
use Rattle.bench_types.specs.declared.kernel_data.Waiter.{Waiter}
use Rattle.bench_types.specs.declared.step.Direction.{Direction}
use Rattle.bench_types.specs.declared.step.Direction.TheVariants.{Send, Receive}
use Rattle.bench_types.specs.Step.{queue_total}
use Rattle.list_orders.specs.Search.{inserted}

-- The event list of the tasks that wait until a message can go that way. List m is that of mutex m;
-- behind those of all mutexes each queue has two (V11 queue.c, xTasksWaitingToSend and
-- xTasksWaitingToReceive).
abbrev pub event_list : Settings → Direction → ℕ → ℕ
event_list settings Send queue = settings.mutexes + 2 * queue
event_list settings Receive queue = settings.mutexes + 2 * queue + 1

-- how many event lists there are
abbrev pub event_lists : Settings → ℕ
event_lists settings = settings.mutexes + 2 * queue_total settings

-- a waiter stays in front of another of a greater event list, or of its own list and no greater
-- waiting priority
abbrev pub waits_first : Waiter → Waiter → Bool
waits_first a b =
    nat_lt a.wait.list b.wait.list
    || (a.wait.list == b.wait.list && nat_le b.wait.priority a.wait.priority)

-- A task that begins to wait stands before the first waiter of its list with a lesser waiting
-- priority than its own (V11 list.c, vListInsert).
abbrev pub with_waiter : Waiter → List Waiter → List Waiter
with_waiter waiter waiters = inserted waits_first waiter waiters

-- The waiters, where the task begins to wait in an event list or in none.
abbrev pub with_wait : ℕ → Option EventWait → List Waiter → List Waiter
with_wait task wait waiters =
    option_map_or (λ wait. with_waiter (record { task = task; wait = wait }) waiters) wait waiters

abbrev pub without_waiter : ℕ → List Waiter → List Waiter
without_waiter task waiters = filter (λ waiter. not (waiter.task == task)) waiters

-- The first of the waiters of the event list (V11 tasks.c, xTaskRemoveFromEventList).
abbrev pub first_of : ℕ → List Waiter → Option Waiter
first_of list waiters = find (λ waiter. waiter.wait.list == list) waiters

-- The list value of a task: the priority that its event list item has, with which it begins to wait
-- (V11 tasks.c, xEventListItem). A session without list values has none.
abbrev pub list_value_of : ℕ → List ℕ → Option ℕ
list_value_of task values = slice_index_or (map Some values) task None

-- a waiter, where the task waits with this priority from now on
abbrev pub with_value : ℕ → ℕ → Waiter → Waiter
with_value task value waiter =
    if waiter.task == task then record waiter { wait = record waiter.wait { priority = value } }
    else waiter

-- The waiters, where a task that has a list value gets this one: no waiter moves (V11 list.h,
-- listSET_LIST_ITEM_VALUE).
abbrev pub revalued : List ℕ → ℕ → ℕ → List Waiter → List Waiter
revalued values task value waiters =
    if nat_lt task (length values) then map (with_value task value) waiters else waiters

-- the task among the waiters, where it is one
abbrev pub waiter_of : ℕ → List Waiter → Option Waiter
waiter_of task waiters = find (λ waiter. waiter.task == task) waiters

-- what the task waits for
abbrev pub wait_of : ℕ → List Waiter → Option EventWait
wait_of task waiters = option_map (λ (waiter : Waiter). waiter.wait) (waiter_of task waiters)

-- of the two tasks the first stands in front of the other
abbrev pub stands_before : ℕ → ℕ → List Waiter → Bool
stands_before i j waiters =
    option_map_or (λ (waiter : Waiter). waiter.task == i)
    (find (λ waiter. waiter.task == i || waiter.task == j) waiters) false

-- the event list that the task waits in
abbrev pub list_awaited : ℕ → List Waiter → Option ℕ
list_awaited task waiters =
    option_map (λ (waiter : Waiter). waiter.wait.list) (waiter_of task waiters)
