-- What can be seen of the mutexes and of the event lists: who holds each, and who waits in each.
use Rattle.std.specs.Prelude.{ℕ, ◌+◌, ◌-◌, List, [], ◌∷◌, ◌++◌, map, filter, replicate, ◌==◌, nat_lt, Option, None, unwrap_or, if◌then◌else◌, slice_set}
use Rattle.bench_types.specs.declared.kernel_data.EventWait.{EventWait}
use Rattle.bench_types.specs.declared.kernel_data.Waiter.{Waiter}
use Rattle.index_lists.specs.Listed.{Listed, ListsView}
use Rattle.bench_model.specs.Control.{Control, task_at}
use Rattle.bench_model.specs.State.{holder_at}
use Rattle.bench_model.specs.Waiters.{list_value_of, revalued, with_waiter}

pub record MutexPart : Type 0 where
  -- how many tasks, priorities and event lists there are
  pub tasks : ℕ
  pub priorities : ℕ
  pub lists : ℕ
  -- per mutex the task that holds it, if there is one
  pub holders : List (Option ℕ)
  -- the tasks that wait: those of event list 0 first, of one list the first in it first
  pub waiters : List Waiter
  -- per task its list value; empty where the session has none
  pub values : List ℕ

-- the waiter that stands in the event list: its key is how far its waiting priority lies below the
-- number of priorities
abbrev pub waiter_at : ℕ → ℕ → Listed → Waiter
waiter_at priorities list entry =
    record { task = entry.item; wait = record { list = list; priority = priorities - entry.key } }

-- the waiters of event lists, the first of which is this one, the others those after it
abbrev pub waiters_from : ℕ → ℕ → List (List Listed) → List Waiter
waiters_from priorities list [] = []
waiters_from priorities list (entries ∷ rest) =
    map (waiter_at priorities list) entries ++ waiters_from priorities (list + 1) rest

-- what can be seen of so many event lists
abbrev pub seen_mutexes :
    ℕ → ℕ → ℕ → List (Option ℕ) → List ℕ → ListsView → MutexPart
seen_mutexes tasks priorities lists holders values view =
    record {
      tasks = tasks;
      priorities = priorities;
      lists = lists;
      holders = holders;
      waiters = waiters_from priorities 0 view.lists;
      values = values;
    }

-- no task holds a mutex or waits in an event list
abbrev pub free_mutexes : ℕ → ℕ → ℕ → ℕ → List ℕ → MutexPart
free_mutexes tasks priorities mutexes lists values =
    record {
      tasks = tasks;
      priorities = priorities;
      lists = lists;
      holders = replicate mutexes None;
      waiters = [];
      values = values;
    }

-- the task that holds a mutex which is held
abbrev pub holder_of : List (Option ℕ) → ℕ → ℕ
holder_of holders mutex = unwrap_or (holder_at holders mutex) 0

-- the tasks of the waiters that wait in the event list
abbrev pub tasks_for : ℕ → List Waiter → List ℕ
tasks_for list waiters =
    map (λ waiter. waiter.task) (filter (λ waiter. waiter.wait.list == list) waiters)

-- The task's list value becomes this one, where there are list values. No waiter moves.
abbrev pub valued : ℕ → ℕ → MutexPart → MutexPart
valued task value part =
    record part {
      waiters = revalued part.values task value part.waiters;
      values = slice_set part.values task value;
    }

-- The holder takes over a greater priority than its own in use, and as its list value too.
abbrev pub inherited_part : Control → ℕ → ℕ → MutexPart → MutexPart
inherited_part control holder priority part =
    if nat_lt (task_at control holder).in_use priority then valued holder priority part else part

-- The task's list value, where its priority in use becomes this one, unless it is this one already.
abbrev pub disinherited_part : Control → ℕ → ℕ → MutexPart → MutexPart
disinherited_part control task priority part =
    if (task_at control task).in_use == priority then part else valued task priority part

-- The task waits for the mutex with its list value, or with its priority in use where there are no
-- list values; the holder inherits its priority in use.
abbrev pub waited_part : Control → ℕ → ℕ → MutexPart → MutexPart
waited_part control task mutex part =
    let in_use = (task_at control task).in_use in
    let priority = unwrap_or (list_value_of task part.values) in_use in
    let wait : EventWait = record { list = mutex; priority = priority } in
    let later = inherited_part control (holder_of part.holders mutex) in_use part in
    record later { waiters = with_waiter (record { task = task; wait = wait }) later.waiters }
