-- What the fields of cores and ready lists keep, whatever they show.
use Rattle.std.specs.Prelude.{◌≡◌, ℕ, ◌+◌, ◌<◌, ◌≤◌, List, [], length, All, Bool, not, true, false, nat_lt, ◌==◌, ◌&&◌, slice_index, slice_index_or}
use Rattle.std.specs.List.{AllByRecursion}
use Rattle.list_orders.specs.Listings.{IsListing}
use Rattle.list_orders.specs.Search.{has}
use Rattle.index_lists.specs.Listed.{ListsView}
use Rattle.bench_types.specs.declared.kernel_data.CoreLook.{CoreLook}
use Rattle.bench_types.specs.declared.kernel_data.TaskControl.{TaskControl}
use Rattle.bench_types.specs.Limits.{max_cores, max_priorities, max_tasks}
use Rattle.bench_model.specs.Control.{is_due}
use Rattle.ready_core.specs.Fields.{control_from, tasks_of, ready_below, has_priority, has_seat, is_set}

-- Each core runs a task, and the priorities are below their number. There is a list for each
-- priority, a task stands in that of its priority in use or in none, and once; bits say which lists
-- are not empty, and which cores have a task.
pub record IsShape (priorities : ℕ) (cores : List CoreLook) (tasks : List TaskControl)
    (view : ListsView) (listed : ℕ) (seats : List ℕ) : Type 0 where
  pub few_cores : length cores ≤ max_cores
  pub few_tasks : length tasks ≤ max_cores + max_tasks
  pub few_priorities : priorities ≤ max_priorities
  pub running : All (λ core. core.current < length tasks) cores
  pub in_use : All (λ task. task.in_use < priorities) tasks
  pub base : All (λ task. task.base < priorities) tasks
  pub items : view.items ≡ length tasks
  pub each : length view.lists ≡ priorities
  pub at_home : (p : ℕ) → p < priorities
      → AllByRecursion (λ task. has_priority (control_from cores tasks) p task ≡ true)
      (tasks_of view.lists p)
  pub listings : (p : ℕ) → p < priorities → IsListing (length tasks) (tasks_of view.lists p)
  pub bits : (p : ℕ) → p < max_priorities
      → is_set listed p ≡ nat_lt 0 (length (tasks_of view.lists p))
  pub seated : length seats ≡ length tasks
  pub at_core : (t : ℕ) → t < length tasks → (core : ℕ)
      → is_set (slice_index seats t) core ≡ has_seat (control_from cores tasks) t core

-- Flags of tasks say which are ready and have no core.
pub record IsFlagged (priorities : ℕ) (view : ListsView) (seats : List ℕ)
    (waiting : List Bool) : Type 0 where
  pub sized : length waiting ≡ length seats
  pub at_task : (t : ℕ) → t < length seats
      → slice_index_or waiting t false
      ≡ (has t (ready_below view.lists priorities) && slice_index seats t == 0)

-- Bits of cores say which are not due.
pub record IsMarked (cores : List CoreLook) (undue : ℕ) : Type 0 where
  pub at_bit : (core : ℕ)
      → is_set undue core
      ≡ (nat_lt core (length cores) && not (is_due (control_from cores []) core))

-- All of it.
pub record IsKept (priorities : ℕ) (cores : List CoreLook) (tasks : List TaskControl)
    (view : ListsView) (listed : ℕ) (seats : List ℕ) (waiting : List Bool)
    (undue : ℕ) : Type 0 where
  pub shape : IsShape priorities cores tasks view listed seats
  pub flags : IsFlagged priorities view seats waiting
  pub marks : IsMarked cores undue
