-- The calls that are not made, as indices into the list: of each task those from its first one on.
use Rattle.std.specs.Prelude.{◌≡◌, ℕ, suc, ◌<◌, ◌≤◌, ◌==◌, nat_le, Bool, true, false, List, length, map, filter, None, slice_index, slice_index_or}
use Rattle.list_orders.specs.Search.{numbers}
use Rattle.kept_runs.specs.declared.works.Unmade.{Unmade}
use Rattle.kept_runs.specs.Clocks.{zero_clock}

abbrev pub call_at : List Unmade → ℕ → Unmade
call_at calls index =
    slice_index_or calls index (record { task = 0; call = None; work = zero_clock })

-- the call at the index is one of the task
abbrev pub is_of : List Unmade → ℕ → ℕ → Bool
is_of calls task index = (call_at calls index).task == task

-- the caller is one of so many tasks
abbrev pub HasCaller : ℕ → Unmade → Type 0
HasCaller tasks one = one.task < tasks

-- the call at the index is not made, where these are the indices of each task's first one
abbrev pub is_unmade : List ℕ → List Unmade → ℕ → Bool
is_unmade heads calls index = nat_le (slice_index heads (call_at calls index).task) index

-- the calls that are not made
unfoldable pub unmade_in : List ℕ → List Unmade → List Unmade
unmade_in heads calls =
    map (call_at calls) (filter (is_unmade heads calls) (numbers (length calls)))

-- the index is that of the task's first call from one on, the number of calls where it has none
pub record IsNext (calls : List Unmade) (task from index : ℕ) : Type 0 where
  pub low : from ≤ index
  pub high : index ≤ length calls
  pub own : index < length calls → is_of calls task index ≡ true
  pub between : (other : ℕ) → from ≤ other → other < index → is_of calls task other ≡ false

-- each task has the index of a call of its own or the number of calls, and each call that of its
-- task's next one
pub record AreInRows (calls : List Unmade) (tasks : ℕ) (heads next : List ℕ) : Type 0 where
  pub head_each : length heads ≡ tasks
  pub next_each : length next ≡ length calls
  pub few : (task : ℕ) → task < tasks → slice_index heads task ≤ length calls
  pub own :
      (task : ℕ) → task < tasks → slice_index heads task < length calls
      → is_of calls task (slice_index heads task) ≡ true
  pub after :
      (task index : ℕ) → index < length calls → is_of calls task index ≡ true
      → IsNext calls task (suc index) (slice_index next index)

-- they are in rows, and none of them is made
pub record AreQueues (calls : List Unmade) (tasks : ℕ) (heads next : List ℕ) : Type 0 where
  pub rows : AreInRows calls tasks heads next
  pub all : unmade_in heads calls ≡ calls

-- from the index on each call has the index of its task's next one, and each task that of its first
pub record AreLinked (calls : List Unmade) (from tasks : ℕ) (heads next : List ℕ) : Type 0 where
  pub reached : from ≤ length calls
  pub head_each : length heads ≡ tasks
  pub next_each : length next ≡ length calls
  pub first : (task : ℕ) → task < tasks → IsNext calls task from (slice_index heads task)
  pub after :
      (task index : ℕ) → from ≤ index → index < length calls → is_of calls task index ≡ true
      → IsNext calls task (suc index) (slice_index next index)
