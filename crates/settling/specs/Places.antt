-- The calls that wait, as places among the steps of a session: each task's are those from its next
-- one on that have come.
use Rattle.std.specs.Prelude.{◌≡◌, ℕ, zero, suc, ◌<◌, ◌≤◌, List, [], ◌∷◌, ◌++◌, length, Bool, true, false, not, ◌&&◌, ◌==◌, nat_le, Option, Some, None}
use Rattle.std.specs.Prelude.{if◌then◌else◌, slice_index, slice_index_or}
use Rattle.bench_types.specs.declared.step.Step.{Step}
use Rattle.bench_types.specs.declared.step.Step.TheVariants.{Tick}
use Rattle.bench_types.specs.declared.step.Step.TheVariants as steps
use Rattle.bench_types.specs.declared.step.Call.TheVariants.{Finish}
use Rattle.bench_model.specs.Control.{current}
use Rattle.bench_model.specs.Table.{Table}
use Rattle.settled_runs.specs.declared.waiting_call.WaitingCall.{WaitingCall}
use Rattle.settled_runs.specs.Settled.{is_finish, is_timely, on_its_core}

abbrev pub step_at : List Step → ℕ → Step
step_at session place = slice_index_or session place Tick

-- the call of a step
abbrev pub call_in : Step → WaitingCall
call_in (steps.Call core task call) = record { task = task; call = call }
call_in step = record { task = 0; call = Finish }

-- the step is a call that begins, so no `finish`
abbrev pub begins : Step → Bool
begins (steps.Call core task call) = not (is_finish call)
begins step = false

-- it is one of the task
abbrev pub is_call_of : ℕ → Step → Bool
is_call_of task step = begins step && (call_in step).task == task

-- the caller of each call that begins is one of so many tasks
abbrev pub HasCallers : List Step → ℕ → Type 0
HasCallers session tasks =
    (place : ℕ) → place < length session → begins (step_at session place) ≡ true
    → (call_in (step_at session place)).task < tasks

-- the call of a step as one that the core makes
abbrev pub on_core : ℕ → Step → Step
on_core core step = steps.Call core (call_in step).task (call_in step).call

-- the place is that of the task's first call from a place on, the number of steps where it has none
pub record IsNext (session : List Step) (task from place : ℕ) : Type 0 where
  pub low : from ≤ place
  pub high : place ≤ length session
  pub call : place < length session → is_call_of task (step_at session place) ≡ true
  pub between :
      (other : ℕ) → from ≤ other → other < place
      → is_call_of task (step_at session other) ≡ false

-- the call at the place waits, where these are the places of the tasks' next calls
abbrev pub is_waiting_call : List ℕ → List Step → ℕ → Bool
is_waiting_call heads session place =
    let step = step_at session place in
    begins step && nat_le (slice_index heads (call_in step).task) place

-- the calls that wait of those that have come
unfoldable pub waiting_at : List ℕ → List Step → ℕ → List WaitingCall
waiting_at heads session zero = []
waiting_at heads session (suc place) =
    waiting_at heads session place
    ++ (if is_waiting_call heads session place then call_in (step_at session place) ∷ [] else [])

-- so many steps have come, each task has the place of its next call, and each call that of its
-- task's next one
pub record AreQueues (session : List Step) (come tasks : ℕ) (heads next : List ℕ) : Type 0 where
  pub reached : come ≤ length session
  pub head_each : length heads ≡ tasks
  pub next_each : length next ≡ length session
  pub few : (task : ℕ) → task < tasks → slice_index heads task ≤ length session
  pub calls :
      (task : ℕ) → task < tasks → slice_index heads task < length session
      → is_call_of task (step_at session (slice_index heads task)) ≡ true
  -- no call that has not come is past its task's next one
  pub later :
      (task place : ℕ) → task < tasks → come ≤ place → place < length session
      → is_call_of task (step_at session place) ≡ true → slice_index heads task ≤ place
  pub after :
      (task place : ℕ) → place < length session → is_call_of task (step_at session place) ≡ true
      → IsNext session task (suc place) (slice_index next place)

-- from the place on each call has the place of its task's next one, and each task that of its first
pub record AreLinked (session : List Step) (from tasks : ℕ) (heads next : List ℕ) : Type 0 where
  pub reached : from ≤ length session
  pub head_each : length heads ≡ tasks
  pub next_each : length next ≡ length session
  pub first :
      (task : ℕ) → task < tasks → IsNext session task from (slice_index heads task)
  pub after :
      (task place : ℕ) → from ≤ place → place < length session
      → is_call_of task (step_at session place) ≡ true
      → IsNext session task (suc place) (slice_index next place)

-- the call at the place, made on the core that runs its task
abbrev pub made_from : Table → List Step → ℕ → Step
made_from table session place = on_its_core table (call_in (step_at session place))

-- it waits, and its task has come to it
abbrev pub can_come : Table → List ℕ → List Step → ℕ → Bool
can_come table heads session place =
    is_waiting_call heads session place && is_timely table (made_from table session place)

-- the search for the first call that may be made went over so many cores: it found the call at
-- this place, none where that is where the steps have come to
pub record IsSearched (table : Table) (heads : List ℕ) (session : List Step) (come cores first : ℕ)
    (found : Option Step) : Type 0 where
  pub within : first ≤ come
  pub none : first ≡ come → found ≡ None
  pub some :
      first < come →
      (can_come table heads session first ≡ true) × (found ≡ Some (made_from table session first))
  -- no next call of a task on one of these cores is before it
  pub others :
      (core : ℕ) → core < cores → let place = slice_index heads (current table.control core) in
      place < first → is_timely table (on_core core (step_at session place)) ≡ false
