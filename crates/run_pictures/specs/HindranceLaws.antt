-- What a ready task is told to be hindered by is so, and all that is.
use Rattle.std.specs.Prelude.{◌≡◌, ◌≢◌, ◌<◌, ◌≤◌, ℕ, ◌+◌, List, length, map, All, Bool, Contains, true, false, Some, None}
use Rattle.std.specs.List.{list_any}
use Rattle.bench_types.specs.declared.header.Header.{Header}
use Rattle.bench_types.specs.declared.kernel_data.Hold.{Hold}
use Rattle.bench_types.specs.declared.step.Step.{Step}
use Rattle.bench_types.specs.Header.{IsCheckedHeader}
use Rattle.bench_types.specs.Step.{settings_of, IsCheckedStep}
use Rattle.list_orders.specs.Search.{numbers}
use Rattle.bench_model.specs.Control.{current, is_allowed, is_due, task_at}
use Rattle.bench_model.specs.Seek.{effective, is_preemptible_by}
use Rattle.bench_model.specs.Session.{state_at}
use Rattle.bench_model.specs.Table.{Table, is_ready}
use Rattle.bench_model.specs.Tally.{outranks_some}
use Rattle.run_pictures.specs.declared.hindrance.Hindrance.{Hindrance}
use Rattle.run_pictures.specs.declared.hindrance.Obstacle.{Obstacle}
use Rattle.run_pictures.specs.declared.hindrance.Obstacle.TheVariants.{Masked, Held, Due, Unpreempted, Outranked, Lower}
use Rattle.run_pictures.specs.declared.stance.Stance.TheVariants.{Ready}
use Rattle.run_pictures.specs.Hindrances.{hindrances_of}
use Rattle.run_pictures.specs.Stances.{stance_of}

abbrev pub in_use : Table → ℕ → ℕ
in_use table task = (task_at table.control task).in_use

-- the core holds the kernel
pub record Holds (table : Table) (core : ℕ) : Type 0 where
  pub hold : Hold
  pub held : table.hold ≡ Some hold
  pub by_core : hold.core ≡ core

-- the mask of the task has the core, no core holds the kernel, and the core is not due
pub record IsFree (table : Table) (task core : ℕ) : Type 0 where
  pub allowed : is_allowed table.control core task ≡ true
  pub unheld : table.hold ≡ None
  pub settled : is_due table.control core ≡ false

-- the task stands below the other one, as the kernel compares them
abbrev pub StandsBelow : Table → ℕ → ℕ → Type 0
StandsBelow table task other = effective table.control task < effective table.control other

-- in place of the task the core runs a ready one, which has the priority in use
pub record RunsInstead (table : Table) (task core other priority : ℕ) : Type 0 where
  pub free : IsFree table task core
  pub current : current table.control core ≡ other
  pub another : other ≢ task
  pub ready : is_ready other table.orders ≡ true
  pub level : in_use table other ≡ priority

-- The core is kept from the task by that obstacle. A core that was not asked gives way to the task
-- by the kernel's own rule.
abbrev pub IsHindered : Table → ℕ → ℕ → Obstacle → Type 0
IsHindered table task core Masked = is_allowed table.control core task ≡ false
IsHindered table task core (Held holder) =
    (is_allowed table.control core task ≡ true) × Holds table holder
IsHindered table task core Due =
    (is_allowed table.control core task ≡ true) × (table.hold ≡ None)
    × (is_due table.control core ≡ true)
IsHindered table task core (Unpreempted other priority) =
    RunsInstead table task core other priority × StandsBelow table other task
    × ((task_at table.control other).preempt ≡ false)
IsHindered table task core (Outranked other priority) =
    RunsInstead table task core other priority
    × (effective table.control task ≤ effective table.control other)
IsHindered table task core (Lower other priority) =
    RunsInstead table task core other priority
    × (is_preemptible_by table.control task core ≡ true)

-- a task that runs is the obstacle
abbrev pub IsTask : Obstacle → Type 0
IsTask (Unpreempted other priority) = Unit {0}
IsTask (Outranked other priority) = Unit {0}
IsTask (Lower other priority) = Unit {0}
IsTask obstacle = ⊥

-- a task that stands lower is the obstacle
abbrev pub is_lower : Obstacle → Bool
is_lower (Unpreempted other priority) = true
is_lower (Lower other priority) = true
is_lower obstacle = false

-- no core holds the kernel, and none is due
pub record IsSettled (table : Table) : Type 0 where
  pub unheld : table.hold ≡ None
  pub settled : (core : ℕ) → core < table.settings.cores → is_due table.control core ≡ false

-- the hindrances of a ready task that is on no core
pub record AreHindrances (table : Table) (task : ℕ) (hindrances : List Hindrance) : Type 0 where
  -- there is one for each core, in their order
  pub each : map (λ hindrance. hindrance.core) hindrances ≡ numbers table.settings.cores
  -- so there are always some
  pub some : 2 ≤ length hindrances
  -- each of them is so
  pub so : All (λ hindrance. IsHindered table task hindrance.core hindrance.by) hindrances
  -- and nothing else is
  pub alone : (hindrance : Hindrance) → hindrance.core < table.settings.cores
      → IsHindered table task hindrance.core hindrance.by → Contains hindrances hindrance
  -- once no core is due, tasks run on all cores that its mask has
  pub tasks : IsSettled table → All (λ hindrance.
      is_allowed table.control hindrance.core task ≡ true → IsTask hindrance.by) hindrances
  -- and a lower task is among them just where a tick counts an inverted wait
  pub inverted : IsSettled table
      → list_any (λ hindrance. is_lower hindrance.by) hindrances ≡ outranks_some table.control task

-- at each place of a session
abbrev pub HindrancesAreSo : Type 0
HindrancesAreSo =
    (header : Header) (steps : List Step) (place task : ℕ)
    → IsCheckedHeader header → All (IsCheckedStep (settings_of header)) steps
    → task < header.config.cores + length header.tasks
    → stance_of (state_at header steps place) task ≡ Ready
    → AreHindrances (state_at header steps place) task
    (hindrances_of (state_at header steps place) task)
