-- Clocks of tasks at places of a run.
use Rattle.std.specs.Prelude.{◌≡◌, ℕ, ◌<◌, ◌≤◌, ◌==◌, List, length, filter, slice_index_or}
use Rattle.bench_types.specs.Session.{Session}
use Rattle.bench_types.specs.Step.{settings_of}
use Rattle.list_orders.specs.Search.{numbers}
use Rattle.kept_runs.specs.declared.clocks.Clock.{Clock}
use Rattle.kept_runs.specs.Clocks.{clocks_at}
use Rattle.kept_works.specs.declared.asked.Asked.{Asked}
use Rattle.kept_works.specs.Rows.{row_at}

-- what is asked at that index; of no task where nothing is
abbrev pub asked_at : List Asked → ℕ → Asked
asked_at asked index = slice_index_or asked index (record { task = 0; place = 0 })

abbrev pub task_at : List Asked → ℕ → ℕ
task_at asked index = (asked_at asked index).task

-- of a task of the run at one of its places
pub record IsAsked (run : Session) (one : Asked) : Type 0 where
  pub task : one.task < (settings_of run.header).tasks
  pub place : one.place ≤ length run.steps

-- each place has what is asked there, by its index
pub record AreSorted (places : ℕ) (asked : List Asked) (rows : List (List ℕ)) : Type 0 where
  pub many : length rows ≡ places
  pub each :
      (place : ℕ) → place < places
      → row_at rows place
      ≡ filter (λ index. (asked_at asked index).place == place) (numbers (length asked))

abbrev pub clock_of : Session → Asked → Clock
clock_of run one = clocks_at run.header run.steps one.place one.task
