-- Tallies that are kept in two lists: the ticks of all tasks, where those of a task stand core by
-- core after those of the task before it, and the other counts.
use Rattle.std.specs.Prelude.{◌≡◌, ℕ, ◌+◌, ◌*◌, ◌^◌, ◌<◌, List, length, map, slice_index_or}
use Rattle.bench_types.specs.declared.tally.Tally.{Tally}
use Rattle.list_orders.specs.Search.{numbers}
use Rattle.bench_model.specs.Tally.{TaskTally}
use Rattle.bench_model.specs.Tallied.{no_counts}

-- the ticks that the task ran on each core
unfoldable pub runs_of : ℕ → List ℕ → ℕ → List ℕ
runs_of cores runs task =
    map (λ core. slice_index_or runs (task * cores + core) 0) (numbers cores)

-- its other counts
abbrev pub counts_of : List Tally → ℕ → Tally
counts_of counts task = slice_index_or counts task (no_counts 0)

abbrev pub tally_in : ℕ → List ℕ → List Tally → ℕ → TaskTally
tally_in cores runs counts task =
    record { run = runs_of cores runs task; counts = counts_of counts task }

-- the tallies of all tasks
unfoldable pub tallies_in : ℕ → List ℕ → List Tally → List TaskTally
tallies_in cores runs counts = map (tally_in cores runs counts) (numbers (length counts))

-- there is a number for each task and core
pub record IsTable (cores : ℕ) (runs : List ℕ) (counts : List Tally) : Type 0 where
  pub size : length runs ≡ length counts * cores
  pub few : length counts < 2 ^ 32
