-- What is known of the greatest priorities in use so far, before a step and after it.
use Rattle.std.specs.Prelude.{ℕ, ◌≤◌, ◌<◌, ◌≢◌, List, length, Option, Some}
use Rattle.bench_model.specs.Control.{Control, task_at}
use Rattle.bench_model.specs.Tally.{TaskTally}
use Rattle.bench_model.specs.Tallied.{tally_at}

-- the greatest so far of a task is at least the one that it has in use
abbrev pub IsTop : Control → List TaskTally → ℕ → Type 0
IsTop control tallies task =
    (task_at control task).in_use ≤ (tally_at tallies task).counts.top

-- that of each task is
abbrev pub HasTops : Control → List TaskTally → Type 0
HasTops control tallies = (task : ℕ) → task < length tallies → IsTop control tallies task

-- that of each task but one is
abbrev pub HasOtherTops : Option ℕ → Control → List TaskTally → Type 0
HasOtherTops raised control tallies =
    (task : ℕ) → task < length tallies → raised ≢ Some task → IsTop control tallies task
