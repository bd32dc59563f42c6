-- Calls that begin.
use Rattle.std.specs.Prelude.{◌≡◌, ℕ, ◌<◌, Option, Some, None, if◌then◌else◌}
use Rattle.bench_types.specs.declared.step.Step.{Step}
use Rattle.bench_types.specs.declared.step.Step.TheVariants as steps
use Rattle.settled_runs.specs.Settled.{is_finish}

-- the task of a call that is no `finish`
abbrev pub begun_task : Step → Option ℕ
begun_task (steps.Call core task call) = if is_finish call then None else Some task
begun_task step = None

-- such a call is one of so many tasks
abbrev pub BeginsBelow : ℕ → Step → Type 0
BeginsBelow tasks step = (task : ℕ) → begun_task step ≡ Some task → task < tasks
