-- The task whose priority in use a step may change.
use Rattle.std.specs.Prelude.{◌≡◌, ◌≢◌, ℕ, List, Option, Some, None}
use Rattle.bench_types.specs.declared.step.Call.{Call as KernelCall}
use Rattle.bench_types.specs.declared.step.Call.TheVariants.{PrioritySet, MutexTake, MutexGive, Finish}
use Rattle.bench_types.specs.declared.step.Step.{Step}
use Rattle.bench_types.specs.declared.step.Step.TheVariants.{Call}
use Rattle.bench_types.specs.declared.step.Unfinished.{Unfinished}
use Rattle.bench_types.specs.declared.step.Unfinished.TheVariants.{Take}
use Rattle.bench_model.specs.Control.{Control, task_at}
use Rattle.bench_model.specs.State.{State, call_at, holder_at}

-- a wait for a mutex that ends or goes on touches the holder's
abbrev pub raised_by_end : List (Option ℕ) → Option Unfinished → Option ℕ
raised_by_end holders (Some (Take mutex mark)) = holder_at holders mutex
raised_by_end holders call = None

-- a task that is given a priority, one that holds the mutex that a task waits for, and one that
-- gives its mutex
abbrev pub raised_by_call : {Orders : Type 0} → State Orders → ℕ → KernelCall → Option ℕ
raised_by_call state task (PrioritySet other priority) = Some other
raised_by_call state task (MutexTake mutex ticks) = holder_at state.holders mutex
raised_by_call state task (MutexGive mutex) = Some task
raised_by_call state task Finish = raised_by_end state.holders (call_at state.calls task)
raised_by_call state task call = None

abbrev pub raised_by : {Orders : Type 0} → State Orders → Step → Option ℕ
raised_by state (Call core task call) = raised_by_call state task call
raised_by state step = None

-- every other task keeps its priority in use
abbrev pub KeepsOthers : Option ℕ → Control → Control → Type 0
KeepsOthers raised before after =
    (task : ℕ) → raised ≢ Some task
    → (task_at after task).in_use ≡ (task_at before task).in_use
