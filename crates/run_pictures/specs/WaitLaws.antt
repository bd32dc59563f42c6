-- A blocked task is told to wait for what its unfinished call waits for.
use Rattle.std.specs.Prelude.{◌≡◌, ◌<◌, ℕ, suc, ◌+◌, List, All, length, false, Option, Some}
use Rattle.bench_types.specs.declared.header.Header.{Header}
use Rattle.bench_types.specs.declared.step.Step.{Step}
use Rattle.bench_types.specs.declared.step.Unfinished.{Unfinished}
use Rattle.bench_types.specs.Cause.{cause_of}
use Rattle.bench_types.specs.Header.{IsCheckedHeader}
use Rattle.bench_types.specs.Step.{settings_of, IsCheckedStep}
use Rattle.bench_model.specs.Session.{state_at}
use Rattle.bench_model.specs.State.{call_at}
use Rattle.bench_model.specs.Table.{Table, stamp_queues, is_ready}
use Rattle.bench_model.specs.Suspending.{is_suspended}
use Rattle.run_views.specs.Looks.{look_of}
use Rattle.run_pictures.specs.declared.stance.Stance.{Stance}
use Rattle.run_pictures.specs.declared.stance.Stance.TheVariants.{Blocked}
use Rattle.run_pictures.specs.Stances.{stance_in}

-- the task has an unfinished call in the state, and is told to wait for what this call waits for
pub record WaitsInCall (table : Table) (task : ℕ) (told : Stance) : Type 0 where
  pub call : Unfinished
  pub made : call_at table.calls task ≡ Some call
  pub wake : Option ℕ
  pub told_so : told ≡ Blocked wake (Some (cause_of call))

-- each task that is in no ready list and not suspended at a place of the replay of a checked
-- session
abbrev pub WaitsAreUnfinished : Type 0
WaitsAreUnfinished =
    (header : Header) (steps : List Step) (place task : ℕ)
    → IsCheckedHeader header → All (IsCheckedStep (settings_of header)) steps
    → task < header.config.cores + length header.tasks
    → let table = state_at header steps place in
    is_ready task table.orders ≡ false → is_suspended stamp_queues task table ≡ false
    → WaitsInCall table task (stance_in task (look_of table))

-- and has the same unfinished call at the next place
abbrev pub BlockedCallsStay : Type 0
BlockedCallsStay =
    (header : Header) (steps : List Step) (place task : ℕ)
    → IsCheckedHeader header → All (IsCheckedStep (settings_of header)) steps
    → is_ready task (state_at header steps place).orders ≡ false
    → call_at (state_at header steps (suc place)).calls task
    ≡ call_at (state_at header steps place).calls task
