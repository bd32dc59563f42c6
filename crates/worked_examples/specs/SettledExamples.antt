-- Worked pieces of quiet work: which of those that can be made is next.
use Rattle.std.specs.Prelude.{◌≡◌, ℕ, List, [], ◌∷◌, codes, Option, Some, None}
use Rattle.bench_types.specs.declared.header.Header.{Header}
use Rattle.bench_types.specs.declared.step.Step.{Step}
use Rattle.bench_types.specs.declared.step.Step.TheVariants.{Tick, Switch, Call}
use Rattle.bench_types.specs.declared.step.Call.TheVariants.{Yield, Delay, Finish}
use Rattle.bench_model.specs.Session.{state_after}
use Rattle.bench_model.specs.Start.{start}
use Rattle.settled_runs.specs.declared.waiting_call.WaitingCall.{WaitingCall}
use Rattle.settled_runs.specs.Settled.{quiet_step, waiting_with}
use Rattle.worked_examples.specs.Examples.{task, session_of, three_tasks}

-- the tasks 2 and 3
abbrev pub two_tasks : Header
two_tasks = session_of (task (codes "A") 2 ∷ task (codes "B") 1 ∷ [])

-- a yield of the task, which waits
abbrev pub yield_of : ℕ → WaitingCall
yield_of task = record { task = task; call = Yield }

-- the next piece after the steps
abbrev pub next_after : Header → List Step → List WaitingCall → Option Step
next_after header steps waiting = quiet_step (state_after (start header) steps) waiting

-- task 2 is back on core 0 from a delay, with its call unfinished
abbrev pub back : List Step → List Step
back later = Call 0 2 (Delay 1) ∷ Tick ∷ Switch 0 ∷ later

-- Task 2 (priority 2) runs on core 0 and task 3 (priority 1) on core 1; a task 4 (priority 1) is
-- ready.
pub record WorkedQuietWork : Type 0 where
  pub least_core_switches :
      next_after three_tasks (Call 1 3 Yield ∷ Call 0 2 Yield ∷ []) [] ≡ Some (Switch 0)
  pub switch_before_finish :
      next_after three_tasks (back (Call 1 3 Yield ∷ [])) [] ≡ Some (Switch 1)
  pub least_core_finishes :
      next_after two_tasks
      (Call 1 3 (Delay 1) ∷ Call 0 2 (Delay 1) ∷ Tick ∷ Switch 1 ∷ Switch 0 ∷ []) []
      ≡ Some (Call 0 2 Finish)
  pub other_core_finishes :
      next_after two_tasks (Call 1 3 (Delay 1) ∷ Tick ∷ Switch 1 ∷ []) [] ≡ Some (Call 1 3 Finish)
  pub finish_before_call :
      next_after three_tasks (back []) (yield_of 3 ∷ []) ≡ Some (Call 0 2 Finish)
  pub first_call_that_can_be_made :
      next_after three_tasks [] (yield_of 4 ∷ yield_of 3 ∷ yield_of 2 ∷ [])
      ≡ Some (Call 1 3 Yield)
  pub no_call_that_can_be_made : next_after three_tasks [] (yield_of 4 ∷ []) ≡ None
  pub last_call_waits_last :
      waiting_with (yield_of 3 ∷ []) (Call 0 2 Yield) ≡ yield_of 3 ∷ yield_of 2 ∷ []
