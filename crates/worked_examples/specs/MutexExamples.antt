-- Worked mutexes: who inherits, who is lowered again, and what a wait ends with.
use Rattle.std.specs.Prelude.{◌≡◌, ℕ, ◌-◌, ◌^◌, List, [], ◌∷◌, ◌++◌, true, false, Option, Some, None, codes, take}
use Rattle.bench_types.specs.declared.header.Header.{Header}
use Rattle.bench_types.specs.declared.header.QueueArgs.{QueueArgs}
use Rattle.bench_types.specs.declared.kernel_data.Waiter.{Waiter}
use Rattle.bench_types.specs.declared.reply.Reply.TheVariants.{Done, Blocked, Flag, Refused}
use Rattle.bench_types.specs.declared.reply.Refusal.TheVariants.{NotHolder}
use Rattle.bench_types.specs.declared.step.Step.{Step}
use Rattle.bench_types.specs.declared.step.Step.TheVariants.{Tick, Switch, Call}
use Rattle.bench_types.specs.declared.step.Call.TheVariants.{Finish, MutexTake, MutexGive}
use Rattle.bench_model.specs.Control.{task_at}
use Rattle.worked_examples.specs.Examples.{task, session_of}
use Rattle.bench_model.specs.Lists.{view_of}
use Rattle.bench_model.specs.Looks.{ticks_left}
use Rattle.bench_model.specs.Mutexes.{held_by}
use Rattle.worked_examples.specs.NoteExamples.{replies}
use Rattle.bench_model.specs.Session.{state_after}
use Rattle.worked_examples.specs.SetExamples.{flags_after}
use Rattle.bench_model.specs.Start.{start}
use Rattle.bench_model.specs.Table.{delay, set_list_value}

abbrev pub with_two_mutexes : Header → Header
with_two_mutexes header = record header { config = record header.config { mutexes = 2 } }

-- task 2 has priority 1 and runs on core 1, and task 3 has priority 3 and runs on core 0
abbrev pub low_and_high : Header
low_and_high = with_two_mutexes (session_of (task (codes "L") 1 ∷ task (codes "H") 3 ∷ []))

-- the priority in use of task 2
abbrev pub low_in_use : List Step → ℕ
low_in_use steps = (task_at (state_after (start low_and_high) steps).control 2).in_use

-- task 2 holds mutex 0, for which task 3 waits for 5 ticks
abbrev pub contended : List Step
contended = Call 1 2 (MutexTake 0 0) ∷ Call 0 3 (MutexTake 0 5) ∷ []

-- it is given, and taken again before task 3 finishes its wait
abbrev pub stolen : List Step
stolen =
    contended ++ Tick ∷ Call 1 2 (MutexGive 0) ∷ Switch 1 ∷ Call 1 2 (MutexTake 0 0) ∷ Switch 0
    ∷ Call 0 3 Finish ∷ []

-- task 2 holds both mutexes, and task 3 waits for mutex 0
abbrev pub both_held : List Step
both_held = Call 1 2 (MutexTake 0 0) ∷ Call 1 2 (MutexTake 1 0) ∷ Call 0 3 (MutexTake 0 5) ∷ []

-- task 3 waits for one tick, and ends its wait without the mutex
abbrev pub given_up : List Step
given_up =
    Call 1 2 (MutexTake 0 0) ∷ Call 0 3 (MutexTake 0 1) ∷ Tick ∷ Switch 0 ∷ Call 0 3 Finish ∷ []

abbrev pub waiters_after : List Step → List Waiter
waiters_after steps = (view_of (state_after (start low_and_high) steps)).orders.waiters

-- Task 2 waits for mutex 0 with priority 1, its list value becomes 3, and then task 3 begins to
-- wait with priority 2.
abbrev pub waiters_raised : Option (List QueueArgs) → List Waiter
waiters_raised queues =
    let orders = (start (record low_and_high { queues = queues })).orders in
    let raised =
    set_list_value 2 3 (delay 2 None (Some (record { list = 0; priority = 1 })) orders) in
    (delay 3 None (Some (record { list = 0; priority = 2 })) raised).waiters

abbrev pub waiter : ℕ → ℕ → Waiter
waiter task priority = record { task = task; wait = record { list = 0; priority = priority } }

pub record WorkedMutexes : Type 0 where
  -- with list values the raised waiter stays in front
  pub raised_stays_in_front : waiters_raised (Some []) ≡ waiter 2 3 ∷ waiter 3 2 ∷ []
  -- without them it has its priority as before
  pub raised_is_passed : waiters_raised None ≡ waiter 3 2 ∷ waiter 2 1 ∷ []
  pub stolen_again :
      replies low_and_high stolen
      ≡ Flag true ∷ Blocked ∷ Done ∷ Flag true ∷ Done ∷ Flag true ∷ Done ∷ Blocked ∷ []
  pub inherits : low_in_use contended ≡ 3
  pub disinherits : low_in_use (take 4 stolen) ≡ 1
  pub inherits_again : low_in_use stolen ≡ 3
  pub same_deadline : ticks_left 3 (state_after (start low_and_high) stolen).orders ≡ Some 4
  pub waits :
      waiters_after contended ≡ record { task = 3; wait = record { list = 0; priority = 3 } } ∷ []
  pub waits_no_more : waiters_after (take 4 stolen) ≡ []
  pub keeps_what_it_inherited : low_in_use (both_held ++ Call 1 2 (MutexGive 0) ∷ []) ≡ 3
  pub asks_nobody :
      flags_after low_and_high (both_held ++ Call 1 2 (MutexGive 0) ∷ [])
      ≡ (true, false) ∷ (false, false) ∷ []
  pub holds_one :
      held_by (state_after (start low_and_high) (both_held ++ Call 1 2 (MutexGive 0) ∷ [])).holders
      2 ≡ 1
  pub gives_the_last :
      low_in_use (both_held ++ Call 1 2 (MutexGive 0) ∷ Call 1 2 (MutexGive 1) ∷ []) ≡ 1
  pub asks_itself :
      flags_after low_and_high (both_held ++ Call 1 2 (MutexGive 0) ∷ Call 1 2 (MutexGive 1) ∷ [])
      ≡ (true, false) ∷ (true, false) ∷ []
  pub ends_without :
      replies low_and_high given_up ≡ Flag true ∷ Blocked ∷ Done ∷ Done ∷ Flag false ∷ []
  pub lowered_at_the_end : low_in_use given_up ≡ 1
  pub asked_at_the_end : flags_after low_and_high given_up ≡ (false, false) ∷ (false, true) ∷ []
  pub not_its_own :
      replies low_and_high (given_up ++ Call 0 3 (MutexGive 0) ∷ [])
      ≡ Flag true ∷ Blocked ∷ Done ∷ Done ∷ Flag false ∷ Refused NotHolder ∷ []
  pub free_is_not_given : replies low_and_high (Call 0 3 (MutexGive 1) ∷ []) ≡ Flag false ∷ []
  pub held_for_0_ticks :
      replies low_and_high (Call 1 2 (MutexTake 0 0) ∷ Call 0 3 (MutexTake 0 0) ∷ [])
      ≡ Flag true ∷ Flag false ∷ []
  pub waits_for_its_own :
      replies low_and_high (Call 0 3 (MutexTake 0 0) ∷ Call 0 3 (MutexTake 0 (2 ^ 32 - 1)) ∷ [])
      ≡ Flag true ∷ Blocked ∷ []
