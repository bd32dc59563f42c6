-- Worked calls that set priorities, core affinity masks and preemption: which cores are due after
-- them.
use Rattle.std.specs.Prelude.{◌≡◌, ℕ, List, [], ◌∷◌, Bool, true, false, Some, None}
use Rattle.bench_types.specs.declared.header.Header.{Header}
use Rattle.bench_types.specs.declared.kernel_data.TaskControl.{TaskControl}
use Rattle.bench_types.specs.declared.reply.Reply.TheVariants.{Done, Refused}
use Rattle.bench_types.specs.declared.reply.Refusal.TheVariants.{InCall}
use Rattle.bench_types.specs.declared.step.Step.{Step}
use Rattle.bench_types.specs.declared.step.Step.TheVariants.{Tick, Switch, Call}
use Rattle.bench_types.specs.declared.step.Call.TheVariants.{Delay, PrioritySet, AffinitySet, PreemptOff, PreemptOn}
use Rattle.bench_model.specs.Control.{task_at, running, runs_on}
use Rattle.bench_model.specs.Lists.{view_of}
use Rattle.bench_model.specs.Start.{start}
use Rattle.bench_model.specs.Session.{state_after, step_of}
use Rattle.worked_examples.specs.Examples.{timed, three_tasks}
use Rattle.worked_examples.specs.SeekExamples.{flags, crowded}

-- per core whether it asked itself, and whether another asked it
abbrev pub flags_after : Header → List Step → List (Bool × Bool)
flags_after header steps = flags (state_after (start header) steps).control

abbrev pub ready_after : Header → List Step → List ℕ
ready_after header steps = (view_of (state_after (start header) steps)).orders.ready

abbrev pub block_after : Header → List Step → ℕ → TaskControl
block_after header steps task = task_at (state_after (start header) steps).control task

abbrev pub none_is_due : List (Bool × Bool)
none_is_due = (false, false) ∷ (false, false) ∷ []

-- core 1 was asked by core 0
abbrev pub other_is_asked : List (Bool × Bool)
other_is_asked = (false, false) ∷ (false, true) ∷ []

-- a core that asked itself, as its task waits, and was asked by core 1 too
abbrev pub waiting_is_asked : List (Bool × Bool)
waiting_is_asked = (true, true) ∷ (false, false) ∷ []

-- Task 2 (priority 2) runs on core 0 and task 3 (priority 1) on core 1; task 4 (priority 1) is
-- ready.
pub record WorkedPriorities : Type 0 where
  pub starts : ready_after three_tasks [] ≡ 2 ∷ 3 ∷ 4 ∷ 0 ∷ 1 ∷ []
  pub done : (step_of (Call 0 2 (PrioritySet 4 3)) (start three_tasks)).0 ≡ Done
  pub raised_is_sought : flags_after three_tasks (Call 0 2 (PrioritySet 4 3) ∷ []) ≡ other_is_asked
  pub raised_runs :
      running (state_after (start three_tasks) (Call 0 2 (PrioritySet 4 3) ∷ Switch 1 ∷ [])).control
      ≡ 2 ∷ 4 ∷ []
  pub both_change :
      block_after three_tasks (Call 0 2 (PrioritySet 4 3) ∷ []) 4
      ≡ record { base = 3; in_use = 3; mask = 3; preempt = true }
  pub capped :
      block_after three_tasks (Call 0 2 (PrioritySet 4 9) ∷ []) 4
      ≡ record { base = 4; in_use = 4; mask = 3; preempt = true }
  pub same_does_nothing :
      step_of (Call 0 2 (PrioritySet 3 1)) (start three_tasks) ≡ (Done, start three_tasks)
  pub greatest_again_does_nothing :
      state_after (start three_tasks) (Call 0 2 (PrioritySet 4 4) ∷ Call 0 2 (PrioritySet 4 9) ∷ [])
      ≡ state_after (start three_tasks) (Call 0 2 (PrioritySet 4 4) ∷ [])
  pub lowered_is_asked : flags_after three_tasks (Call 0 2 (PrioritySet 3 0) ∷ []) ≡ other_is_asked
  pub lowered_goes_last :
      ready_after three_tasks (Call 0 2 (PrioritySet 3 0) ∷ []) ≡ 2 ∷ 4 ∷ 0 ∷ 1 ∷ 3 ∷ []
  pub lowers_itself :
      flags_after three_tasks (Call 0 2 (PrioritySet 2 0) ∷ [])
      ≡ (true, false) ∷ (false, false) ∷ []
  pub lowered_without_preemption :
      flags_after three_tasks (Call 0 2 (PreemptOff 3) ∷ Call 0 2 (PrioritySet 3 0) ∷ [])
      ≡ none_is_due
  pub lowered_on_no_core : flags_after three_tasks (Call 0 2 (PrioritySet 4 0) ∷ []) ≡ none_is_due
  pub raised_and_blocked :
      flags_after three_tasks (Call 0 2 (Delay 2) ∷ Switch 0 ∷ Call 0 4 (PrioritySet 2 4) ∷ [])
      ≡ none_is_due
  pub lowered_while_it_waits :
      flags_after three_tasks (Call 0 2 (Delay 2) ∷ Call 1 3 (PrioritySet 2 0) ∷ [])
      ≡ waiting_is_asked
  pub keeps_waiting :
      ready_after three_tasks (Call 0 2 (Delay 2) ∷ Call 1 3 (PrioritySet 2 0) ∷ [])
      ≡ 3 ∷ 4 ∷ 0 ∷ 1 ∷ []

-- In `crowded` task 2 runs on core 0 and task 4 on core 1; task 3 is ready, has a greater priority
-- than task 4, and may run on core 0 alone.
pub record WorkedMasks : Type 0 where
  pub done : (step_of (Call 0 2 (AffinitySet 3 1)) (start three_tasks)).0 ≡ Done
  pub must_leave : flags_after three_tasks (Call 0 2 (AffinitySet 3 1) ∷ []) ≡ other_is_asked
  pub leaves_by_itself :
      flags_after three_tasks (Call 1 3 (AffinitySet 3 1) ∷ [])
      ≡ (false, false) ∷ (true, false) ∷ []
  pub may_stay : flags_after three_tasks (Call 0 2 (AffinitySet 3 2) ∷ []) ≡ none_is_due
  pub cut : (block_after three_tasks (Call 0 2 (AffinitySet 4 6) ∷ []) 4).mask ≡ 2
  pub ready_is_sought : flags_after crowded (Call 0 2 (AffinitySet 3 3) ∷ []) ≡ other_is_asked
  pub sought_runs :
      running (state_after (start crowded) (Call 0 2 (AffinitySet 3 3) ∷ Switch 1 ∷ [])).control
      ≡ 2 ∷ 3 ∷ []
  pub blocked_is_not_sought :
      flags_after three_tasks (Call 0 2 (Delay 2) ∷ Switch 0 ∷ Call 0 4 (AffinitySet 2 2) ∷ [])
      ≡ none_is_due
  pub must_leave_while_it_waits :
      flags_after three_tasks (Call 0 2 (Delay 1) ∷ Call 1 3 (AffinitySet 2 2) ∷ [])
      ≡ waiting_is_asked
  pub woken_elsewhere :
      flags_after three_tasks (Call 0 2 (Delay 1) ∷ Call 1 3 (AffinitySet 2 2) ∷ Tick ∷ [])
      ≡ (true, true) ∷ (false, true) ∷ []
  pub woken_where_it_was :
      flags_after three_tasks (Call 0 2 (Delay 1) ∷ Tick ∷ []) ≡ (true, false) ∷ (false, false) ∷ []

pub record WorkedPreemption : Type 0 where
  pub off_asks_none : flags_after three_tasks (Call 0 2 (PreemptOff 3) ∷ []) ≡ none_is_due
  pub off_is_kept :
      block_after three_tasks (Call 0 2 (PreemptOff 3) ∷ []) 3
      ≡ record { base = 1; in_use = 1; mask = 3; preempt = false }
  pub off_ends_no_slice :
      flags_after (timed three_tasks) (Call 0 2 (PreemptOff 3) ∷ Tick ∷ []) ≡ none_is_due
  pub off_keeps_its_core :
      flags_after three_tasks
      (Call 0 2 (PreemptOff 3) ∷ Call 0 2 (PreemptOff 2) ∷ Call 0 2 (PrioritySet 4 4) ∷ [])
      ≡ none_is_due
  pub on_asks : flags_after three_tasks (Call 0 2 (PreemptOn 3) ∷ []) ≡ other_is_asked
  pub on_asks_itself :
      flags_after three_tasks (Call 0 2 (PreemptOn 2) ∷ []) ≡ (true, false) ∷ (false, false) ∷ []
  pub on_gives_way :
      running (state_after (start three_tasks)
      (Call 0 2 (PreemptOff 3) ∷ Call 0 2 (PrioritySet 4 2) ∷ Call 0 2 (PreemptOn 3) ∷ Switch 1
      ∷ [])).control ≡ 2 ∷ 4 ∷ []
  pub on_of_a_ready_task : flags_after three_tasks (Call 0 2 (PreemptOn 4) ∷ []) ≡ none_is_due
  pub on_while_it_waits :
      flags_after three_tasks (Call 0 2 (Delay 2) ∷ Call 1 3 (PreemptOn 2) ∷ []) ≡ waiting_is_asked
  pub asked_runs_on_none :
      runs_on (state_after (start three_tasks) (Call 0 2 (PreemptOn 3) ∷ [])).control 3 ≡ None
  pub pending_still_runs :
      runs_on (state_after (start three_tasks) (Call 0 2 (Delay 2) ∷ [])).control 2 ≡ Some 0
  pub not_while_it_is_in_a_call :
      (step_of (Call 0 2 (PreemptOn 2))
      (state_after (start three_tasks) (Call 0 2 (Delay 1) ∷ Tick ∷ Switch 0 ∷ []))).0
      ≡ Refused InCall
