-- Worked holds and delays until a tick count: what each keeps out, and when a task wakes.
use Rattle.std.specs.Prelude.{◌≡◌, ℕ, ◌-◌, ◌^◌, List, [], ◌∷◌, ◌++◌, true, false, Option, Some, None}
use Rattle.bench_types.specs.declared.header.Header.{Header}
use Rattle.bench_types.specs.declared.note.NotifyAction.TheVariants.{Increment}
use Rattle.bench_types.specs.declared.reply.Reply.TheVariants.{Done, Blocked, Flag, Isr, Until, Refused}
use Rattle.bench_types.specs.declared.reply.Refusal.TheVariants.{Held, SwitchDue, HoldBlock, NoHold, HoldDeep}
use Rattle.bench_types.specs.declared.step.Step.{Step}
use Rattle.bench_types.specs.declared.step.Step.TheVariants.{Tick, Switch, Call, Interrupt}
use Rattle.bench_types.specs.declared.step.Call.TheVariants.{Yield, Delay, DelayUntil, Finish, StateClear, HoldOpen, HoldClose}
use Rattle.worked_examples.specs.Examples.{timed, three_tasks, outcomes}
use Rattle.bench_model.specs.Looks.{ticks_left}
use Rattle.worked_examples.specs.NoteExamples.{replies, known}
use Rattle.bench_model.specs.Session.{step_of, state_after}
use Rattle.worked_examples.specs.SetExamples.{flags_after}
use Rattle.bench_model.specs.Start.{start}
use Rattle.bench_model.specs.Table.{Table, tick_count}

-- core 0 holds the kernel so many times over
abbrev pub held : ℕ → Table
held depth = record (start three_tasks) { hold = Some (record { core = 0; depth = depth }) }

-- the same tasks, which start at a tick count
abbrev pub from_tick : ℕ → Header → Header
from_tick tick header = record header { config = record header.config { tick = tick } }

-- task 2 delays until that tick count
abbrev pub until : ℕ → ℕ → List Step
until prev inc = Call 0 2 (DelayUntil prev inc) ∷ []

-- the ticks left to the wake of task 2
abbrev pub left_after : Header → List Step → Option ℕ
left_after header steps = ticks_left 2 (state_after (start header) steps).orders

-- Task 2 (priority 2) runs on core 0 and task 3 (priority 1) on core 1; task 4 (priority 1) is
-- ready.
pub record WorkedHolds : Type 0 where
  pub keeps_out :
      replies (timed three_tasks)
      (Call 0 2 HoldOpen ∷ Call 1 3 Yield ∷ Switch 1 ∷ Call 0 2 (Delay 2) ∷ Call 0 2 HoldClose
      ∷ Call 0 2 HoldClose ∷ [])
      ≡ Done ∷ Refused Held ∷ Refused Held ∷ Refused HoldBlock ∷ Done ∷ Refused NoHold ∷ []
  pub lets_in :
      replies three_tasks (Call 0 2 HoldOpen ∷ Interrupt 1 (known 2 Increment) ∷ Tick ∷ [])
      ≡ Done ∷ Isr true false ∷ Done ∷ []
  pub due_goes_on :
      replies three_tasks
      (Call 0 2 HoldOpen ∷ Call 0 2 Yield ∷ Call 0 2 (StateClear 2 0) ∷ Switch 0
      ∷ Call 0 2 HoldClose
      ∷ Call 0 2 Yield ∷ [])
      ≡ Done ∷ Done ∷ Flag false ∷ Refused Held ∷ Done ∷ Refused SwitchDue ∷ []
  pub nests :
      (state_after (start three_tasks) (Call 0 2 HoldOpen ∷ Call 0 2 HoldOpen ∷ [])).hold
      ≡ Some (record { core = 0; depth = 2 })
  pub last_closes :
      (state_after (start three_tasks)
      (Call 0 2 HoldOpen ∷ Call 0 2 HoldOpen ∷ Call 0 2 HoldClose ∷ Call 0 2 HoldClose ∷ [])).hold
      ≡ None
  pub deepest :
      (step_of (Call 0 2 HoldOpen) (held 254)).1.hold ≡ Some (record { core = 0; depth = 255 })
  pub too_deep : (step_of (Call 0 2 HoldOpen) (held 255)).0 ≡ Refused HoldDeep
  pub no_other_closes : (step_of (Call 1 3 HoldClose) (held 1)).0 ≡ Refused Held
  pub delays_in_no_hold :
      replies (from_tick 10 three_tasks) (Call 0 2 HoldOpen ∷ until 10 5 ++ until 0 5)
      ≡ Done ∷ Refused HoldBlock ∷ Until false 5 ∷ []

pub record WorkedUntils : Type 0 where
  pub ahead : replies (from_tick 10 (timed three_tasks)) (until 10 5) ≡ Until true 15 ∷ []
  pub waits : left_after (from_tick 10 (timed three_tasks)) (until 10 5) ≡ Some 5
  pub wake_has_passed : replies (from_tick 10 (timed three_tasks)) (until 0 5) ≡ Until false 5 ∷ []
  pub asks_itself :
      flags_after (from_tick 10 (timed three_tasks)) (until 0 5)
      ≡ (true, false) ∷ (false, false) ∷ []
  pub is_now : replies (from_tick 10 three_tasks) (until 5 5) ≡ Until false 10 ∷ []
  pub wake_wraps :
      (replies (from_tick (2 ^ 32 - 6) three_tasks) (until (2 ^ 32 - 6) 10) ≡ Until true 4 ∷ [])
      × (left_after (from_tick (2 ^ 32 - 6) three_tasks) (until (2 ^ 32 - 6) 10) ≡ Some 10)
  pub both_wrapped : replies (from_tick 3 three_tasks) (until (2 ^ 32 - 6) 10) ≡ Until true 4 ∷ []
  pub wake_far_in_the_past :
      replies (from_tick 3 three_tasks) (until (2 ^ 32 - 6) 5) ≡ Until false (2 ^ 32 - 1) ∷ []
  pub longest : left_after (from_tick 10 three_tasks) (until 10 (2 ^ 32 - 1)) ≡ Some (2 ^ 32 - 1)
  pub finishes :
      replies (from_tick 10 three_tasks) (until 10 1 ++ Tick ∷ Switch 0 ∷ Call 0 2 Finish ∷ [])
      ≡ Until true 11 ∷ Done ∷ Done ∷ Done ∷ []
  pub tick_wraps :
      outcomes (from_tick (2 ^ 32 - 1) (timed three_tasks))
      (Call 0 2 (Delay 1) ∷ Tick ∷ Switch 0 ∷ Call 0 2 Finish ∷ [])
      ≡ Some (Blocked, 2 ∷ 3 ∷ []) ∷ Some (Done, 2 ∷ 3 ∷ []) ∷ Some (Done, 2 ∷ 3 ∷ [])
      ∷ Some (Done, 2 ∷ 3 ∷ []) ∷ []
  pub begins_anew :
      tick_count (state_after (start (from_tick (2 ^ 32 - 1) (timed three_tasks)))
      (Call 0 2 (Delay 1) ∷ Tick ∷ [])).orders ≡ 0
