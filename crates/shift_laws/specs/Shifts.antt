-- Kernels of which one looks as the other does at another tick count.
use Rattle.std.specs.Prelude.{◌≡◌, ℕ, ◌<◌, List, take}
use Rattle.bench_types.specs.declared.step.Step.{Step}
use Rattle.bench_model.specs.Alike.{InOneReadyList, AreDelayedTogether, SameOrder, SameWaitOrder}
use Rattle.bench_model.specs.Lists.{view_of}
use Rattle.bench_model.specs.Looks.{ticks_left}
use Rattle.bench_model.specs.Session.{state_after, run_results}
use Rattle.bench_model.specs.Shifted.{shifted}
use Rattle.bench_model.specs.Table.{Table, is_ready, deadline_left}
use Rattle.bench_model.specs.Tallied.{part_tallies}
use Rattle.bench_model.specs.Waiters.{wait_of}

-- the second kernel is equal to the first with a tick count so many ticks later
abbrev pub IsShifted : ℕ → Table → Table → Type 0
IsShifted by a b = view_of b ≡ shifted by (view_of a)

-- from both tables the steps have the same replies, the same running tasks after each and the same
-- tallies, and at each place the second state is the first with a tick count so many ticks later
pub record RunShifted (by : ℕ) (a b : Table) (steps : List Step) : Type 0 where
  pub outcomes : run_results a steps ≡ run_results b steps
  pub tallies : part_tallies a.settings a steps ≡ part_tallies a.settings b steps
  pub states :
      (place : ℕ)
      → IsShifted by (state_after a (take place steps)) (state_after b (take place steps))

-- Equality but for the tick counts, said pair by pair: all of SamePairwise but the tick counts.
-- Stamps, wakes and deadlines themselves are not compared: only which of two stamps is the lesser,
-- and how many ticks are left.
pub record SamePairwiseShifted (a b : Table) : Type 0 where
  pub settings : a.settings ≡ b.settings
  -- each core's current task and flags, and each task's priorities, mask and preemption
  pub control : a.control ≡ b.control
  pub calls : a.calls ≡ b.calls
  pub notes : a.notes ≡ b.notes
  pub holders : a.holders ≡ b.holders
  -- each queue has the same length and as many messages in both
  pub queues : a.queues ≡ b.queues
  pub hold : a.hold ≡ b.hold
  -- each task is ready in both or in none, with equal ticks left to its wake and to the deadline of
  -- its wait for an event
  pub ready : (i : ℕ) → i < a.settings.tasks → is_ready i a.orders ≡ is_ready i b.orders
  pub left : (i : ℕ) → i < a.settings.tasks → ticks_left i a.orders ≡ ticks_left i b.orders
  pub deadlines :
      (i : ℕ) → i < a.settings.tasks → deadline_left i a.orders ≡ deadline_left i b.orders
  -- each task waits in the same event list in both, with the same waiting priority, or in none
  pub waits :
      (i : ℕ) → i < a.settings.tasks → wait_of i a.orders.waiters ≡ wait_of i b.orders.waiters
  -- each task has the same list value in both, or none
  pub values : a.orders.values ≡ b.orders.values
  -- of two tasks that wait in one event list the same one stands in front
  pub wait_order : SameWaitOrder a.settings.tasks a.orders.waiters b.orders.waiters
  -- the order of each ready list, and of the tasks with one number of ticks left
  pub ready_order : SameOrder InOneReadyList a b
  pub delay_order : SameOrder AreDelayedTogether a b
