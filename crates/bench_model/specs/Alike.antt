-- Alike kernels: equality of two tables said pair by pair, without sorting.
-- Stamps, wakes and deadlines themselves are not compared: only which of two stamps is the lesser,
-- and how many ticks are left.
use Rattle.std.specs.Prelude.{◌≡◌, ◌↔◌, ℕ, ◌<◌, ◌%◌, ◌^◌, true, List, Some, IsSome}
use Rattle.bench_types.specs.declared.kernel_data.Waiter.{Waiter}
use Rattle.bench_model.specs.Control.{task_at}
use Rattle.bench_model.specs.Looks.{ticks_left}
use Rattle.bench_model.specs.Table.{Table, stamp_of, is_ready, deadline_left}
use Rattle.bench_model.specs.Waiters.{list_awaited, stands_before, wait_of}

-- both are ready, with one priority in use
abbrev pub InOneReadyList : Table → ℕ → ℕ → Type 0
InOneReadyList table i j =
    (is_ready i table.orders ≡ true) × (is_ready j table.orders ≡ true)
    × ((task_at table.control i).in_use ≡ (task_at table.control j).in_use)

-- both wait, with one number of ticks left
abbrev pub AreDelayedTogether : Table → ℕ → ℕ → Type 0
AreDelayedTogether table i j =
    IsSome (ticks_left i table.orders) × (ticks_left i table.orders ≡ ticks_left j table.orders)

-- the first task came to where it stands before the second
abbrev pub CameBefore : Table → ℕ → ℕ → Type 0
CameBefore table i j = stamp_of table.orders i < stamp_of table.orders j

-- any two tasks that stand together came in the same order in both tables
abbrev pub SameOrder : (Table → ℕ → ℕ → Type 0) → Table → Table → Type 0
SameOrder StandTogether a b =
    (i j : ℕ) → i < a.settings.tasks → j < a.settings.tasks → StandTogether a i j
    → (CameBefore a i j ↔ CameBefore b i j)

-- both wait in the event list
abbrev pub AwaitBoth : ℕ → ℕ → ℕ → List Waiter → Type 0
AwaitBoth list i j waiters =
    (list_awaited i waiters ≡ Some list) × (list_awaited j waiters ≡ Some list)

-- of any two of so many tasks that wait in one event list, the same one stands in front in both
abbrev pub SameWaitOrder : ℕ → List Waiter → List Waiter → Type 0
SameWaitOrder tasks waiters others =
    (list i j : ℕ) → i < tasks → j < tasks → AwaitBoth list i j waiters
    → stands_before i j waiters ≡ stands_before i j others

-- Same without sorting, to be checked against the kernel's lists pair by pair; the law SameIsAlike
-- says that the two agree
pub record SamePairwise (a b : Table) : Type 0 where
  pub settings : a.settings ≡ b.settings
  -- each core's current task and flags, and each task's priorities, mask and preemption
  pub control : a.control ≡ b.control
  pub calls : a.calls ≡ b.calls
  pub notes : a.notes ≡ b.notes
  pub holders : a.holders ≡ b.holders
  -- each queue has the same length and as many messages in both
  pub queues : a.queues ≡ b.queues
  pub hold : a.hold ≡ b.hold
  -- the tick counts are equal as 32 bits
  pub ticks : a.orders.tick % 2 ^ 32 ≡ b.orders.tick % 2 ^ 32
  -- each task is ready in both or in none, with equal ticks left to its wake and to the deadline of
  -- its wait for an event
  pub ready : (i : ℕ) → i < a.settings.tasks → is_ready i a.orders ≡ is_ready i b.orders
  pub left : (i : ℕ) → i < a.settings.tasks → ticks_left i a.orders ≡ ticks_left i b.orders
  pub deadlines :
      (i : ℕ) → i < a.settings.tasks → deadline_left i a.orders ≡ deadline_left i b.orders
  -- each task waits in the same event list in both, with the same waiting priority, or in none
  pub waits :
      (i : ℕ) → i < a.settings.tasks → wait_of i a.orders.waiters ≡ wait_of i b.orders.waiters
  -- each task has the same list value in both, or none
  pub values : a.orders.values ≡ b.orders.values
  -- of two tasks that wait in one event list the same one stands in front
  pub wait_order : SameWaitOrder a.settings.tasks a.orders.waiters b.orders.waiters
  -- the order of each ready list, and of the tasks with one number of ticks left
  pub ready_order : SameOrder InOneReadyList a b
  pub delay_order : SameOrder AreDelayedTogether a b
