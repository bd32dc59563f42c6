-- The turn in which the waiters of an event list are served.
use Rattle.std.specs.Prelude.{◌≡◌, ◌≢◌, ◌≤◌, ℕ, List, [], ◌∷◌, Bool, true, ◌&&◌, ◌||◌, ◌==◌, nat_lt}
use Rattle.std.specs.List.{AllByRecursion}
use Rattle.bench_types.specs.declared.kernel_data.Waiter.{Waiter}
use Rattle.bench_model.specs.Table.{Stamps, stamp_of}

-- A waiter of a greater waiting priority is served before another, and of one priority the one that
-- began to wait before the other (FreeRTOS Reference Manual, xSemaphoreTake).
abbrev pub is_served_before : Stamps → Waiter → Waiter → Bool
is_served_before stamps a b =
    nat_lt b.wait.priority a.wait.priority
    || (a.wait.priority == b.wait.priority
    && nat_lt (stamp_of stamps a.task) (stamp_of stamps b.task))

-- the same, where both wait in one list
abbrev pub IsServedBefore : Stamps → Waiter → Waiter → Type 0
IsServedBefore stamps a b = a.wait.list ≡ b.wait.list → is_served_before stamps a b ≡ true

-- no task stands twice among the waiters
abbrev pub WaitOnce : List Waiter → Type 0
WaitOnce [] = Unit {0}
WaitOnce (waiter ∷ waiters) =
    AllByRecursion (λ (other : Waiter). other.task ≢ waiter.task) waiters × WaitOnce waiters

-- the waiters of an event list stand in front of those of greater ones
abbrev pub AreByList : List Waiter → Type 0
AreByList [] = Unit {0}
AreByList (waiter ∷ waiters) =
    AllByRecursion (λ (other : Waiter). waiter.wait.list ≤ other.wait.list) waiters
    × AreByList waiters

-- each waiter stands in front of those of its list that are served after it
abbrev pub AreInTurn : Stamps → List Waiter → Type 0
AreInTurn stamps [] = Unit {0}
AreInTurn stamps (waiter ∷ waiters) =
    AllByRecursion (IsServedBefore stamps waiter) waiters × AreInTurn stamps waiters

-- it waits in the list, and is served before all others that do
abbrev pub IsServedFirst : Stamps → ℕ → List Waiter → Waiter → Type 0
IsServedFirst stamps list waiters waiter =
    (waiter.wait.list ≡ list)
    × AllByRecursion (λ other. other ≢ waiter → other.wait.list ≡ list
    → is_served_before stamps waiter other ≡ true) waiters
