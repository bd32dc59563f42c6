-- The laws of mutexes. Each is the contract of a public function.
use Rattle.std.specs.Prelude.{◌≡◌, ℕ, ◌<◌, ◌≤◌, ◌^◌, Some, None}
use Rattle.bench_types.specs.declared.kernel_data.Waiter.{Waiter}
use Rattle.bench_types.specs.declared.step.Unfinished.{Unfinished}
use Rattle.bench_types.specs.Step.{IsCheckedUnfinished}
use Rattle.bench_model.specs.Control.{Control}
use Rattle.bench_model.specs.Lists.{seen_of}
use Rattle.bench_model.specs.Table.{Stamps, Table, stamp_queues, first_waiter, deadline_left, forget_deadline}
use Rattle.bench_model.specs.Cores.{cores_rule}
use Rattle.rule_laws.specs.CoresLaws.{cores_seen}
use Rattle.bench_model.specs.Lists as seen
use Rattle.bench_model.specs.Lists.{list_queues, lists_of, view_of}
use Rattle.bench_model.specs.Steps.{after_finish}
use Rattle.bench_model.specs.Mutexes.{inherited, after_disinherit, mutex_take, mutex_give}
use Rattle.bench_model.specs.Sound.{IsCaller, IsConsistent}
use Rattle.bench_model.specs.Turns.{IsServedFirst}

abbrev pub FirstWaiterSimulates : Type 0
FirstWaiterSimulates =
    (control : Control) (mutex : ℕ) (stamps : Stamps)
    → seen.first_waiter mutex (lists_of control stamps) ≡ first_waiter mutex stamps

-- without list values the first waiter of a mutex is served before all others that wait for it
abbrev pub FirstWaiterIsServedFirst : Type 0
FirstWaiterIsServedFirst =
    (table : Table) (mutex : ℕ) (waiter : Waiter) → IsConsistent table
    → table.settings.queues ≡ None → first_waiter mutex table.orders ≡ Some waiter
    → IsServedFirst table.orders mutex table.orders.waiters waiter

abbrev pub DeadlineSimulates : Type 0
DeadlineSimulates =
    (control : Control) (task : ℕ) (stamps : Stamps)
    → seen.deadline_left task (lists_of control stamps) ≡ deadline_left task stamps

abbrev pub ForgettingSimulates : Type 0
ForgettingSimulates =
    (control : Control) (task : ℕ) (stamps : Stamps)
    → lists_of control (forget_deadline task stamps)
    ≡ seen.forget_deadline task (lists_of control stamps)

abbrev pub InheritSimulates : Type 0
InheritSimulates =
    (table : Table) (acting holder priority : ℕ) → IsConsistent table
    → holder < table.settings.tasks →
    view_of (inherited stamp_queues acting holder priority table)
    ≡ inherited list_queues acting holder priority (view_of table)

abbrev pub InheritKeepsConsistent : Type 0
InheritKeepsConsistent =
    (table : Table) (acting holder priority : ℕ) → IsConsistent table
    → holder < table.settings.tasks → priority < table.settings.priorities →
    IsConsistent (inherited stamp_queues acting holder priority table)

-- seen as lists, each rule of a table is the rule over lists, with the same reply

abbrev pub TakeSimulates : Type 0
TakeSimulates =
    (table : Table) (core task mutex ticks : ℕ) → IsConsistent table → IsCaller table core task →
    seen_of (mutex_take stamp_queues core task mutex ticks table)
    ≡ mutex_take list_queues core task mutex ticks (view_of table)

abbrev pub FinishSimulates : Type 0
FinishSimulates =
    (table : Table) (core task : ℕ) (call : Unfinished) → IsConsistent table
    → IsCaller table core task →
    seen_of (after_finish stamp_queues core task call table)
    ≡ after_finish list_queues core task call (view_of table)

abbrev pub GiveSimulates : Type 0
GiveSimulates =
    (table : Table) (core task mutex : ℕ) → IsConsistent table → task < table.settings.tasks
    → mutex < table.settings.mutexes →
    seen_of (mutex_give stamp_queues core task mutex table)
    ≡ mutex_give list_queues core task mutex (view_of table)

-- each rule keeps a table consistent, for a user task and a mutex that there is

abbrev pub TakeKeepsConsistent : Type 0
TakeKeepsConsistent =
    (table : Table) (core task mutex ticks : ℕ) → IsConsistent table → IsCaller table core task
    → table.settings.cores ≤ task → ticks < 2 ^ 32 →
    mutex < table.settings.mutexes
    → IsConsistent (mutex_take stamp_queues core task mutex ticks table).1

abbrev pub FinishKeepsConsistent : Type 0
FinishKeepsConsistent =
    (table : Table) (core task : ℕ) (call : Unfinished) → IsConsistent table
    → IsCaller table core task → IsCheckedUnfinished table.settings call →
    table.settings.cores ≤ task → IsConsistent (after_finish stamp_queues core task call table).1

abbrev pub GiveKeepsConsistent : Type 0
GiveKeepsConsistent =
    (table : Table) (core task mutex : ℕ) → IsConsistent table → task < table.settings.tasks
    → mutex < table.settings.mutexes →
    IsConsistent (mutex_give stamp_queues core task mutex table).1

-- seen as lists, giving up an inherited priority is so, and it keeps a table consistent

abbrev pub LowerSimulates : Type 0
LowerSimulates =
    (table : Table) (acting task priority : ℕ) → IsConsistent table → task < table.settings.tasks →
    view_of (after_disinherit stamp_queues acting task priority table)
    ≡ after_disinherit list_queues acting task priority (view_of table)

abbrev pub LowerKeepsConsistent : Type 0
LowerKeepsConsistent =
    (table : Table) (acting task priority : ℕ) → IsConsistent table → task < table.settings.tasks
    → priority < table.settings.priorities →
    IsConsistent (after_disinherit stamp_queues acting task priority table)

-- what each does to the cores and ready lists that are seen of a table depends on them alone

abbrev pub InheritOnCores : Type 0
InheritOnCores =
    (table : Table) (acting holder priority : ℕ) → IsConsistent table
    → holder < table.settings.tasks →
    cores_seen (inherited stamp_queues acting holder priority table)
    ≡ cores_rule (inherited list_queues acting holder priority) (cores_seen table)

abbrev pub LowerOnCores : Type 0
LowerOnCores =
    (table : Table) (acting task priority : ℕ) → IsConsistent table → task < table.settings.tasks →
    cores_seen (after_disinherit stamp_queues acting task priority table)
    ≡ cores_rule (after_disinherit list_queues acting task priority) (cores_seen table)
