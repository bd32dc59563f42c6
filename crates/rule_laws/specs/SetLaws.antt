-- The laws of the calls that set a task's priority, core affinity mask and preemption. Each is the
-- contract of a public function.
use Rattle.std.specs.Prelude.{◌≡◌, ℕ, ◌<◌, Bool}
use Rattle.bench_model.specs.Control.{Control, ask_its_core}
use Rattle.bench_model.specs.State.{State}
use Rattle.bench_model.specs.Table.{Table, stamp_queues}
use Rattle.bench_model.specs.Lists.{list_queues, view_of}
use Rattle.bench_model.specs.PriorityAffinity.{yields_after_priority_set, yields_after_affinity_set, priority_set, affinity_set, preemption_off, preemption_on}
use Rattle.bench_model.specs.Sound.{IsConsistent}

-- a state with other cores or control blocks
abbrev pub on_control : {Orders : Type 0} → (Control → Control) → State Orders → State Orders
on_control rule state = record state { control = rule state.control }

-- seen as lists, each rule of a table is the rule over lists

abbrev pub AskItsCoreSimulates : Type 0
AskItsCoreSimulates =
    (table : Table) (acting task : ℕ)
    → view_of (on_control (ask_its_core acting task) table)
    ≡ on_control (ask_its_core acting task) (view_of table)

abbrev pub YieldsAfterPrioritySetSimulates : Type 0
YieldsAfterPrioritySetSimulates = (table : Table) (acting task old new : ℕ) (ready : Bool) →
    view_of (on_control (yields_after_priority_set acting task old new ready) table)
    ≡ on_control (yields_after_priority_set acting task old new ready) (view_of table)

abbrev pub YieldsAfterAffinitySetSimulates : Type 0
YieldsAfterAffinitySetSimulates = (table : Table) (acting task : ℕ) (ready : Bool) →
    view_of (on_control (yields_after_affinity_set acting task ready) table)
    ≡ on_control (yields_after_affinity_set acting task ready) (view_of table)

abbrev pub PrioritySetSimulates : Type 0
PrioritySetSimulates =
    (table : Table) (acting task priority : ℕ) → IsConsistent table → task < table.settings.tasks →
    view_of (priority_set stamp_queues acting task priority table)
    ≡ priority_set list_queues acting task priority (view_of table)

abbrev pub AffinitySetSimulates : Type 0
AffinitySetSimulates =
    (table : Table) (acting task mask : ℕ) → IsConsistent table → task < table.settings.tasks →
    view_of (affinity_set stamp_queues acting task mask table)
    ≡ affinity_set list_queues acting task mask (view_of table)

abbrev pub PreemptionOffSimulates : Type 0
PreemptionOffSimulates =
    (table : Table) (task : ℕ)
    → view_of (preemption_off stamp_queues task table)
    ≡ preemption_off list_queues task (view_of table)

abbrev pub PreemptionOnSimulates : Type 0
PreemptionOnSimulates =
    (table : Table) (acting task : ℕ)
    → view_of (preemption_on stamp_queues acting task table)
    ≡ preemption_on list_queues acting task (view_of table)

-- each rule keeps a table consistent

abbrev pub AskItsCoreKeepsConsistent : Type 0
AskItsCoreKeepsConsistent =
    (table : Table) (acting task : ℕ) → IsConsistent table
    → IsConsistent (on_control (ask_its_core acting task) table)

abbrev pub YieldsAfterPrioritySetKeepsConsistent : Type 0
YieldsAfterPrioritySetKeepsConsistent =
    (table : Table) (acting task old new : ℕ) (ready : Bool) → IsConsistent table
    → IsConsistent (on_control (yields_after_priority_set acting task old new ready) table)

abbrev pub YieldsAfterAffinitySetKeepsConsistent : Type 0
YieldsAfterAffinitySetKeepsConsistent =
    (table : Table) (acting task : ℕ) (ready : Bool) → IsConsistent table
    → IsConsistent (on_control (yields_after_affinity_set acting task ready) table)

abbrev pub PrioritySetKeepsConsistent : Type 0
PrioritySetKeepsConsistent =
    (table : Table) (acting task priority : ℕ) → IsConsistent table → task < table.settings.tasks
    → IsConsistent (priority_set stamp_queues acting task priority table)

abbrev pub AffinitySetKeepsConsistent : Type 0
AffinitySetKeepsConsistent =
    (table : Table) (acting task mask : ℕ) → IsConsistent table → task < table.settings.tasks
    → IsConsistent (affinity_set stamp_queues acting task mask table)

abbrev pub PreemptionOffKeepsConsistent : Type 0
PreemptionOffKeepsConsistent =
    (table : Table) (task : ℕ) → IsConsistent table → task < table.settings.tasks
    → IsConsistent (preemption_off stamp_queues task table)

abbrev pub PreemptionOnKeepsConsistent : Type 0
PreemptionOnKeepsConsistent =
    (table : Table) (acting task : ℕ) → IsConsistent table → task < table.settings.tasks
    → IsConsistent (preemption_on stamp_queues acting task table)
