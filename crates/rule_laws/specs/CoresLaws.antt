-- The laws of cores and ready lists, and of changes of a control block. Each is the contract of a
-- public function.
use Rattle.std.specs.Prelude.{◌≡◌, ℕ, ◌<◌, length, Bool, true, Option}
use Rattle.bench_types.specs.declared.kernel_data.EventWait.{EventWait}
use Rattle.bench_types.specs.declared.kernel_data.TaskControl.{TaskControl}
use Rattle.bench_model.specs.Control.{Control, task_at, ask}
use Rattle.list_orders.specs.Search.{without}
use Rattle.bench_model.specs.Table.{Stamps, Table, stamp_queues, is_ready, delay, suspend}
use Rattle.bench_model.specs.Lists.{list_queues, lists_of, view_of}
use Rattle.bench_model.specs.Seek.{seek, wake, after_switch, sliced}
use Rattle.rule_laws.specs.SeekLaws.{sought}
use Rattle.bench_model.specs.ControlFields.{with_task, in_use_set}
use Rattle.bench_model.specs.Cores.{CoresView, cores_of, cores_rule}
use Rattle.bench_model.specs.Sound.{IsStamped, IsControlBlock, IsConsistent}

-- the cores and ready lists that are seen of a table
abbrev pub cores_seen : Table → CoresView
cores_seen table = cores_of (view_of table)

-- a change of a control block that keeps the priority in use changes no order of tasks
abbrev pub ChangeIsApart : Type 0
ChangeIsApart =
    (control : Control) (stamps : Stamps) (task : ℕ) (block : TaskControl)
    → block.in_use ≡ (task_at control task).in_use →
    lists_of (with_task task block control) stamps ≡ lists_of control stamps

-- and it keeps a table consistent where both its priorities are below their number and its mask has
-- bits of cores alone
abbrev pub ChangeKeepsConsistent : Type 0
ChangeKeepsConsistent =
    (table : Table) (task : ℕ) (block : TaskControl) → IsConsistent table
    → IsControlBlock table.settings block →
    IsConsistent (record table { control = with_task task block table.control })

-- seen as lists, setting the priority in use in a table is setting it over lists
abbrev pub InUseSimulates : Type 0
InUseSimulates =
    (table : Table) (task priority : ℕ) → IsConsistent table → task < table.settings.tasks →
    view_of (in_use_set stamp_queues task priority table)
    ≡ in_use_set list_queues task priority (view_of table)

abbrev pub InUseKeepsConsistent : Type 0
InUseKeepsConsistent =
    (table : Table) (task priority : ℕ) → IsConsistent table → task < table.settings.tasks
    → priority < table.settings.priorities →
    IsConsistent (in_use_set stamp_queues task priority table)

-- what each rule does to the cores and ready lists that are seen of a table depends on them alone

abbrev pub AskOnCores : Type 0
AskOnCores = (table : Table) (acting core : ℕ) →
    cores_seen (record table { control = ask acting core table.control })
    ≡ record (cores_seen table) { control = ask acting core table.control }

abbrev pub SeekOnCores : Type 0
SeekOnCores = (table : Table) (acting task : ℕ) (among : ℕ → Bool) →
    cores_seen (sought acting task among table)
    ≡ record (cores_seen table) { control = seek acting task among table.control }

abbrev pub WakeOnCores : Type 0
WakeOnCores =
    (table : Table) (acting task : ℕ) → IsStamped table.orders → task < length table.orders.rows →
    cores_seen (wake stamp_queues acting task table)
    ≡ cores_rule (wake list_queues acting task) (cores_seen table)

abbrev pub WaitOnCores : Type 0
WaitOnCores =
    (table : Table) (task : ℕ) (ticks : Option ℕ) (wait : Option EventWait) → IsConsistent table
    → task < table.settings.tasks → is_ready task table.orders ≡ true →
    cores_seen (record table { orders = delay task ticks wait table.orders })
    ≡ record (cores_seen table) { ready = without task (cores_seen table).ready }

abbrev pub SuspendOnCores : Type 0
SuspendOnCores =
    (table : Table) (task : ℕ) → IsConsistent table → task < table.settings.tasks →
    cores_seen (record table { orders = suspend task table.orders })
    ≡ record (cores_seen table) { ready = without task (cores_seen table).ready }

abbrev pub SwitchOnCores : Type 0
SwitchOnCores = (table : Table) (core : ℕ) → IsConsistent table → core < table.settings.cores →
    cores_seen (after_switch stamp_queues core table)
    ≡ cores_rule (after_switch list_queues core) (cores_seen table)

abbrev pub SlicesOnCores : Type 0
SlicesOnCores =
    (table : Table) → IsConsistent table
    → cores_seen (sliced stamp_queues table) ≡ cores_rule (sliced list_queues) (cores_seen table)

abbrev pub InUseOnCores : Type 0
InUseOnCores =
    (table : Table) (task priority : ℕ) → IsConsistent table → task < table.settings.tasks →
    cores_seen (in_use_set stamp_queues task priority table)
    ≡ cores_rule (in_use_set list_queues task priority) (cores_seen table)
