-- The laws of the core that is asked, of seeking and of time slices. Each is the contract of a
-- public function.
use Rattle.order_laws.specs.AskedCores.{IsAnswer}
use Rattle.std.specs.Prelude.{◌≡◌, ℕ, ◌<◌, Bool, length}
use Rattle.bench_model.specs.Control.{Control, ask}
use Rattle.bench_model.specs.State.{State}
use Rattle.bench_model.specs.Table.{Table, stamp_queues}
use Rattle.bench_model.specs.Lists.{list_queues, view_of}
use Rattle.bench_model.specs.Seek.{core_to_yield, seek, wake, after_switch, sliced}
use Rattle.bench_model.specs.Sound.{IsStamped, IsConsistent}

-- the state after seeking a core
abbrev pub sought : {Orders : Type 0} → ℕ → ℕ → (ℕ → Bool) → State Orders → State Orders
sought acting task among state = record state { control = seek acting task among state.control }

abbrev pub BestCoreIsAsked : Type 0
BestCoreIsAsked =
    (control : Control) (task : ℕ) (among : ℕ → Bool)
    → IsAnswer control task among (core_to_yield control task among)

-- seen as lists, each rule of a table is the rule over lists

abbrev pub SeekSimulates : Type 0
SeekSimulates =
    (table : Table) (acting task : ℕ) (among : ℕ → Bool)
    → view_of (sought acting task among table) ≡ sought acting task among (view_of table)

abbrev pub WakeSimulates : Type 0
WakeSimulates =
    (table : Table) (acting task : ℕ) → IsStamped table.orders → task < length table.orders.rows →
    view_of (wake stamp_queues acting task table) ≡ wake list_queues acting task (view_of table)

abbrev pub AfterSwitchSimulates : Type 0
AfterSwitchSimulates =
    (table : Table) (core : ℕ) → IsConsistent table → core < table.settings.cores →
    view_of (after_switch stamp_queues core table) ≡ after_switch list_queues core (view_of table)

abbrev pub SlicesAreSeen : Type 0
SlicesAreSeen =
    (table : Table) → IsConsistent table
    → view_of (sliced stamp_queues table) ≡ sliced list_queues (view_of table)

-- each rule keeps a table consistent

abbrev pub AskKeepsConsistent : Type 0
AskKeepsConsistent =
    (table : Table) (acting core : ℕ) → IsConsistent table → core < table.settings.cores
    → IsConsistent (record table { control = ask acting core table.control })

abbrev pub SeekKeepsConsistent : Type 0
SeekKeepsConsistent =
    (table : Table) (acting task : ℕ) (among : ℕ → Bool) → IsConsistent table
    → IsConsistent (sought acting task among table)

abbrev pub WakeKeepsConsistent : Type 0
WakeKeepsConsistent =
    (table : Table) (acting task : ℕ) → IsConsistent table → task < table.settings.tasks
    → IsConsistent (wake stamp_queues acting task table)

abbrev pub AfterSwitchKeepsConsistent : Type 0
AfterSwitchKeepsConsistent =
    (table : Table) (core : ℕ) → IsConsistent table → core < table.settings.cores
    → IsConsistent (after_switch stamp_queues core table)

abbrev pub SlicesKeepConsistent : Type 0
SlicesKeepConsistent =
    (table : Table) → IsConsistent table → IsConsistent (sliced stamp_queues table)
