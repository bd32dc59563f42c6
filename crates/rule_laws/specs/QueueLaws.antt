-- The laws of queues and semaphores. Each is the contract of a public function.
use Rattle.std.specs.Prelude.{◌≡◌, ℕ, ◌<◌, ◌≤◌, ◌^◌}
use Rattle.bench_types.specs.declared.step.Direction.{Direction}
use Rattle.bench_types.specs.Step.{queue_total}
use Rattle.bench_model.specs.Lists.{list_queues, seen_of, view_of}
use Rattle.bench_model.specs.Queues.{queue_called, queue_finished, queue_interrupted}
use Rattle.bench_model.specs.Sound.{IsCaller, IsConsistent}
use Rattle.bench_model.specs.Table.{Table, stamp_queues}

-- seen as lists, each rule of a table is the rule over lists, with the same reply

abbrev pub QueueCallSimulates : Type 0
QueueCallSimulates =
    (table : Table) (core task : ℕ) (direction : Direction) (queue ticks : ℕ)
    → IsConsistent table → IsCaller table core task →
    seen_of (queue_called stamp_queues core task direction queue ticks table)
    ≡ queue_called list_queues core task direction queue ticks (view_of table)

abbrev pub QueueFinishSimulates : Type 0
QueueFinishSimulates =
    (table : Table) (core task : ℕ) (direction : Direction) (queue : ℕ)
    → IsConsistent table → IsCaller table core task →
    seen_of (queue_finished stamp_queues core task direction queue table)
    ≡ queue_finished list_queues core task direction queue (view_of table)

abbrev pub QueueInterruptSimulates : Type 0
QueueInterruptSimulates =
    (table : Table) (core : ℕ) (direction : Direction) (queue : ℕ) → IsConsistent table →
    seen_of (queue_interrupted stamp_queues core direction queue table)
    ≡ queue_interrupted list_queues core direction queue (view_of table)

-- each rule keeps a table consistent, for a user task and a queue that there is

abbrev pub QueueCallKeepsConsistent : Type 0
QueueCallKeepsConsistent =
    (table : Table) (core task : ℕ) (direction : Direction) (queue ticks : ℕ)
    → IsConsistent table → IsCaller table core task → table.settings.cores ≤ task
    → ticks < 2 ^ 32 → queue < queue_total table.settings →
    IsConsistent (queue_called stamp_queues core task direction queue ticks table).1

abbrev pub QueueFinishKeepsConsistent : Type 0
QueueFinishKeepsConsistent =
    (table : Table) (core task : ℕ) (direction : Direction) (queue : ℕ)
    → IsConsistent table → IsCaller table core task → table.settings.cores ≤ task
    → queue < queue_total table.settings →
    IsConsistent (queue_finished stamp_queues core task direction queue table).1

abbrev pub QueueInterruptKeepsConsistent : Type 0
QueueInterruptKeepsConsistent =
    (table : Table) (core : ℕ) (direction : Direction) (queue : ℕ) → IsConsistent table →
    IsConsistent (queue_interrupted stamp_queues core direction queue table).1
