-- The laws of holds, and of the calls that a core may not make while it holds the kernel. Each is
-- the contract of a public function.
use Rattle.std.specs.Prelude.{◌≡◌, ℕ, not, Some, None}
use Rattle.bench_types.specs.declared.kernel_data.Hold.{Hold}
use Rattle.bench_types.specs.declared.step.Call.{Call}
use Rattle.bench_types.specs.declared.step.Step.{Step}
use Rattle.bench_types.specs.Step.{IsCheckedCall, IsCheckedStep}
use Rattle.bench_model.specs.Control.{current}
use Rattle.bench_model.specs.Refusals.{call_refusal, would_block}
use Rattle.bench_model.specs.Session.{step_of}
use Rattle.bench_model.specs.Sound.{IsCaller, IsConsistent, IsSound}
use Rattle.bench_model.specs.Steps.{called}
use Rattle.bench_model.specs.Table.{Table, stamp_queues, is_ready}

-- a call that begins blocks its task just where the rule for it says so: its task is not ready
-- after it
abbrev pub BlocksWhereItWould : Type 0
BlocksWhereItWould =
    (table : Table) (core task : ℕ) (call : Call) → IsConsistent table → IsCaller table core task
    → IsCheckedCall table.settings call →
    call_refusal None call ≡ None
    → is_ready task (called stamp_queues core task call table).1.orders
    ≡ not (would_block stamp_queues task call table)

-- while a core holds the kernel no step takes its task from it
abbrev pub HolderKeepsItsCore : Type 0
HolderKeepsItsCore =
    (table : Table) (step : Step) (hold : Hold) → IsSound table → IsCheckedStep table.settings step
    → table.hold ≡ Some hold →
    current (step_of step table).1.control hold.core ≡ current table.control hold.core
