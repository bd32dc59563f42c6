-- The laws between the definitions. Each is the contract of a public function.
use Rattle.bench_model.specs.Lists.{seen_of}
use Rattle.std.specs.Prelude.{◌≡◌, ℕ, ◌<◌, ◌≤◌, List, length, slice_set, true, false, Option, IsSome, IfSome, Ok}
use Rattle.std.specs.List.{AllByRecursion}
use Rattle.bench_types.specs.declared.header.Header.{Header}
use Rattle.bench_types.specs.declared.kernel_data.EventWait.{EventWait}
use Rattle.bench_types.specs.declared.step.Unfinished.{Unfinished}
use Rattle.bench_types.specs.declared.step.Step.{Step}
use Rattle.bench_types.specs.Header.{header_check}
use Rattle.bench_types.specs.Step.{core_of, IsCheckedUnfinished, IsCheckedStep}
use Rattle.bench_model.specs.Control.{Control, current, is_due, running, ask}
use Rattle.bench_model.specs.State.{blocked, selected, after_select}
use Rattle.bench_model.specs.Steps.{woken, after}
use Rattle.bench_model.specs.Table.{Stamps, Table, stamp_queues, is_ready, pick, add_to_ready_list, delay, advance, due}
use Rattle.bench_model.specs.Lists as seen
use Rattle.bench_model.specs.Lists.{list_queues, lists_of, view_of}
use Rattle.bench_model.specs.Looks.{task_look, look_in}
use Rattle.bench_model.specs.Sound.{IsStamped, IsWait, IsEventWait, WakesInTime, IsCaller, IsConsistent, IsSound, IsWaitOf}
use Rattle.bench_model.specs.Start.{start, start_seen}
use Rattle.bench_model.specs.Session.{step_of}
use Rattle.bench_model.specs.Equal.{Same}

-- the start of a checked header is sound
abbrev pub StartIsSound : Type 0
StartIsSound = (header : Header) → header_check header ≡ Ok tt → IsSound (start header)

-- the start sets no flag
abbrev pub StartAsksNone : Type 0
StartAsksNone =
    (header : Header) (core : ℕ) → core < header.config.cores
    → is_due (start header).control core ≡ false

-- every checked step keeps a table sound
abbrev pub StepKeepsSound : Type 0
StepKeepsSound =
    (table : Table) (step : Step) → IsSound table → IsCheckedStep table.settings step
    → IsSound (step_of step table).1

-- a switch of a core always finds a task
abbrev pub SwitchFindsTask : Type 0
SwitchFindsTask =
    (table : Table) (core : ℕ) → IsConsistent table → core < table.settings.cores
    → IsSome (selected stamp_queues core table)

-- a step exchanges the current task of its own core at most: a tick's is core 0
abbrev pub StepSeatsItsCore : Type 0
StepSeatsItsCore =
    (table : Table) (step : Step) → IsSound table → IsCheckedStep table.settings step →
    let later = (step_of step table).1.control in
    running later ≡ slice_set (running table.control) (core_of step) (current later (core_of step))

-- seen as lists, the start of a table is the start over lists
abbrev pub StartSimulates : Type 0
StartSimulates =
    (header : Header) → header_check header ≡ Ok tt → view_of (start header) ≡ start_seen header

-- seen as lists, a step of a table is the step over lists, with the same reply
abbrev pub StepSimulates : Type 0
StepSimulates =
    (table : Table) (step : Step) → IsSound table → IsCheckedStep table.settings step
    → seen_of (step_of step table) ≡ after list_queues step (view_of table)

-- equal tables give equal replies and are equal after every step
abbrev pub EqualStaysEqual : Type 0
EqualStaysEqual =
    (a b : Table) (step : Step) → IsSound a → IsSound b → Same a b → IsCheckedStep a.settings step →
    ((step_of step a).0 ≡ (step_of step b).0) × Same (step_of step a).1 (step_of step b).1

-- the words of the contracts above: each move over lists is the move of the table, seen

abbrev pub ReadySimulates : Type 0
ReadySimulates =
    (control : Control) (stamps : Stamps) (task : ℕ) → IsStamped stamps
    → task < length stamps.rows →
    seen.is_ready task (lists_of control stamps) ≡ is_ready task stamps

-- what the lists of a table show of a task is what the table shows of it
abbrev pub LookSimulates : Type 0
LookSimulates =
    (table : Table) (task : ℕ) → IsConsistent table → task < table.settings.tasks
    → look_in (view_of table) task ≡ task_look table task

abbrev pub ReadyAtEndSimulates : Type 0
ReadyAtEndSimulates =
    (control : Control) (stamps : Stamps) (task : ℕ) → IsStamped stamps
    → task < length stamps.rows →
    lists_of control (add_to_ready_list task stamps)
    ≡ seen.add_to_ready_list control task (lists_of control stamps)

abbrev pub PickSimulates : Type 0
PickSimulates =
    (control : Control) (core : ℕ) (stamps : Stamps) → IsStamped stamps
    → seen.pick control core (lists_of control stamps) ≡ pick control core stamps

abbrev pub DelaySimulates : Type 0
DelaySimulates =
    (control : Control) (stamps : Stamps) (task : ℕ) (ticks : Option ℕ) (wait : Option EventWait)
    → IsStamped stamps → task < length stamps.rows → is_ready task stamps ≡ true →
    lists_of control (delay task ticks wait stamps)
    ≡ seen.delay task ticks wait (lists_of control stamps)

abbrev pub TickSimulates : Type 0
TickSimulates = (control : Control) (stamps : Stamps) → WakesInTime stamps →
    (lists_of control (advance stamps) ≡ seen.advance (lists_of control stamps))
    × (seen.due (lists_of control (advance stamps)) ≡ due (advance stamps))

abbrev pub WokenSimulates : Type 0
WokenSimulates =
    (table : Table) (tasks : List ℕ) → IsStamped table.orders
    → AllByRecursion (λ task. task < length table.orders.rows) tasks →
    view_of (woken stamp_queues tasks table) ≡ woken list_queues tasks (view_of table)

-- asking a core changes no order
abbrev pub CoresAreApart : Type 0
CoresAreApart =
    (control : Control) (acting core : ℕ) (stamps : Stamps)
    → lists_of (ask acting core control) stamps ≡ lists_of control stamps

abbrev pub SwitchSimulates : Type 0
SwitchSimulates =
    (table : Table) (core : ℕ) → IsConsistent table → core < table.settings.cores
    → view_of (after_select stamp_queues core table) ≡ after_select list_queues core (view_of table)

abbrev pub BlockSimulates : Type 0
BlockSimulates =
    (table : Table) (core task : ℕ) (call : Unfinished) (ticks : Option ℕ) (wait : Option EventWait)
    → IsConsistent table → IsCaller table core task →
    view_of (blocked stamp_queues core task call ticks wait table)
    ≡ blocked list_queues core task call ticks wait (view_of table)

-- a user task that a call blocks leaves a consistent table consistent
abbrev pub BlockKeepsConsistent : Type 0
BlockKeepsConsistent =
    (table : Table) (core task : ℕ) (call : Unfinished) (ticks : Option ℕ) (wait : Option EventWait)
    → IsConsistent table → IsCaller table core task →
    IsCheckedUnfinished table.settings call → table.settings.cores ≤ task → IsWait ticks
    → IfSome wait (IsEventWait table.settings) →
    IsWaitOf table.settings call ticks wait
    → IsConsistent (blocked stamp_queues core task call ticks wait table)
