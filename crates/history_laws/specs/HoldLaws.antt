-- The laws of what an open hold keeps out, and of the room that it needs until it is closed. Each
-- is a clause of a public function.
use Rattle.bench_types.specs.Step.{core_of}
use Rattle.std.specs.Prelude.{◌≡◌, ◌≢◌, ◌↔◌, ℕ, suc, ◌+◌, ◌≤◌, List, length, true, None}
use Rattle.bench_types.specs.declared.entry.Entry.{Entry}
use Rattle.bench_types.specs.declared.header.Header.{Header}
use Rattle.bench_types.specs.declared.reply.Refusal.TheVariants.{Held}
use Rattle.bench_types.specs.declared.reply.Reply.TheVariants.{Done, Refused}
use Rattle.bench_types.specs.declared.step.Step.{Step}
use Rattle.bench_types.specs.declared.step.Step.TheVariants.{Call}
use Rattle.bench_types.specs.declared.step.Call.TheVariants.{HoldClose}
use Rattle.bench_model.specs.Control.{current}
use Rattle.bench_model.specs.History.{is_kept_out, free_places, places_of, IsByCurrent}
use Rattle.bench_model.specs.Holds.{is_held_by, depth_of, depth_by, hold_closed}
use Rattle.bench_model.specs.Session.{step_of}
use Rattle.bench_model.specs.Sound.{IsSound}
use Rattle.bench_model.specs.Start.{start}
use Rattle.bench_model.specs.Table.{Table}

-- a step is answered E1 just where a hold keeps it out
abbrev pub HeldIsKeptOut : Type 0
HeldIsKeptOut =
    (table : Table) (step : Step)
    → ((step_of step table).0 ≡ Refused Held ↔ is_kept_out table.hold step ≡ true)

-- at the start no core holds the kernel
abbrev pub StartHoldsNothing : Type 0
StartHoldsNothing = (header : Header) → (start header).hold ≡ None

-- no step opens or closes a hold for another core
abbrev pub OthersKeepDepth : Type 0
OthersKeepDepth =
    (table : Table) (step : Step) (core : ℕ) → IsSound table → core ≢ core_of step →
    depth_by core (step_of step table).1.hold ≡ depth_by core table.hold

-- a step that there are places for leaves room for its entry, and for the calls that close what is
-- held after it
abbrev pub StepFitsRoom : Type 0
StepFitsRoom =
    (limit : ℕ) (entries : List Entry) (table : Table) (step : Step) → IsSound table
    → IsByCurrent table.control step → length entries + depth_of table.hold ≤ limit
    → places_of table.hold step ≤ free_places limit entries table.hold →
    suc (length entries) + depth_of (step_of step table).1.hold ≤ limit

-- the current task of the core that holds the kernel always closes the hold
abbrev pub CloseIsDone : Type 0
CloseIsDone =
    (table : Table) (core task : ℕ) → IsSound table → is_held_by core table.hold ≡ true
    → current table.control core ≡ task →
    step_of (Call core task HoldClose) table ≡ (Done, hold_closed core table)
