-- Runs that are too long to be shown.
use Rattle.std.specs.Prelude.{◌≡◌, ◌⊎◌, ℕ, List, [], ◌∷◌, Option, ⊤}
use Rattle.program_io.specs.Outputs.{Printed}
use Rattle.kept_sessions.specs.Runs.{IsKeptTooLong}
use Rattle.run_sources.specs.declared.source.Source.{Source}
use Rattle.run_sources.specs.declared.source.Source.TheVariants as source
use Rattle.run_sources.specs.Sources.{IsSourceTooLong}
use Rattle.settled_runs.specs.Runs.{IsSettledTooLong}
use Rattle.simulating.specs.Callers.{IsTooLongBy}
use Rattle.task_programs.specs.declared.workload.Workload.{Workload}
use Rattle.view_commands.specs.declared.fault.ShowFault.{ShowFault}
use Rattle.view_commands.specs.declared.fault.ShowFault.TheVariants.{TooLong, NoMemory}
use Rattle.view_commands.specs.Refusals.{kept_too_long, settled_too_long, simulated_too_long}

-- the run of the workload is too long, and it is told which task alone makes its last calls
pub record IsToldOfWorkload (workload : Workload) (refusal : Printed) : Type 0 where
  pub caller : Option ℕ
  pub is_long : IsTooLongBy workload caller
  pub is_told : refusal ≡ simulated_too_long workload.header caller

-- J2: the run of the source is too long, and this is told; that of a session as its steps stand is
-- not
abbrev pub IsToldTooLong : Source → Printed → Type 0
IsToldTooLong (source.Session session) refusal = ⊥
IsToldTooLong (source.Settled session) refusal =
    IsSettledTooLong session × (refusal ≡ settled_too_long)
IsToldTooLong (source.Workload workload) refusal = IsToldOfWorkload workload refusal
IsToldTooLong (source.Kept made order) refusal =
    IsKeptTooLong order made × (refusal ≡ kept_too_long)

-- the same of the first of the sources whose run is too long
abbrev pub IsFirstTooLong : List Source → Printed → Type 0
IsFirstTooLong [] refusal = ⊥
IsFirstTooLong (source ∷ sources) refusal =
    IsToldTooLong source refusal ⊎ ((¬ IsSourceTooLong source) × IsFirstTooLong sources refusal)

-- ---- on the way

-- the fault is true of the source
abbrev pub IsFaultOf : Source → ShowFault → Type 0
IsFaultOf source (TooLong refusal) = IsToldTooLong source refusal
IsFaultOf source NoMemory = ⊤

-- of the first of the sources whose run is too long
abbrev pub IsFaultOfFirst : List Source → ShowFault → Type 0
IsFaultOfFirst sources (TooLong refusal) = IsFirstTooLong sources refusal
IsFaultOfFirst sources NoMemory = ⊤
