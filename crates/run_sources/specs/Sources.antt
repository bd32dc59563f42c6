-- Sources, and their runs.
use Rattle.std.specs.Prelude.{◌≡◌, ℕ, ◌+◌, ◌*◌, List, [], length, true, false, ⊤}
use Rattle.bench_types.specs.declared.header.Header.{Header}
use Rattle.bench_types.specs.declared.step.Step.{Step}
use Rattle.bench_types.specs.Limits.{max_steps}
use Rattle.bench_types.specs.Session.{IsCheckedSession}
use Rattle.session_runs.specs.Run.{IsRunOf, RunView}
use Rattle.settled_runs.specs.Runs.{IsSettledTooLong}
use Rattle.simulating.specs.declared.run.SimulateFault.{SimulateFault}
use Rattle.simulating.specs.declared.run.SimulateFault.TheVariants as simulating
use Rattle.simulating.specs.Callers.{IsTooLongBy}
use Rattle.task_programs.specs.declared.workload.Workload.{Workload}
use Rattle.task_programs.specs.Workloads.{IsCheckedWorkload}
use Rattle.workload_runs.specs.Rule.{IsTooLong}
use Rattle.workload_runs.specs.Rule.{IsRunOf as IsRunOfWorkload}
use Rattle.smp_kernel.specs.Counting.{meter_after}
use Rattle.kept_runs.specs.Items.{edited_session}
use Rattle.kept_sessions.specs.Runs.{IsKeptCount, IsKeptRunOf, IsKeptTooLong}
use Rattle.run_sources.specs.declared.fault.RunFault.{RunFault}
use Rattle.run_sources.specs.declared.fault.RunFault.TheVariants.{SettledTooLong, SimulatedTooLong, KeptTooLong, NoMemory}
use Rattle.run_sources.specs.declared.source.Source.{Source}
use Rattle.run_sources.specs.declared.source.Source.TheVariants as source

-- what the run starts from
abbrev pub header_of : Source → Header
header_of (source.Session session) = session.header
header_of (source.Settled session) = session.header
header_of (source.Workload workload) = workload.header
header_of (source.Kept made order) = (edited_session made.session made.edits).header

-- The steps whose order counts. Calls of a workload, and of a run that keeps work, come when their
-- tasks have worked for them.
abbrev pub steps_of : Source → List Step
steps_of (source.Session session) = session.steps
steps_of (source.Settled session) = session.steps
steps_of (source.Workload workload) = []
steps_of (source.Kept made order) = []

-- the session or the workload passed its checks
abbrev pub IsCheckedSource : Source → Type 0
IsCheckedSource (source.Session session) = IsCheckedSession session
IsCheckedSource (source.Settled session) = IsCheckedSession session
IsCheckedSource (source.Workload workload) = IsCheckedWorkload workload
IsCheckedSource (source.Kept made order) =
    IsCheckedSession made.session × IsCheckedSession (edited_session made.session made.edits)

-- ---- runs

-- the run of the workload, each call of which is made
pub record IsSimulated (workload : Workload) (run : RunView) : Type 0 where
  pub header : run.session.header ≡ workload.header
  pub steps : IsRunOfWorkload workload run.session.steps
  pub left : run.left ≡ []

-- the run of the source: the session as its steps stand, its settled run, that of the workload, or
-- that of the session with edits that keeps work
abbrev pub IsRunOfSource : Source → RunView → Type 0
IsRunOfSource (source.Session session) run = IsRunOf false session run
IsRunOfSource (source.Settled session) run = IsRunOf true session run
IsRunOfSource (source.Workload workload) run = IsSimulated workload run
IsRunOfSource (source.Kept made order) run = IsKeptRunOf order made run

-- the run has more steps than a session may have, or it never ends; that of a session as its steps
-- stand has not
abbrev pub IsSourceTooLong : Source → Type 0
IsSourceTooLong (source.Session session) = ⊥
IsSourceTooLong (source.Settled session) = IsSettledTooLong session
IsSourceTooLong (source.Workload workload) = IsTooLong workload
IsSourceTooLong (source.Kept made order) = IsKeptTooLong order made

-- ---- making a run

-- the fault is true of the source
abbrev pub IsFaultOf : Source → RunFault → Type 0
IsFaultOf (source.Settled session) SettledTooLong = IsSettledTooLong session
IsFaultOf (source.Workload workload) (SimulatedTooLong caller) = IsTooLongBy workload caller
IsFaultOf (source.Kept made order) KeptTooLong = IsKeptTooLong order made
IsFaultOf source NoMemory = ⊤
IsFaultOf source fault = ⊥

-- why a workload was not simulated, as a fault of a source
abbrev pub fault_of : SimulateFault → RunFault
fault_of (simulating.TooManySteps caller) = SimulatedTooLong caller
fault_of simulating.NoMemory = NoMemory

-- at most so many steps the kernel makes where no run is made in the end
abbrev pub most_of : Source → ℕ
most_of (source.Kept made order) = 3 * max_steps
most_of source = max_steps

-- the kernel made the steps of the run, and those of a workload twice; for a run that keeps work
-- those of the settled run of the session before the edits, too, unless that is the run
abbrev pub IsCounted : Source → RunView → ℕ → ℕ → Type 0
IsCounted (source.Kept made order) run old new = IsKeptCount order made run old new
IsCounted (source.Workload workload) run old new =
    new ≡ meter_after (length run.session.steps + length run.session.steps) old
IsCounted source run old new = new ≡ meter_after (length run.session.steps) old
