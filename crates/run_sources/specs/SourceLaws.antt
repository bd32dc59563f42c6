-- The laws of sources. Each is a clause of a public function.
use Rattle.std.specs.Prelude.{◌≡◌, ◌⊎◌, ◌<◌, ◌≤◌, length}
use Rattle.bench_types.specs.Limits.{max_steps}
use Rattle.bench_types.specs.Session.{IsSession}
use Rattle.session_runs.specs.Run.{RunView}
use Rattle.run_sources.specs.declared.fault.RunFault.{RunFault}
use Rattle.run_sources.specs.declared.fault.RunFault.TheVariants.{NoMemory}
use Rattle.run_sources.specs.declared.source.Source.{Source}
use Rattle.run_sources.specs.Sources.{header_of, IsCheckedSource, IsFaultOf, IsRunOfSource, IsSourceTooLong}

-- a source has one run at most
abbrev pub RunOfSourceIsOne : Type 0
RunOfSourceIsOne =
    (source : Source) (run other : RunView) → IsRunOfSource source run
    → IsRunOfSource source other → run ≡ other

-- each source has a run that a session may have, or is too long
abbrev pub ThereIsARunOfSource : Type 0
ThereIsARunOfSource =
    (source : Source) → IsCheckedSource source →
    ((run : RunView) × IsRunOfSource source run × (length run.session.steps ≤ max_steps))
    ⊎ IsSourceTooLong source

-- and not both
abbrev pub TooLongIsLonger : Type 0
TooLongIsLonger =
    (source : Source) (run : RunView) → IsSourceTooLong source → IsRunOfSource source run →
    max_steps < length run.session.steps

-- the steps of the run are steps of a session of the source's header
abbrev pub RunOfSourceIsSession : Type 0
RunOfSourceIsSession =
    (source : Source) (run : RunView) → IsCheckedSource source → IsRunOfSource source run →
    (run.session.header ≡ header_of source) × IsSession run.session

-- a fault but that no memory is left says that the source is too long
abbrev pub FaultsAreTrue : Type 0
FaultsAreTrue =
    (source : Source) (fault : RunFault) → IsFaultOf source fault → ¬ (fault ≡ NoMemory) →
    IsSourceTooLong source
