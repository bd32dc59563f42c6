-- Runs: the steps that are made, and the calls that were not.
use Rattle.std.specs.Prelude.{◌≡◌, List, [], Bool, true, false}
use Rattle.bench_types.specs.Session.{Session}
use Rattle.settled_runs.specs.declared.waiting_call.WaitingCall.{WaitingCall}
use Rattle.settled_runs.specs.Settled.{IsSettled}

-- a session whose steps are made, and the calls that were not made
pub record RunView : Type 0 where
  pub session : Session
  pub left : List WaitingCall

-- the run is that of the session: as its steps stand, or settled
abbrev pub IsRunOf : Bool → Session → RunView → Type 0
IsRunOf false session run = run ≡ record { session = session; left = [] }
IsRunOf true session run =
    (run.session.header ≡ session.header)
    × IsSettled session.header session.steps run.session.steps run.left
