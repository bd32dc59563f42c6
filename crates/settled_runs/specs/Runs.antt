-- The settled run of a session, and sessions of which it is too long.
use Rattle.std.specs.Prelude.{◌<◌, List, length, Bool, true, false}
use Rattle.bench_types.specs.declared.step.Step.{Step}
use Rattle.bench_types.specs.Limits.{max_steps}
use Rattle.bench_types.specs.Session.{Session}
use Rattle.settled_runs.specs.declared.waiting_call.WaitingCall.{WaitingCall}
use Rattle.settled_runs.specs.Settled.{IsSettled}

-- a settled run of the session, and the calls that were not made
pub record SettledRun (session : Session) : Type 0 where
  pub run : List Step
  pub left : List WaitingCall
  pub settled : IsSettled session.header session.steps run left

-- every settled run of the session has more steps than a session may have
abbrev pub IsSettledTooLong : Session → Type 0
IsSettledTooLong session = (settled : SettledRun session) → max_steps < length settled.run

-- The run of the session, settled or as its steps stand, has more steps than a session may have;
-- of a checked session the one as its steps stand never has.
abbrev pub IsTooLong : Bool → Session → Type 0
IsTooLong true session = IsSettledTooLong session
IsTooLong false session = ⊥
