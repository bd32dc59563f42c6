-- How far a settled run was made.
use Rattle.std.specs.Prelude.{◌≡◌, List, ◌++◌}
use Rattle.bench_types.specs.declared.header.Header.{Header}
use Rattle.bench_types.specs.declared.step.Step.{Step}
use Rattle.bench_model.specs.Table.{Table}
use Rattle.settled_runs.specs.declared.waiting_call.WaitingCall.{WaitingCall}
use Rattle.settled_runs.specs.Settled.{IsSettledFrom, IsSettled}

-- the run is the first part of the settled run, which goes on from the table, with these calls
-- waiting and these events to come
pub record IsOnTheWay (header : Header) (session : List Step) (table : Table)
    (waiting : List WaitingCall) (events run : List Step) : Type 0 where
  pub forward :
      (rest : List Step) (left : List WaitingCall) → IsSettledFrom table waiting events rest left
      → IsSettled header session (run ++ rest) left
  pub backward :
      (whole : List Step) (left : List WaitingCall) → IsSettled header session whole left →
      (rest : List Step) × (whole ≡ run ++ rest) × IsSettledFrom table waiting events rest left
