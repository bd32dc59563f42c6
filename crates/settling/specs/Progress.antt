-- How far a session was settled.
use Rattle.std.specs.Prelude.{◌≡◌, ℕ, ◌≤◌, List, ◌++◌, ◌∷◌, [], length, drop, None}
use Rattle.bench_types.specs.declared.step.Step.{Step}
use Rattle.bench_types.specs.Limits.{max_steps}
use Rattle.bench_types.specs.Session.{IsCheckedSession, Session}
use Rattle.bench_types.specs.Step.{settings_of}
use Rattle.bench_model.specs.Session.{state_after}
use Rattle.bench_model.specs.Sound.{IsSound}
use Rattle.bench_model.specs.Start.{start}
use Rattle.bench_model.specs.Table.{Table}
use Rattle.settled_runs.specs.declared.waiting_call.WaitingCall.{WaitingCall}
use Rattle.settled_runs.specs.Settled.{events_of, quiet_step}
use Rattle.smp_kernel.specs.Counting.{meter_after}
use Rattle.settling.specs.declared.run.Settling.{Settling}
use Rattle.settling.specs.Places.{waiting_at, AreQueues}
use Rattle.settling.specs.Ways.{IsOnTheWay}

-- the calls that wait
abbrev pub waiting_in : Session → Settling → List WaitingCall
waiting_in session settling =
    waiting_at settling.queues.heads.items session.steps settling.come

-- the step is the last one of the run
abbrev pub with_step : Step → Settling → Settling
with_step step settling =
    record settling {
      run = record settling.run { steps = settling.run.steps ++ step ∷ [] };
    }

-- the table after the steps of the run is on the way of the settled run of the session, with the
-- steps that have not come before it
pub record IsAt (session : Session) (settling : Settling) : Type 0 where
  pub session_is : IsCheckedSession session
  pub same_header : settling.run.header ≡ session.header
  pub table : Table
  pub state : table ≡ state_after (start settling.run.header) settling.run.steps
  pub sound : IsSound table
  pub settings : table.settings ≡ settings_of session.header
  pub queues :
      AreQueues session.steps settling.come table.settings.tasks settling.queues.heads.items
      settling.queues.next.items
  pub way :
      IsOnTheWay session.header session.steps table (waiting_in session settling)
      (events_of (drop settling.come session.steps)) settling.run.steps
  pub room : length settling.run.steps ≤ max_steps

-- there, and there is no quiet work to do
pub record IsResting (session : Session) (settling : Settling) : Type 0 where
  pub here : IsAt session settling
  pub rests : quiet_step here.table (waiting_in session settling) ≡ None

-- the meter counted the steps of the run, from a first count on
abbrev pub HasCounted : ℕ → ℕ → Settling → Type 0
HasCounted first count settling = count ≡ meter_after (length settling.run.steps) first
