-- The run of a session with edits that keeps work.
use Rattle.std.specs.Prelude.{◌≡◌, ◌⊎◌, ◌<◌, ◌≤◌, ◌+◌, ◌==◌, ℕ, Bool, true, false, List, length, Option}
use Rattle.bench_types.specs.declared.step.Step.{Step}
use Rattle.bench_types.specs.Limits.{max_steps}
use Rattle.session_runs.specs.Run.{IsRunOf, RunView}
use Rattle.settled_runs.specs.declared.waiting_call.WaitingCall.{WaitingCall}
use Rattle.settled_runs.specs.Runs.{IsSettledTooLong}
use Rattle.kept_runs.specs.declared.call_order.CallOrder.{CallOrder}
use Rattle.kept_runs.specs.declared.call_order.CallOrder.TheVariants.{Oldest, LeastCore}
use Rattle.kept_runs.specs.Items.{edited_session}
use Rattle.kept_runs.specs.declared.known_limit.KnownLimit.{KnownLimit}
use Rattle.kept_runs.specs.Known.{known_until}
use Rattle.kept_runs.specs.Rule.{first_progress, IsKept, IsRunFrom}
use Rattle.keeping.specs.declared.run.Kept.{Kept}
use Rattle.keeping.specs.Ends.{first_end}
use Rattle.smp_kernel.specs.Counting.{meter_after}
use Rattle.kept_sessions.specs.Sessions.{KeptView}

-- The run that keeps work, and the calls that were not made. The settled run of the session before
-- the edits, by which calls have their works, is one that a session may have.
pub record IsKeptRunOf (order : CallOrder) (made : KeptView) (run : RunView) : Type 0 where
  pub header : run.session.header ≡ (edited_session made.session made.edits).header
  pub kept : IsKept order made.session made.edits run.session.steps run.left
  pub room : length kept.settled ≤ max_steps

-- the run that keeps work has more steps than a session may have, or the settled run of the session
-- before the edits has
abbrev pub IsKeptTooLong : CallOrder → KeptView → Type 0
IsKeptTooLong order made =
    IsSettledTooLong made.session
    ⊎ ((run : List Step) (left : List WaitingCall)
    → IsKept order made.session made.edits run left → max_steps < length run)

-- the kernel made as many steps as belong to the settled run of the session before the edits, and
-- to the run
pub record IsCountBy (steps : ℕ → ℕ → ℕ) (made : KeptView) (run : RunView) (old new : ℕ) :
    Type 0 where
  pub settled : RunView
  pub is_settled : IsRunOf true made.session settled
  pub few : length settled.session.steps ≤ max_steps
  pub is : new
      ≡ meter_after (steps (length settled.session.steps) (length run.session.steps)) old

-- there are no edits, and the oldest call comes first: so the run is the settled one
abbrev pub is_settled_one : CallOrder → KeptView → Bool
is_settled_one Oldest made = length made.edits == 0
is_settled_one LeastCore made = false

-- those of the settled run twice, and those of the run; those of the first alone where it is both
abbrev pub steps_made : Bool → ℕ → ℕ → ℕ
steps_made true settled run = settled
steps_made false settled run = settled + settled + run

abbrev pub IsKeptCount : CallOrder → KeptView → RunView → ℕ → ℕ → Type 0
IsKeptCount order made run old new =
    IsCountBy (steps_made (is_settled_one order made)) made run old new

-- the same, and up to where the run is known
pub record IsKnownRunOf (order : CallOrder) (made : KeptView) (run : RunView)
    (limit : Option KnownLimit) : Type 0 where
  pub run_is : IsKeptRunOf order made run
  pub known : limit
      ≡ known_until order made.session made.edits run_is.kept.settled run.session.steps

-- then those of both once more
abbrev pub steps_known : Bool → ℕ → ℕ → ℕ
steps_known true settled run = settled
steps_known false settled run = settled + settled + run + (settled + run)

abbrev pub IsKnownCount : CallOrder → KeptView → RunView → ℕ → ℕ → Type 0
IsKnownCount order made run old new =
    IsCountBy (steps_known (is_settled_one order made)) made run old new

-- the settled run of the session before the edits, and the run that keeps work with its first end
pub record AreRunsOf (order : CallOrder) (made : KeptView) (settled : RunView) (kept : Kept)
    : Type 0 where
  pub is_settled : IsRunOf true made.session settled
  pub few : length settled.session.steps ≤ max_steps
  pub header : kept.run.session.header ≡ (edited_session made.session made.edits).header
  pub is_run : IsRunFrom (first_progress order made.session made.edits settled.session.steps)
      kept.run.session.steps kept.run.left
  pub end : kept.end
      ≡ first_end (first_progress order made.session made.edits settled.session.steps)
      kept.run.session.steps
