-- Whether something is refused.
use Rattle.std.specs.Prelude.{◌≢◌, ◌⊎◌, ℕ, List, []}
use Rattle.session_runs.specs.Run.{RunView}
use Rattle.run_views.specs.RefusedSteps.{HasRefusedStep}

-- some edit is refused, or the kernel refuses a step of the run
abbrev pub HasRefusal : RunView → List ℕ → Type 0
HasRefusal run refused = (refused ≢ []) ⊎ HasRefusedStep run.session.header run.session.steps
