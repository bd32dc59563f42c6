-- A place of a run.
use Rattle.std.specs.Prelude.{◌≡◌, ℕ, ◌<◌, ◌≤◌, ◌*◌, ◌^◌, List, length}
use Rattle.bench_types.specs.declared.header.Header.{Header}
use Rattle.bench_types.specs.declared.step.Step.{Step}
use Rattle.bench_types.specs.Limits.{max_steps}
use Rattle.bench_types.specs.Step.{settings_of, IsCheckedStep}
use Rattle.bench_model.specs.Equal.{StandsFor}
use Rattle.bench_model.specs.Session.{state_after}
use Rattle.bench_model.specs.Start.{start}
use Rattle.kept_runs.specs.declared.clocks.Clock.{Clock}
use Rattle.kept_runs.specs.Clocks.{clocks_along, zero_clock}
use Rattle.kept_works.specs.declared.walk.Walk.{Walk}
use Rattle.keeping.specs.Works.{clock_at}

-- no more went by than so many steps can take
pub record IsShort (count : ℕ) (clock : Clock) : Type 0 where
  pub units : clock.units ≤ count * 2 ^ 32
  pub later : clock.later ≤ count

-- these steps of the header were made
pub record IsAt (header : Header) (made : List Step) (walk : Walk) : Type 0 where
  pub stands : StandsFor walk.kernel (state_after (start header) made)
  pub settings : walk.kernel.settings ≡ settings_of header
  pub many : length walk.worked.items ≡ (settings_of header).tasks
  pub clocks :
      (task : ℕ) → task < (settings_of header).tasks
      → clock_at walk.worked.items task
      ≡ clocks_along (start header) (λ other. zero_clock) made task
  pub short : (task : ℕ) → IsShort (length made) (clock_at walk.worked.items task)

-- the step may be made there
pub record IsOnTheWay (step : Step) (walk : Walk) : Type 0 where
  pub header : Header
  pub made : List Step
  pub at : IsAt header made walk
  pub room : length made < max_steps
  pub checked : IsCheckedStep walk.kernel.settings step
