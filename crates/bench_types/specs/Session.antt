-- Sessions.
use Rattle.std.specs.Prelude.{◌≤◌, List, All, length}
use Rattle.bench_types.specs.declared.header.Header.{Header}
use Rattle.bench_types.specs.declared.step.Step.{Step}
use Rattle.bench_types.specs.Header.{IsCheckedHeader}
use Rattle.bench_types.specs.Limits.{max_steps}
use Rattle.bench_types.specs.Step.{settings_of, IsCheckedStep}

-- what a run starts from, and what is done in it
pub record Session : Type 0 where
  pub header : Header
  pub steps : List Step

-- the header was checked, and each step under it
pub record IsSession (session : Session) : Type 0 where
  pub header : IsCheckedHeader session.header
  pub steps : All (IsCheckedStep (settings_of session.header)) session.steps

-- and there are no more steps than a session may have
pub record IsCheckedSession (session : Session) : Type 0 where
  pub checked : IsSession session
  pub few : length session.steps ≤ max_steps
