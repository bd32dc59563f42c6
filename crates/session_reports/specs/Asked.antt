-- What is asked of a check, and what it tells.
use Rattle.std.specs.Prelude.{ℕ, List}
use Rattle.report_figures.specs.declared.limits.Bound.{Bound}
use Rattle.session_reports.specs.declared.limits.CheckStatus.{CheckStatus}

-- the name of a figure, and what its value may be
pub record Asked : Type 0 where
  pub name : List ℕ
  pub bound : Bound

-- how a check ends, and what is told of it
pub record Printed : Type 0 where
  pub status : CheckStatus
  pub text : List ℕ
