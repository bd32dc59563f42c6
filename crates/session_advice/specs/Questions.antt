-- What is asked of advice, and what it tells.
use Rattle.std.specs.Prelude.{ℕ, List}
use Rattle.ranked_changes.specs.declared.change.Family.{Family}
use Rattle.session_advice.specs.declared.question.AdviceStatus.{AdviceStatus}

-- the name of a figure, the changes that are tried, and how many of the best are told
pub record Asked : Type 0 where
  pub name : List ℕ
  pub family : Family
  pub best : ℕ

-- how advice ends, and what is told
pub record Printed : Type 0 where
  pub status : AdviceStatus
  pub text : List ℕ
