-- What is asked for of a trace.
use Rattle.std.specs.Prelude.{ℕ, List}
use Rattle.run_views.specs.declared.places.Places.{Places}

-- which part
pub record Selected : Type 0 where
  pub places : Places
  -- names of tasks
  pub tasks : List (List ℕ)
  -- numbers of cores
  pub cores : List ℕ
