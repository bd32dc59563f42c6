-- The run of a workload, as it is given.
use Rattle.std.specs.Prelude.{Bool, List}
use Rattle.bench_types.specs.Session.{Session}

pub record SimulatedView : Type 0 where
  -- its session
  pub session : Session
  -- of each user task, in the order of the header, whether it is at the end of its program
  pub at_end : List Bool
