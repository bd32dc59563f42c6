-- The worked pieces of quiet work, computed on the definitions.
use Rattle.settled_runs.specs.Settled.{is_open, is_timely, quiet_step}
use Rattle.worked_examples.specs.SettledExamples.{WorkedQuietWork}
use Rattle.worked_examples.proofs.Examples.{computed}

pub quiet_work : WorkedQuietWork
unfolding computed is_open is_timely quiet_step
quiet_work = assumption
