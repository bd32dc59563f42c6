use Rattle.tallies.proofs.Runs.{IsRunTo}
use Rattle.tallies.proofs.tallies.add_runs.Given as goal

abbrev pub invariant-loop-core : goal.invariant-loop-core
invariant-loop-core l = IsRunTo l.kernel.control l.fn.tasks l.core l.tasks
