use Rattle.tallies.specs.Counting.{IsLowest}
use Rattle.tallies.proofs.found.lowest_current.Given as goal

abbrev pub invariant-loop-core : goal.invariant-loop-core
invariant-loop-core l = IsLowest l.fn.kernel.control l.core l.lowest
