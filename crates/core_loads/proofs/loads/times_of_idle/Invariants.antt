use Rattle.std.proofs.Common.{◌≡◌}
use Rattle.core_loads.specs.Loads.{times_of_idle}
use Rattle.core_loads.proofs.loads.times_of_idle.Given as goal

abbrev pub invariant-loop-core : goal.invariant-loop-core
invariant-loop-core l = l.times.items ≡ times_of_idle l.figures l.core
