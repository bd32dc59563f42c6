use Rattle.std.proofs.Common.{◌≡◌}
use Rattle.core_loads.specs.Loads.{times_of_task}
use Rattle.core_loads.proofs.loads.times_of_task.Given as goal

abbrev pub invariant-loop-core : goal.invariant-loop-core
invariant-loop-core l = l.times.items ≡ times_of_task l.figures l.core l.task
