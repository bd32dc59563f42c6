use Rattle.std.proofs.Common.{◌≡◌, drop}
use Rattle.workload_runs.specs.Rule.{least}
use Rattle.simulating.specs.Simulations.{waits_from}
use Rattle.simulating.proofs.next.least_wait.Given as goal

-- the least of those from here on is that of all
abbrev pub invariant-loop-arrival : goal.invariant-loop-arrival
invariant-loop-arrival l =
    least l.least (waits_from l.time (drop l.arrival-index l.arrivals)) ≡ least l.bound (waits_from l.time l.arrivals)
