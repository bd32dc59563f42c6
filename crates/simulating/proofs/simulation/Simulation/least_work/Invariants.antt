use Rattle.std.proofs.Common.{◌≡◌, ◌-◌, ◌<◌, nat_lt, length, map}
use Rattle.std.specs.List.{filter, range_with_len}
use Rattle.workload_runs.specs.Rule.{least, works_left}
use Rattle.simulating.specs.Simulations.{left_of, now_in}
use Rattle.simulating.proofs.simulation.Simulation.least_work.Given as goal

-- the least of those from here on is that of all
abbrev pub invariant-loop-user : goal.invariant-loop-user
invariant-loop-user l =
    let now = now_in l.workload l.self in
    least l.least (filter (nat_lt 0) (map (left_of now.table now.courses) (range_with_len l.user (length now.courses - l.user))))
    ≡ least l.bound (works_left now)
