use Rattle.std.proofs.Common.{◌≡◌, ◌-◌}
use Rattle.std.specs.List.{filter_map, find, range_with_len}
use Rattle.settled_runs.specs.Settled.{is_timely}
use Rattle.workload_runs.specs.Rule.{call_on, next_calls}
use Rattle.simulating.specs.Simulations.{now_in}
use Rattle.simulating.proofs.simulation.Simulation.program_call.Given as goal

-- no core so far has one
abbrev pub invariant-loop-core : goal.invariant-loop-core
invariant-loop-core l =
    let now = now_in l.workload l.self in
    find (is_timely now.table) (filter_map (call_on l.workload now) (range_with_len l.core (now.table.settings.cores - l.core)))
    ≡ find (is_timely now.table) (next_calls l.workload now)
