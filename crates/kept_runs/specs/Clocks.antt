-- How long tasks work. A task works at a place where it is on a core and has no unfinished call.
use Rattle.std.specs.Prelude.{ℕ, suc, ◌+◌, ◌-◌, ◌==◌, Bool, ◌&&◌, ◌||◌, nat_lt, List, [], ◌∷◌, take, if◌then◌else◌}
use Rattle.bench_types.specs.declared.header.Header.{Header}
use Rattle.bench_types.specs.declared.step.Step.{Step}
use Rattle.bench_model.specs.Session.{step_of}
use Rattle.bench_model.specs.Start.{start}
use Rattle.bench_model.specs.Table.{Table}
use Rattle.settled_runs.specs.SettleLaws.{comes_from_outside}
use Rattle.step_times.specs.Times.{time_of}
use Rattle.workload_runs.specs.Situations.{is_working}
use Rattle.kept_runs.specs.declared.clocks.Clock.{Clock}

-- of each task its clock
abbrev pub Clocks : Type 0
Clocks = ℕ → Clock

abbrev pub zero_clock : Clock
zero_clock = record { units = 0; later = 0 }

-- a step from outside, which takes so much time, found the task at work
abbrev pub clock_after : ℕ → Clock → Clock
clock_after time clock =
    if time == 0 then record clock { later = suc clock.later }
    else record { units = clock.units + time; later = 0 }

-- the first clock says less than the second: units count before all else
unfoldable pub is_before : Clock → Clock → Bool
is_before one other =
    nat_lt one.units other.units || ((one.units == other.units) && nat_lt one.later other.later)

-- the one of two clocks that says more
abbrev pub later_clock : Clock → Clock → Clock
later_clock one other = if is_before one other then other else one

-- what elapsed from one clock to another; nothing to one that says no more
unfoldable pub elapsed : Clock → Clock → Clock
elapsed from to =
    if nat_lt from.units to.units
    then record { units = to.units - from.units; later = to.later }
    else (if from.units == to.units
    then record { units = 0; later = to.later - from.later }
    else zero_clock)

-- ---- the clocks of a run

-- after a step: one from outside counts for each task that works
abbrev pub clocks_after : Step → Table → Clocks → Clocks
clocks_after step table clocks task =
    if comes_from_outside step && is_working table task
    then clock_after (time_of table.settings.units step) (clocks task)
    else clocks task

-- after steps from a table on
abbrev pub clocks_along : Table → Clocks → List Step → Clocks
clocks_along table clocks [] = clocks
clocks_along table clocks (step ∷ steps) =
    clocks_along (step_of step table).1 (clocks_after step table clocks) steps

-- at a place of a run: after so many of its steps
abbrev pub clocks_at : Header → List Step → ℕ → Clocks
clocks_at header run place = clocks_along (start header) (λ task. zero_clock) (take place run)
