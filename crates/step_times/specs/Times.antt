-- How much time steps take.
use Rattle.std.specs.Prelude.{ℕ, ◌==◌, List, slice_get, if◌then◌else◌}
use Rattle.std.specs.Option.{option_map_or}
use Rattle.bench_types.specs.declared.step.Step.{Step}
use Rattle.bench_types.specs.declared.step.Step.TheVariants.{Tick, Pass}

-- The units of time that a step takes: those of a pass; one of a tick that has one unit; none of
-- any other. Where a tick has one unit, no session has a pass.
abbrev pub time_of : ℕ → Step → ℕ
time_of units Tick = if units == 1 then 1 else 0
time_of units (Pass passed) = if units == 1 then 0 else passed
time_of units step = 0

-- the time that the step at the place takes, none past the last
abbrev pub time_at : ℕ → List Step → ℕ → ℕ
time_at units steps place = option_map_or (time_of units) (slice_get steps place) 0
