-- Clocks of which the numbers are small enough that time goes on.
use Rattle.std.specs.Prelude.{ℕ, ◌<◌, ◌^◌, List, length}
use Rattle.kept_runs.specs.declared.clocks.Clock.{Clock}
use Rattle.keeping.specs.Works.{clock_at}

abbrev pub IsSmall : Clock → Type 0
IsSmall clock = (clock.units < 2 ^ 63) × (clock.later < 2 ^ 63)

abbrev pub AreSmall : List Clock → Type 0
AreSmall worked = (task : ℕ) → task < length worked → IsSmall (clock_at worked task)
