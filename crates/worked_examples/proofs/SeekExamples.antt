-- The worked choices, computed on the definitions.
use Rattle.std.proofs.Common.{ℕ}
use Rattle.bench_model.specs.Seek.{core_to_yield, seek, wake, after_eviction, after_switch, sliced}
use Rattle.worked_examples.specs.SeekExamples.{AskedCores, SoughtCores, WorkedChoices}
use Rattle.worked_examples.proofs.Examples.{computed}

-- whoever names this computes with the search, seeking and time slices too
unfoldable chosen : ℕ
unfolding computed core_to_yield seek wake after_eviction after_switch sliced
chosen = 0

pub asked : AskedCores
unfolding chosen
asked = assumption

pub sought : SoughtCores
unfolding chosen
sought = assumption

pub choices : WorkedChoices
unfolding chosen
choices = assumption
