use Rattle.std.proofs.Common.{◌∙◌}
use Rattle.run_comparisons.proofs.MadePairs.{paired_within}
use Rattle.run_comparisons.proofs.side_by_side.simulated_rows.Goals as goal

pub side_by_side-requires-clause-within : goal.side_by_side-requires-clause-within
side_by_side-requires-clause-within c = paired_within _ _ _ (c.as_slice.ensures.value ∙ c.in_ok-events.ensures)
