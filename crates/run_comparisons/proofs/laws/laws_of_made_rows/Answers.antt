use Rattle.run_comparisons.proofs.AlikeRows.{alike_are_not_apart, rows_are_alike}
use Rattle.run_comparisons.proofs.MadePairs.{moments_stand_together, shared_stand_together}
use Rattle.run_comparisons.proofs.OnePair.{settled_pair_is_one, simulated_pair_is_one}
use Rattle.run_comparisons.proofs.laws.laws_of_made_rows.Goals as goal

pub returns : goal.returns
returns c = record {
  shared = shared_stand_together;
  moments = moments_stand_together;
  alike = rows_are_alike;
  apart = alike_are_not_apart;
  settled = settled_pair_is_one;
  simulated = simulated_pair_is_one;
}
