use Rattle.run_comparisons.proofs.KeptComings.{comings_are_moments}
use Rattle.run_comparisons.proofs.MadePairs.{further_stand_together, kept_stand_together}
use Rattle.run_comparisons.proofs.OnePair.{kept_pair_is_one}
use Rattle.run_comparisons.proofs.WithItself.{kept_alone_is_with_itself}
use Rattle.run_comparisons.proofs.laws.laws_of_kept_rows.Goals as goal

pub returns : goal.returns
returns c = record {
  shared = kept_stand_together;
  further = further_stand_together;
  one = kept_pair_is_one;
  alone = kept_alone_is_with_itself;
  comings = comings_are_moments;
}
