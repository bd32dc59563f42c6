use Rattle.run_comparisons.proofs.MadePairs.{each_stands}
use Rattle.run_comparisons.proofs.NoDifference.{no_difference_is_said}
use Rattle.run_comparisons.proofs.WithItself.{alone_is_with_itself}
use Rattle.run_comparisons.proofs.laws.laws_of_rows.Goals as goal

pub returns : goal.returns
returns c = record {
  each = each_stands;
  said = no_difference_is_said;
  alone = alone_is_with_itself;
}
