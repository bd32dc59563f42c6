use Rattle.run_comparisons.proofs.KnownRows.{known_is_told_once}
use Rattle.run_comparisons.proofs.ShownRows.{all_known_is_not_told}
use Rattle.run_comparisons.proofs.laws.laws_of_known_rows.Goals as goal

pub returns : goal.returns
returns c = record { alone = all_known_is_not_told; once = known_is_told_once }
