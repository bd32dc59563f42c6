use Rattle.run_comparisons.proofs.Moved.{moved_stand_together, rows_are_of_one}
use Rattle.run_comparisons.proofs.laws.laws_of_edited_rows.Goals as goal

pub returns : goal.returns
returns c = record {
  moved = moved_stand_together;
  one = rows_are_of_one;
}
