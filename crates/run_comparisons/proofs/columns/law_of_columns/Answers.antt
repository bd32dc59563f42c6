use Rattle.run_comparisons.proofs.ColumnsOf.{column_is_row}
use Rattle.run_comparisons.proofs.columns.law_of_columns.Goals as goal

pub returns : goal.returns
returns c = column_is_row
