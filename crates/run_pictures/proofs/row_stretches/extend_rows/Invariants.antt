use Rattle.run_pictures.specs.RowStretches.{empty_row}
use Rattle.run_pictures.proofs.Numbered.{IsSetTo}
use Rattle.run_pictures.proofs.RowStretches.{with_place}
use Rattle.run_pictures.proofs.row_stretches.extend_rows.Given as goal

abbrev pub invariant-loop-user : goal.invariant-loop-user
invariant-loop-user l = IsSetTo (with_place l.place l.look l.cores l.fn.rows.items) empty_row l.fn.rows.items l.user l.rows.items
