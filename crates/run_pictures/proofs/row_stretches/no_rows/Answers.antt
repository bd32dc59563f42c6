use Rattle.run_pictures.proofs.RowStretches.{one_row}
use Rattle.run_pictures.proofs.row_stretches.no_rows.Goals as goal

pub loop-preserved : goal.loop-preserved
loop-preserved c = one_row c.loop.counter c.loop.rows.items c.push.new.self.items c.new.result c.loop.invariant c.in_ok-push.ensures.items c.new.ensures
