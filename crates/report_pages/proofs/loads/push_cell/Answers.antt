use Rattle.std.proofs.Common.{arith}
use Rattle.std.proofs.lemmas.Grind.{common_steps}
use Rattle.report_pages.proofs.PieceTexts.{cell_texts}
use Rattle.report_pages.proofs.loads.push_cell.Goals as goal

pub returns : goal.returns
returns c = rw (cell_texts c.args.tenths) (grind (arith, common_steps))
