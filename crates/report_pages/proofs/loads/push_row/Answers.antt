use Rattle.std.proofs.Common.{arith}
use Rattle.std.proofs.lemmas.Grind.{common_steps}
use Rattle.report_pages.proofs.PieceTexts.{row_texts}
use Rattle.report_pages.proofs.loads.push_row.Goals as goal

pub returns : goal.returns
returns c = rw (row_texts c.args.run c.args.times.now c.args.name.now) (grind (arith, common_steps))
