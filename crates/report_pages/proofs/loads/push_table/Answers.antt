use Rattle.std.proofs.Common.{arith}
use Rattle.std.proofs.lemmas.Grind.{common_steps}
use Rattle.report_pages.proofs.PieceTexts.{table_texts}
use Rattle.report_pages.proofs.loads.push_table.Goals as goal

pub returns : goal.returns
returns c = rw (table_texts c.args.header.now c.args.figures.now c.args.title.now) (grind (arith, common_steps))
