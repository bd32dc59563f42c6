use Rattle.std.proofs.Common.{arith}
use Rattle.std.proofs.lemmas.Grind.{common_steps}
use Rattle.report_pages.proofs.PieceTexts.{histogram_texts}
use Rattle.report_pages.proofs.responses.push_table.Goals as goal

pub returns : goal.returns
returns c = rw (histogram_texts c.args.title.now c.args.name.now c.args.all c.args.histogram.now) (grind (arith, common_steps))
