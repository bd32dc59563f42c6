use Rattle.std.proofs.Common.{arith}
use Rattle.std.proofs.lemmas.Grind.{common_steps}
use Rattle.report_pages.proofs.PieceTexts.{line_texts}
use Rattle.report_pages.proofs.responses.push_line.Goals as goal

pub returns : goal.returns
returns c = rw (line_texts c.args.interval c.args.all c.args.count) (grind (arith, common_steps))
