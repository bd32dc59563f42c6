use Rattle.std.proofs.Common.{arith}
use Rattle.std.proofs.lemmas.Grind.{common_steps}
use Rattle.report_pages.proofs.PieceTexts.{count_texts}
use Rattle.report_pages.proofs.responses.push_count.Goals as goal

pub returns : goal.returns
returns c = rw (count_texts c.args.all c.args.count) (grind (arith, common_steps))
