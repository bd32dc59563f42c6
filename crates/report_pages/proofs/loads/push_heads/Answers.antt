use Rattle.std.proofs.Common.{arith}
use Rattle.std.proofs.lemmas.Grind.{common_steps}
use Rattle.report_pages.proofs.PieceTexts.{heads_texts}
use Rattle.report_pages.proofs.loads.push_heads.Goals as goal

pub returns : goal.returns
returns c = rw (heads_texts c.args.cores c.args.title.now) (grind (arith, common_steps))
