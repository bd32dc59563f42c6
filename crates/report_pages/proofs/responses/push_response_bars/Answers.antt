use Rattle.std.proofs.Common.{arith}
use Rattle.std.proofs.lemmas.Grind.{common_steps}
use Rattle.report_pages.proofs.PieceTexts.{response_texts}
use Rattle.report_pages.proofs.responses.push_response_bars.Goals as goal

pub returns : goal.returns
returns c = rw (response_texts c.args.header.now c.args.responses.now c.args.title.now) (grind (arith, common_steps))
