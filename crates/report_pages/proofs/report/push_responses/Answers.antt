use Rattle.std.proofs.Common.{arith}
use Rattle.std.proofs.lemmas.Grind.{common_steps}
use Rattle.report_pages.proofs.PieceTexts.{responses_texts}
use Rattle.report_pages.proofs.report.push_responses.Goals as goal

pub returns : goal.returns
returns c = rw (responses_texts c.args.header.now c.args.before.now c.args.after.now) (grind (arith, common_steps))
