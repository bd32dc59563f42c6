use Rattle.std.proofs.Common.{arith}
use Rattle.std.proofs.lemmas.Grind.{common_steps}
use Rattle.report_pages.proofs.PieceTexts.{run_texts}
use Rattle.report_pages.proofs.report.push_run_report.Goals as goal

pub returns : goal.returns
returns c = rw (run_texts c.args.header.now c.args.run.now) (grind (arith, common_steps))
