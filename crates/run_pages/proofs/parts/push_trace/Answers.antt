use Rattle.std.proofs.Common.{arith}
use Rattle.std.proofs.lemmas.Grind.{common_steps}
use Rattle.run_pages.proofs.PageTexts.{trace_texts}
use Rattle.run_pages.proofs.parts.push_trace.Goals as goal

pub returns : goal.returns
returns c = rw (trace_texts c.args.first _) (grind (arith, common_steps))
