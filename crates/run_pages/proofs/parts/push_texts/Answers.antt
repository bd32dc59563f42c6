use Rattle.std.proofs.Common.{arith}
use Rattle.std.proofs.lemmas.Grind.{common_steps}
use Rattle.run_pages.proofs.PageTexts.{middle_texts}
use Rattle.run_pages.proofs.parts.push_texts.Goals as goal

pub returns : goal.returns
returns c = rw (middle_texts c.args.parts.now) (grind (arith, common_steps))
