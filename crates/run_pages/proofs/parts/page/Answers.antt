use Rattle.std.proofs.Common.{arith}
use Rattle.std.proofs.lemmas.Grind.{common_steps}
use Rattle.run_pages.proofs.PageTexts.{page_texts}
use Rattle.run_pages.proofs.parts.page.Goals as goal

pub returns : goal.returns
returns c = rw (page_texts c.args.parts.now) (grind (arith, common_steps))
