use Rattle.std.proofs.Common.{arith}
use Rattle.std.proofs.lemmas.Grind.{common_steps}
use Rattle.run_pages.proofs.PageTexts.{links_are}
use Rattle.run_pages.proofs.parts.push_links.Goals as goal

pub returns : goal.returns
returns c = rw (links_are c.args.first _) (grind (arith, common_steps))
