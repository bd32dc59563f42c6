use Rattle.std.proofs.Common.{◌∙◌, sym}
use Rattle.run_comparisons.proofs.SameSteps.{same_steps}
use Rattle.run_comparisons.proofs.made.is_same_step.Goals as goal

pub returns : goal.returns
returns c same = same_steps c.args.step c.args.other (sym c.eq.ensures ∙ same)
