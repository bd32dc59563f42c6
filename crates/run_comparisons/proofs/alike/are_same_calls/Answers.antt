use Rattle.std.proofs.Common.{◌∙◌}
use Rattle.run_comparisons.proofs.SameSteps.{same_calls}
use Rattle.run_comparisons.proofs.alike.are_same_calls.Goals as goal

pub returns : goal.returns
returns c = c.eq.ensures ∙ same_calls c.args.call c.args.other
