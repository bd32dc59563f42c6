use Rattle.std.proofs.Common.{subst, codes}
use Rattle.session_text.specs.Array.{list_at}
use Rattle.session_text.specs.Node.{data_of, location_of}
use Rattle.session_text.specs.ReadingRules.{Gives}
use Rattle.session_text.specs.Step.{step_at}
use Rattle.session_text.proofs.session.steps_at.Goals as goal

pub returns : goal.returns
returns c = subst (λ names. Gives (λ steps. steps.items) c.list_at.result
    (list_at (step_at c.args.format names) (location_of c.args.node.now) (codes "steps") (data_of c.args.node.now))) c.in_ok-names.ensures c.list_at.ensures
