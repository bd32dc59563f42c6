use Rattle.std.proofs.Common.{[], refl}
use Rattle.ranked_changes.proofs.judge.plain_verdict.Goals as goal

pub returns-clause-verdict : goal.returns-clause-verdict
returns-clause-verdict c = (record { session = c.args.session.now; left = [] }, refl, c.steps.ensures.checked.few, c.in_ok-number.ensures.number)

pub returns-clause-meter : goal.returns-clause-meter
returns-clause-meter c = (record { session = c.args.session.now; left = [] }, refl, c.in_ok-number.ensures.meter)
