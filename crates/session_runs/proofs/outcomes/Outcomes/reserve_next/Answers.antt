use Rattle.std.proofs.Common.{refl}
use Rattle.session_runs.proofs.Goes.{same_made}
use Rattle.session_runs.proofs.outcomes.Outcomes.reserve_next.Goals as goal

pub returns-clause-made : goal.returns-clause-made
returns-clause-made c header steps kernel made = same_made header steps kernel c.args.self.now _ refl c.reserve.ensures.items refl made
