use Rattle.session_runs.proofs.Goes.{began}
use Rattle.session_runs.proofs.outcomes.Outcomes.begin.Goals as goal

pub returns-clause-made : goal.returns-clause-made
returns-clause-made c header stands settings =
    began header c.args.kernel.now _ stands settings c.in_ok-first.ensures c.in_ok-each.ensures.items c.in_ok-tallies.ensures.tallies
    c.in_ok-tallies.ensures.shape c.in_ok-tallies.ensures.tops
