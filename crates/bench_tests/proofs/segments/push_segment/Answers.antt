use Rattle.bench_model.specs.Session.{state_after}
use Rattle.bench_tests.proofs.segments.push_segment.Goals as goal

pub returns-clause-stands : goal.returns-clause-stands
returns-clause-stands c =
    let before = c.requires.stands in
    (state_after before.0 c.args.steps.now, c.in_ok-segment.ensures.state before.0 before.1)
