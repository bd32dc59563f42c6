use Rattle.std.proofs.Common.{ap, subst, sym, ◌∙◌}
use Rattle.bench_types.specs.Session.{IsCheckedSession, Session}
use Rattle.session_runs.specs.Made.{AreOutcomesOf}
use Rattle.session_runs.proofs.making.RunMaker.finish.Goals as goal

pub of_parts-requires-clause-session : goal.of_parts-requires-clause-session
of_parts-requires-clause-session c = subst IsCheckedSession (sym c.in-Some.ensures.session) c.self.invariant.0

pub of_parts-requires-clause-outcomes : goal.of_parts-requires-clause-outcomes
of_parts-requires-clause-outcomes c =
    subst (λ (session : Session). AreOutcomesOf session.header session.steps c.self.inside.outcomes) (sym c.in-Some.ensures.session) c.self.invariant.1.outcomes_are
