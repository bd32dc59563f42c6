use Rattle.std.proofs.Common.{◌≡◌, subst, sym, ◌∙◌}
use Rattle.bench_model.specs.Tally.{tallies}
use Rattle.session_laws.proofs.Tallies.{stepwise}
use Rattle.session_runs.specs.Run.{RunView}
use Rattle.session_runs.proofs.run.Run.tallies.Goals as goal

pub returns : goal.returns
returns c =
    let inside = c.self.inside in
    subst (λ (v : RunView). inside.outcomes.tallies ≡ tallies v.session.header v.session.steps) c.self.view_is
    (c.self.invariant.2.replayed.tallies_are ∙ sym (stepwise inside.session.header inside.session.steps))
