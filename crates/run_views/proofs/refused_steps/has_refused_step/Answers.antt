use Rattle.std.specs.Prelude.{IsTrue, ◌↔◌}
use Rattle.bench_model.specs.Start.{start}
use Rattle.run_views.specs.RefusedSteps.{HasRefusedStep}
use Rattle.run_views.proofs.Refusing.{session_printed}
use Rattle.run_views.proofs.Sessions.{same_session}
use Rattle.run_views.proofs.refused_steps.has_refused_step.Goals as goal

pub returns-in-Ok : goal.returns-in-Ok
returns-in-Ok c =
    let header = c.header.result.now in
    let found = c.refuses_one.result in
    same_session (λ header steps. IsTrue found ↔ HasRefusedStep header steps) c.header.ensures.header c.steps.ensures.steps
    (session_printed header c.steps.result.now found (c.refuses_one.ensures (start header) c.in-Ok.ensures.started))
