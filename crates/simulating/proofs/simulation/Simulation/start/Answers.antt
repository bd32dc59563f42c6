use Rattle.std.proofs.Common.{◌∙◌, ap, subst}
use Rattle.bench_types.specs.declared.header.Header.{Header}
use Rattle.bench_types.specs.Step.{settings_of}
use Rattle.bench_model.specs.Equal.{StandsFor}
use Rattle.bench_model.specs.Start.{start}
use Rattle.simulating.proofs.Making.{at_start}
use Rattle.simulating.proofs.simulation.Simulation.start.Goals as goal

pub returns-clause-here : goal.returns-clause-here
returns-clause-here c =
    at_start c.args.workload.now _ c.header.ensures.checked
    (subst (λ (header : Header). StandsFor c.in-Ok.kernel (start header)) c.header.ensures.header c.in-Ok.ensures.started)
    (c.in-Ok.ensures.shape ∙ ap settings_of c.header.ensures.header) c.in_ok-start.ensures c.new.ensures.items
