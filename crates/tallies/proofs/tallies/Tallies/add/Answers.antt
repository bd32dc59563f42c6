use Rattle.std.proofs.Common.{ap, ◌∙◌}
use Rattle.bench_model.specs.Tallied.{shape}
use Rattle.session_laws.proofs.Shapes.{added_shape}
use Rattle.tallies.proofs.tallies.Tallies.add.Goals as goal

pub returns-clause-kept : goal.returns-clause-kept
returns-clause-kept c = ap shape c.add.ensures ∙ added_shape c.self.inside.tasks c.other.inside.tasks ∙ ap shape c.self.view_is
