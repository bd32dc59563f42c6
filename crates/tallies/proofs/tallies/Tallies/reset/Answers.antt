use Rattle.std.proofs.Common.{ap, subst, sym, ◌∙◌}
use Rattle.bench_model.specs.Tallied.{shape, AllCountsBelow}
use Rattle.tallies.proofs.Rooms.{first_shape, first_room}
use Rattle.tallies.specs.Tops.{HasTops}
use Rattle.tallies.proofs.Tops.{initial_tops}
use Rattle.tallies.proofs.tallies.Tallies.reset.Goals as goal

pub returns-clause-shape : goal.returns-clause-shape
returns-clause-shape c = ap shape c.reset.ensures ∙ first_shape c.args.kernel.now.settings c.args.kernel.now.control

pub returns-clause-room : goal.returns-clause-room
returns-clause-room c = subst (AllCountsBelow 1) (sym c.reset.ensures) (first_room c.args.kernel.now.settings c.args.kernel.now.control)

pub returns-clause-tops : goal.returns-clause-tops
returns-clause-tops c = subst (HasTops c.args.kernel.now.control) (sym c.reset.ensures) (initial_tops c.args.kernel.now.settings c.args.kernel.now.control)
