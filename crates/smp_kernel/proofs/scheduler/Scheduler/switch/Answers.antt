use Rattle.std.proofs.Common.{ap, ◌∙◌}
use Rattle.bench_model.specs.Lists.{list_queues}
use Rattle.bench_model.specs.Seek.{after_switch}
use Rattle.smp_kernel.proofs.CoreMoves.{turn_seen, turn_shape}
use Rattle.smp_kernel.proofs.scheduler.Scheduler.switch.Goals as goal

pub invariant_of-self : goal.invariant_of-self
invariant_of-self c = rw c.select.ensures (turn_shape _ c.self.invariant c.args.core)

pub returns : goal.returns
returns c = rw c.select.ensures (turn_seen _ c.self.invariant c.args.core ∙ ap (after_switch list_queues c.args.core) c.self.view_is)
