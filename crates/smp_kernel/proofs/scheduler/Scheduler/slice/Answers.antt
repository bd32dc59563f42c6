use Rattle.std.proofs.Common.{ap, ◌∙◌}
use Rattle.bench_model.specs.Lists.{list_queues}
use Rattle.bench_model.specs.Seek.{sliced}
use Rattle.smp_kernel.proofs.CoreMoves.{slice_seen, slice_shape}
use Rattle.smp_kernel.proofs.scheduler.Scheduler.slice.Goals as goal

pub invariant_of-self : goal.invariant_of-self
invariant_of-self c = rw c.slice.ensures (slice_shape _ c.self.invariant)

pub returns : goal.returns
returns c = rw c.slice.ensures (slice_seen _ c.self.invariant ∙ ap (sliced list_queues) c.self.view_is)
