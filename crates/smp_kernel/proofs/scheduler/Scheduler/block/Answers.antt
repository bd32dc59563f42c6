use Rattle.std.proofs.Common.{None, ap, ◌∙◌}
use Rattle.bench_types.specs.declared.step.Unfinished.TheVariants.{Made}
use Rattle.bench_model.specs.Lists.{list_queues}
use Rattle.bench_model.specs.State.{blocked}
use Rattle.smp_kernel.proofs.Blocks.{block_seen, block_shape}
use Rattle.smp_kernel.proofs.scheduler.Scheduler.block.Goals as goal

pub invariant_of-self : goal.invariant_of-self
invariant_of-self c = rw (c.set.ensures, c.delay_for.ensures, c.unready.ensures, c.ask.ensures)
    (block_shape _ c.self.invariant c.args.core c.args.task (Made c.args.call) c.args.ticks None)

pub returns : goal.returns
returns c =
    rw (c.set.ensures, c.delay_for.ensures, c.unready.ensures, c.ask.ensures)
    (block_seen _ c.self.invariant c.args.core c.args.task (Made c.args.call) c.args.ticks None ∙ ap
    (blocked list_queues c.args.core c.args.task (Made c.args.call) c.args.ticks None) c.self.view_is)
