use Rattle.std.proofs.Common.{ap, ◌∙◌}
use Rattle.bench_model.specs.Seek.{effective}
use Rattle.tallies.proofs.TickFinds.{one_core_more}
use Rattle.tallies.proofs.found.lowest_current.Goals as goal

pub loop-core-preserved : goal.loop-core-preserved
loop-core-preserved c =
    let control = c.args.kernel.now.control in
    one_core_more control c.loop-core.core c.loop-core.lowest c.effective.result c.min-lowest.result c.loop-core.invariant
    (c.effective.ensures ∙ ap (effective control) c.running-in-loop-core.ensures.seen) c.min-lowest.ensures
