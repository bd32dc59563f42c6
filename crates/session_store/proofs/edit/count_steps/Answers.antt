use Rattle.std.proofs.Common.{arith}
use Rattle.session_store.proofs.EditShown.{counted_fits, counted_segment}
use Rattle.session_store.proofs.edit.count_steps.Goals as goal

pub overflow_add-count : goal.overflow_add-count
overflow_add-count g c =
    let few = counted_fits c.args.segments.now c.loop-segment.segment-index c.loop-segment.count c.segment-item.result c.steps.result.now
    c.loop-segment-test.true c.segment-item.is c.steps.ensures.steps c.requires c.loop-segment.invariant in
    omega (arith, few)

pub loop-segment-preserved : goal.loop-segment-preserved
loop-segment-preserved g c = counted_segment c.args.segments.now c.loop-segment.segment-index c.loop-segment.count c.segment-item.result c.steps.result.now
    c.loop-segment-test.true c.segment-item.is c.steps.ensures.steps c.loop-segment.invariant
