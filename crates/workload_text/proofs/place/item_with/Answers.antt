use Rattle.std.proofs.Common.{length, sym, ◌∙◌}
use Rattle.workload_text.proofs.Places.{item_on}
use Rattle.workload_text.proofs.place.item_with.Goals as goal

pub loop-place-preserved : goal.loop-place-preserved
loop-place-preserved c =
    sym (item_on c.args.program.now c.args.index (length c.args.program.now) c.loop-place.place c.loop-place.first c.end_at-end.result c.loop-place-test.true
    c.end_at-end.ensures c.if-index-end.false)
    ∙ c.loop-place.invariant
