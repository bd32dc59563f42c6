use Rattle.std.proofs.Common.{◌<◌, length, get_or, None, arith}
use Rattle.std.proofs.lemmas.List.{get_or_default}
use Rattle.std.proofs.lemmas.List.Edits.{map_over_more}
use Rattle.smp_kernel.specs.Deadlines.{left_after}
use Rattle.smp_kernel.proofs.deadlines.count_anew.Goals as goal

pub loop-end-preserved : goal.loop-end-preserved
loop-end-preserved c =
    let items = c.loop-end.end-items in
    let i = c.loop-end.end-index in
    let low : i < length items = omega (arith, c.loop-end-test.true, c.loop-end.auto.end-items) in
    rw c.left_after.ensures (map_over_more (left_after c.args.passed) c.args.ends.now items i (get_or items i None) c.loop-end-test.true c.loop-end.invariant
    (get_or_default items i None (get_or items i None) low))
