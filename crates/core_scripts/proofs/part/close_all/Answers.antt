use Rattle.core_scripts.proofs.Closes.{closed_more, closed_none, deep, lower}
use Rattle.core_scripts.proofs.part.close_all.Goals as goal

pub loop-seat-init : goal.loop-seat-init
loop-seat-init g c = closed_none c.args.seat.now

pub loop-seat-preserved : goal.loop-seat-preserved
loop-seat-preserved g c =
    let called = c.call-closed in
    closed_more c.loop-seat.seat called.new.self called.result called.ensures.answered
    (deep c.depth.result c.loop-seat.seat c.depth.ensures c.loop-seat-test.true) c.args.seat.now c.loop-seat.invariant

pub loop-seat-smaller : goal.loop-seat-smaller
loop-seat-smaller g c =
    let called = c.call-closed in
    lower c.loop-seat.seat called.new.self called.result called.ensures.answered
    (deep c.depth.result c.loop-seat.seat c.depth.ensures c.loop-seat-test.true)
