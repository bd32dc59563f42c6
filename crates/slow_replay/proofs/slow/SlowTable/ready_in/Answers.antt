use Rattle.std.proofs.Common.{arith}
use Rattle.slow_replay.proofs.SlowSlices.{counted_more, stands_in}
use Rattle.slow_replay.proofs.slow.SlowTable.ready_in.Goals.{then-stands_in, else-stands_in}
use Rattle.slow_replay.proofs.slow.SlowTable.ready_in.Goals as goal

pub loop-task-preserved : goal.loop-task-preserved
loop-task-preserved c =
    let more = counted_more (stands_in c.args.self.now c.args.priority) c.loop-task.task in
    elim c.if-stands_in.branch [
      | then-stands_in w ↦ (
        grind (arith, more, w.ready-is, w.if-stands_in, c.stands_in.ensures, c.loop-task.invariant),
        grind
            (arith, w.ready-is, c.loop-task.invariant),
      )
      | else-stands_in w ↦ (
        grind (arith, more, w.ready-is, w.if-stands_in, c.stands_in.ensures, c.loop-task.invariant),
        grind
            (arith, w.ready-is, c.loop-task.invariant),
      )
    ]
