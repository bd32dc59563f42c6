use Rattle.std.proofs.Common.{◌∙◌, arith}
use Rattle.tallies.proofs.Begins.{firsts_more}
use Rattle.tallies.proofs.counts.first_counts.Goals as goal

pub loop-task-preserved : goal.loop-task-preserved
loop-task-preserved c = record {
  counts = c.push_reserved.ensures.items ∙ firsts_more c.args.kernel.now.control c.loop-task.task c.loop-task.counts.items c.no_counts.result c.in_use.result
      c.loop-task.invariant.counts c.no_counts.ensures c.in_use.ensures;
  len = omega (arith, c.push_reserved.ensures.len, c.loop-task.invariant.len);
  room = omega (arith, c.push_reserved.ensures.capacity, c.loop-task.invariant.room);
}
