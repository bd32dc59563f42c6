use Rattle.std.proofs.Common.{arith, ap, length}
use Rattle.bench_types.proofs.Passes.{few_queues}
use Rattle.bench_types.proofs.header.Header.queue_count.Goals as goal

pub overflow_cast-result : goal.overflow_cast-result
overflow_cast-result c =
    omega (arith, few_queues c.args.self.now _ c.requires c.in-Some.is, ap length c.as_slice.ensures)
