use Rattle.std.proofs.Common.{arith}
use Rattle.std.proofs.lemmas.List.Sums.{prefix_len-le-length}
use Rattle.bench_types.specs.declared.kernel_data.Waiter.{Waiter}
use Rattle.bench_model.specs.Waiters.{waits_first}
use Rattle.slow_replay.proofs.slow.mutexes.with_waiter.Goals as goal

pub insert-requires : goal.insert-requires
insert-requires c = omega (
  arith,
  prefix_len-le-length (λ (other : Waiter). waits_first other c.args.waiter) c.args.waiters.now,
  c.place_of.ensures,
  c.in_ok-all.ensures.len,
)
