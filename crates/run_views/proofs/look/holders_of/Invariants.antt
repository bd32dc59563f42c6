use Rattle.bench_model.specs.State.{holder_at}
use Rattle.run_views.proofs.Shown.{AreShown}
use Rattle.run_views.proofs.look.holders_of.Given as goal

abbrev pub invariant-loop-mutex : goal.invariant-loop-mutex
invariant-loop-mutex l = AreShown l.kernel (λ table. holder_at table.holders) l.holders.items l.mutex
