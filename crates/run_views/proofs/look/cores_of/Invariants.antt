use Rattle.bench_model.specs.Control.{core_at}
use Rattle.run_views.proofs.Shown.{AreShown}
use Rattle.run_views.proofs.look.cores_of.Given as goal

abbrev pub invariant-loop-core : goal.invariant-loop-core
invariant-loop-core l = AreShown l.kernel (λ table. core_at table.control) l.cores.items l.core
