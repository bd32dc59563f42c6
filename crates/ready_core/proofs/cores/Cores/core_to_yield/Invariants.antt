use Rattle.bench_model.specs.Cores.{has_core}
use Rattle.ready_core.proofs.Asks.{IsBestBelow}
use Rattle.ready_core.proofs.cores.Cores.core_to_yield.Given as goal

abbrev pub invariant-loop-core : goal.invariant-loop-core
invariant-loop-core l = IsBestBelow l.self.control l.task (has_core l.among) l.core l.best
