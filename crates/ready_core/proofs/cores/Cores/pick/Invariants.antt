use Rattle.bench_model.specs.Control.{may_select}
use Rattle.ready_core.proofs.Picks.{IsLeft}
use Rattle.ready_core.proofs.cores.Cores.pick.Given as goal

abbrev pub invariant-loop-list : goal.invariant-loop-list
invariant-loop-list l = IsLeft l.self (may_select l.self.control l.core) l._list l.rest
