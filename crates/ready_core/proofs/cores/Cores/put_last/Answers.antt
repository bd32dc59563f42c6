use Rattle.std.proofs.Common.{◌∙◌, List, ℕ, sym, ap}
use Rattle.list_orders.specs.Search.{placed}
use Rattle.bench_model.specs.Cores.{CoresView}
use Rattle.bench_model.specs.Lists.{outranks}
use Rattle.ready_core.proofs.ReadyLists.{without_absent}
use Rattle.ready_core.proofs.cores.Cores.put_last.Goals as goal

pub returns-else-ready : goal.returns-else-ready
returns-else-ready c =
    c.push.ensures ∙ ap (λ (ready : List ℕ). let view : CoresView = record c.args.self.now
    { ready = placed (outranks c.args.self.now.control) c.args.task ready } in view)
    (sym (without_absent c.args.task c.args.self.now.ready (sym c.ready.ensures ∙ c.if-ready.false)))
