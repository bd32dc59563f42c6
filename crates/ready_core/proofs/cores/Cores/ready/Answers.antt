use Rattle.std.proofs.Common.{◌∙◌, ap, sym}
use Rattle.std.specs.Prelude.{is_some}
use Rattle.list_orders.specs.Search.{has}
use Rattle.bench_model.specs.Cores.{CoresView}
use Rattle.ready_core.proofs.ReadyLists.{ready_listed}
use Rattle.ready_core.proofs.cores.Cores.ready.Goals as goal

pub returns : goal.returns
returns c =
    c.is_some.ensures ∙ ap is_some c.list_of.ensures.list ∙ sym (ready_listed c.self.inside.lists c.args.task c.self.inside.priorities
    c.self.invariant.shape.each)
    ∙ ap (λ (v : CoresView). has c.args.task v.ready) c.self.view_is
