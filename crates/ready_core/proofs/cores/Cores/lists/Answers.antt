use Rattle.std.proofs.Common.{◌∙◌, ap, sym, arith}
use Rattle.bench_model.specs.Cores.{CoresView}
use Rattle.ready_core.specs.Fields.{control_from, ready_list}
use Rattle.ready_core.proofs.ReadyLists.{ready_of}
use Rattle.ready_core.proofs.cores.Cores.lists.Goals as goal

pub returns-clause-lists : goal.returns-clause-lists
returns-clause-lists c = λ p low.
    let view = c.self.view_is in
    let control = control_from c.self.inside.cores.items c.self.inside.tasks.items in
    sym (ready_of control c.self.inside.lists.lists p c.self.inside.priorities c.self.invariant.shape.at_home
    (omega (arith, low, ap (λ (v : CoresView). v.priorities) view)))
    ∙ ap (ready_list p) view
