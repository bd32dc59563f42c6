use Rattle.std.proofs.Common.{◌<◌, ◌∙◌, ap, arith, length, subst, sym}
use Rattle.std.specs.Prelude.{slice_get}
use Rattle.list_orders.specs.Listings.{IsListing}
use Rattle.bench_model.specs.Cores.{CoresView}
use Rattle.ready_core.specs.Fields.{control_from, ready_list}
use Rattle.ready_core.proofs.ReadyLists.{row_at, ready_of}
use Rattle.ready_core.proofs.Walks.{first_get}
use Rattle.ready_core.proofs.cores.Cores.first_ready.Goals as goal

pub returns-clause-first : goal.returns-clause-first
returns-clause-first c =
    let view = c.self.view_is in
    let control = control_from c.self.inside.cores.items c.self.inside.tasks.items in
    let lists = c.self.inside.lists.lists in
    let p = c.args.priority in
    let low : p < c.self.inside.priorities = omega (arith, c.requires, ap (λ (v : CoresView). v.priorities) view) in
    let shown = ready_of control lists p c.self.inside.priorities c.self.invariant.shape.at_home low in
    c.first.ensures.first ∙ first_get (row_at lists p) ∙ ap (λ xs. slice_get xs 0) (sym shown) ∙ ap (λ (v : CoresView). slice_get (ready_list p v) 0) view

pub returns-clause-once : goal.returns-clause-once
returns-clause-once c =
    let view = c.self.view_is in
    let control = control_from c.self.inside.cores.items c.self.inside.tasks.items in
    let lists = c.self.inside.lists.lists in
    let p = c.args.priority in
    let low : p < c.self.inside.priorities = omega (arith, c.requires, ap (λ (v : CoresView). v.priorities) view) in
    let shown = ready_of control lists p c.self.inside.priorities c.self.invariant.shape.at_home low in
    subst (λ (v : CoresView). IsListing (length v.control.tasks) (ready_list p v)) view
    (subst (λ xs. IsListing (length c.self.inside.tasks.items) xs) (sym shown) (c.self.invariant.shape.listings p low))
