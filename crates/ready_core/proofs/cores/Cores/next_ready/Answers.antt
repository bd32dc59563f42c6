use Rattle.std.proofs.Common.{◌<◌, ◌+◌, ◌∙◌, ap, arith, length, refl, sym}
use Rattle.std.specs.Prelude.{slice_get}
use Rattle.std.proofs.lemmas.List.{length-map}
use Rattle.std.proofs.lemmas.Option.{get_or_from_slice_get, slice_get_within}
use Rattle.index_lists.specs.Listed.{Listed}
use Rattle.list_orders.specs.Search.{has}
use Rattle.bench_model.specs.Cores.{CoresView}
use Rattle.ready_core.specs.Fields.{control_from, tasks_of, ready_list}
use Rattle.ready_core.proofs.ReadyLists.{row_at, ready_of, ready_listed}
use Rattle.ready_core.proofs.Walks.{next_get}
use Rattle.ready_core.proofs.cores.Cores.next_ready.Goals as goal

pub next_listed-requires-clause-listed : goal.next_listed-requires-clause-listed
next_listed-requires-clause-listed c =
    sym (ready_listed c.self.inside.lists c.args.task c.self.inside.priorities c.self.invariant.shape.each) ∙ ap (λ (v : CoresView). has c.args.task v.ready)
    c.self.view_is ∙ c.requires.ready

pub returns-clause-next : goal.returns-clause-next
returns-clause-next c = λ p k under here.
    let view = c.self.view_is in
    let control = control_from c.self.inside.cores.items c.self.inside.tasks.items in
    let lists = c.self.inside.lists.lists in
    let task = c.args.task in
    let low : p < c.self.inside.priorities = omega (arith, under, ap (λ (v : CoresView). v.priorities) view) in
    let shown = ready_of control lists p c.self.inside.priorities c.self.invariant.shape.at_home low ∙ refl in
    let seen = sym shown ∙ ap (ready_list p) view in
    let there = ap (λ xs. slice_get xs k) seen ∙ here in
    let within : k < length (row_at lists p) = omega (
      arith,
      slice_get_within (tasks_of lists p) k task there,
      length-map (row_at lists p)
          (λ (e : Listed). e.item),
    ) in
    c.next_listed.ensures.place p k (omega (arith, low, c.self.invariant.shape.each)) within (get_or_from_slice_get (tasks_of lists p) k task 0 there)
    ∙ next_get (row_at lists p) k ∙ ap (λ xs. slice_get xs (k + 1)) seen
