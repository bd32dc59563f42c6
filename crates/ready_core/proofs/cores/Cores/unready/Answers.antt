use Rattle.std.proofs.Common.{◌≢◌, eqb, not, ◌∙◌, length, map, ap, sym, arith}
use Rattle.std.proofs.lemmas.List.{length-map}
use Rattle.list_orders.specs.Search.{has, without}
use Rattle.list_orders.proofs.Filters.{has-filter}
use Rattle.index_lists.specs.Listed.{Listed, ListsView, list_at, without_item}
use Rattle.bench_model.specs.Cores.{CoresView}
use Rattle.ready_core.specs.Fields.{control_from, ready_below, tasks_of}
use Rattle.ready_core.proofs.ReadyLists.{rank, with_ready, row_at, ready_without}
use Rattle.ready_core.proofs.Shapes.{shape_emptied, shape_left}
use Rattle.ready_core.proofs.Flags.{flags_left}
use Rattle.ready_core.proofs.cores.Cores.unready.Goals as goal

pub invariant_of-self : goal.invariant_of-self
invariant_of-self c =
    let view = c.self.view_is in
    let r = c.in_use-priority.result in
    let rest = map (without_item c.args.task) c.self.inside.lists.lists in
    let sized = length-map (row_at rest r) (λ (e : Listed). e.item) ∙ ap (λ (v : ListsView). length (list_at v r)) (sym c.remove.ensures) ∙ sym c.len.ensures in
    rw c.remove.ensures
    (record {
      shape = shape_emptied _ _ _ _ _ _ c.self.invariant.shape c.args.task r
          (c.in_use-priority.ensures.in_use ∙ ap (λ (v : CoresView). rank v.control c.args.task) (sym view))
          (omega (arith, c.in_use-priority.ensures.below, ap (λ (v : CoresView). v.priorities) view)) (sized ∙ c.if-len-eq0.true);
      flags = flags_left _ _ _ _ c.self.invariant.flags c.args.task _ (omega
          (arith, c.requires, ap (λ (v : CoresView). length v.control.tasks) view, c.self.invariant.shape.seated))
          (λ s. ap (has s) (ready_without c.self.inside.lists.lists c.args.task c.self.inside.priorities) ∙ has-filter (λ m. not (eqb m c.args.task)) s
          (ready_below c.self.inside.lists.lists c.self.inside.priorities));
      marks = c.self.invariant.marks;
    })

pub invariant_of-self-else-len-eq0 : goal.invariant_of-self-else-len-eq0
invariant_of-self-else-len-eq0 c =
    let view = c.self.view_is in
    let r = c.in_use-priority.result in
    let rest = map (without_item c.args.task) c.self.inside.lists.lists in
    let sized = length-map (row_at rest r) (λ (e : Listed). e.item) ∙ ap (λ (v : ListsView). length (list_at v r)) (sym c.remove.ensures) ∙ sym c.len.ensures in
    let some : length (tasks_of rest r) ≢ 0 = λ none. c.if-len-eq0.false (sym sized ∙ none) in
    rw c.remove.ensures
    (record {
      shape = shape_left _ _ _ _ _ _ c.self.invariant.shape c.args.task r
          (c.in_use-priority.ensures.in_use ∙ ap (λ (v : CoresView). rank v.control c.args.task) (sym view))
          (omega (arith, c.in_use-priority.ensures.below, ap (λ (v : CoresView). v.priorities) view)) some;
      flags = flags_left _ _ _ _ c.self.invariant.flags c.args.task _ (omega
          (arith, c.requires, ap (λ (v : CoresView). length v.control.tasks) view, c.self.invariant.shape.seated))
          (λ s. ap (has s) (ready_without c.self.inside.lists.lists c.args.task c.self.inside.priorities) ∙ has-filter (λ m. not (eqb m c.args.task)) s
          (ready_below c.self.inside.lists.lists c.self.inside.priorities));
      marks = c.self.invariant.marks;
    })

pub returns-then-len-eq0 : goal.returns-then-len-eq0
returns-then-len-eq0 c =
    let control = control_from c.self.inside.cores.items c.self.inside.tasks.items in
    rw c.remove.ensures
    (ap (with_ready c.self.inside.priorities c.self.inside.slicing control) (ready_without c.self.inside.lists.lists c.args.task c.self.inside.priorities)
    ∙ ap (λ (v : CoresView). record v { ready = without c.args.task v.ready }) c.self.view_is)

pub returns-else-len-eq0 : goal.returns-else-len-eq0
returns-else-len-eq0 c =
    let control = control_from c.self.inside.cores.items c.self.inside.tasks.items in
    rw c.remove.ensures
    (ap (with_ready c.self.inside.priorities c.self.inside.slicing control) (ready_without c.self.inside.lists.lists c.args.task c.self.inside.priorities)
    ∙ ap (λ (v : CoresView). record v { ready = without c.args.task v.ready }) c.self.view_is)
