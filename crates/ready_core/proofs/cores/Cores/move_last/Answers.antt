use Rattle.std.proofs.Common.{◌∙◌, length, Some, ap, sym, ◌<◌, arith}
use Rattle.list_orders.specs.Search.{has, placed, without}
use Rattle.bench_model.specs.Lists.{outranks}
use Rattle.bench_model.specs.Cores.{CoresView}
use Rattle.ready_core.specs.Fields.{control_from, tasks_of, ready_below}
use Rattle.ready_core.proofs.ReadyLists.{rank, with_ready, listed_in, placed_turned, in_its_row}
use Rattle.ready_core.proofs.Shapes.{shape_turned}
use Rattle.ready_core.proofs.Flags.{flags_kept, has_placed_again}
use Rattle.ready_core.proofs.cores.Cores.move_last.Goals as goal

pub move_last-requires-clause-listed : goal.move_last-requires-clause-listed
move_last-requires-clause-listed c =
    let view = c.self.view_is in
    let control = control_from c.self.inside.cores.items c.self.inside.tasks.items in
    listed_in control c.self.inside.lists c.args.task c.self.inside.priorities c.self.invariant.shape.each c.self.invariant.shape.at_home
    (ap (λ (v : CoresView). has c.args.task v.ready) view ∙ c.requires.ready)
    ∙ ap Some (ap (λ (v : CoresView). rank v.control c.args.task) view ∙ sym c.in_use-priority.ensures.in_use)

pub invariant_of-self : goal.invariant_of-self
invariant_of-self c =
    let view = c.self.view_is in
    let control = control_from c.self.inside.cores.items c.self.inside.tasks.items in
    let is = c.in_use-priority.ensures.in_use ∙ ap (λ (v : CoresView). rank v.control c.args.task) (sym view) in
    let ready = ap (λ (v : CoresView). has c.args.task v.ready) view ∙ c.requires.ready in
    let low : c.in_use-priority.result < c.self.inside.priorities = omega (arith, c.in_use-priority.ensures.below, ap (λ (v : CoresView). v.priorities) view) in
    let here = ap (λ p. has c.args.task (tasks_of c.self.inside.lists.lists p)) is ∙ in_its_row control c.self.inside.lists.lists c.args.task
    c.self.inside.priorities c.self.invariant.shape.at_home (omega (arith, low, is)) ∙ ready in
    let turned = placed_turned control c.self.inside.lists.lists c.in_use-priority.result c.args.task c.self.inside.priorities c.self.invariant.shape.at_home
    (omega (arith, c.self.invariant.shape.each)) low (sym is) in
    rw c.move_last.ensures (record {
      shape = shape_turned _ _ _ _ _ _ c.self.invariant.shape c.args.task c.in_use-priority.result is low
          (omega (arith, c.requires.task, ap (λ (v : CoresView). length v.control.tasks) view)) here;
      flags = flags_kept _ _ _ _ c.self.invariant.flags _ (λ s. ap (has s) turned ∙ has_placed_again (outranks control) c.args.task s
          (ready_below c.self.inside.lists.lists c.self.inside.priorities) ready);
      marks = c.self.invariant.marks;
    })

pub returns : goal.returns
returns c =
    let view = c.self.view_is in
    let control = control_from c.self.inside.cores.items c.self.inside.tasks.items in
    let turned = placed_turned control c.self.inside.lists.lists c.in_use-priority.result c.args.task c.self.inside.priorities c.self.invariant.shape.at_home
    (omega (arith, c.self.invariant.shape.each)) (omega (arith, c.in_use-priority.ensures.below, ap (λ (v : CoresView). v.priorities) view))
    (ap (λ (v : CoresView). rank v.control c.args.task) view ∙ sym c.in_use-priority.ensures.in_use) in
    rw c.move_last.ensures
    (ap (with_ready c.self.inside.priorities c.self.inside.slicing control) turned
    ∙ ap (λ (v : CoresView). record v { ready = placed (outranks v.control) c.args.task (without c.args.task v.ready) }) view)
