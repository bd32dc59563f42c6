use Rattle.std.proofs.Common.{◌≡◌, ◌<◌, ◌∙◌, false, length, ap, sym, subst, arith}
use Rattle.std.proofs.lemmas.List.{get_or_default}
use Rattle.std.proofs.lemmas.List.Elements.{All-get_or}
use Rattle.bench_types.specs.declared.kernel_data.TaskControl.{TaskControl}
use Rattle.list_orders.specs.Search.{has}
use Rattle.bench_model.specs.Control.{task_at}
use Rattle.bench_model.specs.ControlFields.{with_task, with_in_use}
use Rattle.bench_model.specs.Cores.{CoresView}
use Rattle.ready_core.specs.Fields.{control_from, ready_below}
use Rattle.ready_core.proofs.ReadyLists.{with_ready}
use Rattle.ready_core.proofs.Shapes.{shape_changed}
use Rattle.ready_core.proofs.cores.Cores.put_in_use.Goals as goal

pub invariant_of-self : goal.invariant_of-self
invariant_of-self c =
    let view = c.self.view_is in
    let tasks = c.self.inside.tasks.items in
    let below : c.args.task < length tasks = omega (arith, c.requires.task, ap (λ (v : CoresView). length v.control.tasks) view) in
    let kept = subst (λ (old : TaskControl). old.base < c.self.inside.priorities) (sym c.index_mut.ensures.value)
    (All-get_or (λ (old : TaskControl). old.base < c.self.inside.priorities) tasks c.args.task c.index_mut.result.now below c.self.invariant.shape.base) in
    record {
      shape = shape_changed _ _ tasks _ _ _ c.self.invariant.shape c.args.task (record c.index_mut.result.now { in_use = c.args.priority })
          (omega (arith, c.requires.priority, ap (λ (v : CoresView). v.priorities) view)) kept
          (ap (λ (v : CoresView). has c.args.task v.ready) view ∙ c.requires.free);
      flags = c.self.invariant.flags;
      marks = c.self.invariant.marks;
    }

abbrev no_task : TaskControl
no_task = record { base = 0; in_use = 0; mask = 0; preempt = false }

pub returns : goal.returns
returns c =
    let view = c.self.view_is in
    let tasks = c.self.inside.tasks.items in
    let control = control_from c.self.inside.cores.items tasks in
    let task = c.args.task in
    let below : task < length tasks = omega (arith, c.requires.task, ap (λ (v : CoresView). length v.control.tasks) view) in
    let block : c.index_mut.result.now ≡ task_at control task = c.index_mut.ensures.value ∙ get_or_default tasks task c.index_mut.result.now no_task below in
    ap (λ (b : TaskControl). with_ready c.self.inside.priorities c.self.inside.slicing (with_task task (record b { in_use = c.args.priority }) control)
    (ready_below c.self.inside.lists.lists c.self.inside.priorities)) block
    ∙ ap (λ (v : CoresView). record v { control = with_in_use task c.args.priority v.control }) view
