use Rattle.std.proofs.Common.{◌≡◌, ◌<◌, ◌∙◌, false, length, ap, arith}
use Rattle.std.proofs.lemmas.List.{get_or_default}
use Rattle.bench_types.specs.declared.kernel_data.TaskControl.{TaskControl}
use Rattle.bench_model.specs.Control.{task_at}
use Rattle.bench_model.specs.Cores.{CoresView}
use Rattle.ready_core.specs.Fields.{control_from}
use Rattle.ready_core.proofs.Shapes.{shape_kept}
use Rattle.ready_core.proofs.cores.Cores.set_mask.Goals as goal

abbrev no_task : TaskControl
no_task = record { base = 0; in_use = 0; mask = 0; preempt = false }

pub invariant_of-self : goal.invariant_of-self
invariant_of-self c =
    let tasks = c.self.inside.tasks.items in
    let task = c.args.task in
    let old = c.index_mut.result.now in
    let below : task < length tasks = omega (arith, c.requires, ap (λ (v : CoresView). length v.control.tasks) c.self.view_is) in
    let block : old ≡ task_at (control_from c.self.inside.cores.items tasks) task = c.index_mut.ensures.value ∙ get_or_default tasks task old no_task below in
    record {
      shape = shape_kept _ _ tasks _ _ _ c.self.invariant.shape task (record old { mask = c.cores_of_mask-cut.result }) below
          (ap (λ (b : TaskControl). b.in_use) block) (ap (λ (b : TaskControl). b.base) block);
      flags = c.self.invariant.flags;
      marks = c.self.invariant.marks;
    }
