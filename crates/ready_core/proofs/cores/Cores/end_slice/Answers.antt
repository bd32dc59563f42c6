use Rattle.std.proofs.Common.{◌<◌, ◌∙◌, cond, length, ap, arith}
use Rattle.std.proofs.lemmas.List.{get_or_default}
use Rattle.bench_types.specs.declared.kernel_data.CoreLook.{CoreLook}
use Rattle.bench_model.specs.Control.{asked_by}
use Rattle.bench_model.specs.Cores.{CoresView}
use Rattle.ready_core.proofs.Marks.{marks_asked, asked_current, no_look}
use Rattle.ready_core.proofs.Shapes.{shape_looked}
use Rattle.ready_core.proofs.cores.Cores.end_slice.Goals as goal

pub invariant_of-self : goal.invariant_of-self
invariant_of-self c =
    let cores = c.self.inside.cores.items in
    let core = c.args.core in
    let low : core < length cores = omega (arith, c.requires.core, ap (λ (v : CoresView). length v.control.cores) c.self.view_is) in
    let look = get_or_default cores core c.index_mut.result.now no_look low in
    let old = c.index_mut.ensures.value ∙ look in
    rw (c.ask_where.ensures, c.from.ensures)
    (record {
      shape = shape_looked _ _ _ _ _ _ c.self.invariant.shape core (cond c.shares_its_time-shares.result (asked_by 0 core c.index_mut.result.now)
          c.index_mut.result.now) low (asked_current c.shares_its_time-shares.result core c.index_mut.result.now ∙ ap (λ (at : CoreLook). at.current) old);
      flags = c.self.invariant.flags;
      marks = marks_asked _ _ c.self.invariant.marks c.self.invariant.shape.few_cores c.shares_its_time-shares.result core low c.index_mut.result.now old;
    })
