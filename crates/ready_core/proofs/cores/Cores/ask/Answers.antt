use Rattle.std.proofs.Common.{◌≡◌, ◌<◌, ◌∙◌, ◌||◌, Bool, true, false, length, refl, ap, arith}
use Rattle.std.proofs.lemmas.List.{get_or_default}
use Rattle.bench_types.specs.declared.kernel_data.CoreLook.{CoreLook}
use Rattle.bench_model.specs.Cores.{CoresView}
use Rattle.ready_core.proofs.Marks.{marks_due, no_look}
use Rattle.ready_core.proofs.Shapes.{shape_looked}
use Rattle.ready_core.proofs.cores.Cores.ask.Goals as goal

pub invariant_of-self : goal.invariant_of-self
invariant_of-self c =
    let cores = c.self.inside.cores.items in
    let core = c.args.core in
    let low : core < length cores = omega (arith, c.requires, ap (λ (v : CoresView). length v.control.cores) c.self.view_is) in
    let old = c.index_mut.ensures.value ∙ get_or_default cores core c.index_mut.result.now no_look low in
    let look : CoreLook = record c.index_mut.result.now { pend = true } in
    record {
      shape = shape_looked _ _ _ _ _ _ c.self.invariant.shape core look low (ap (λ (at : CoreLook). at.current) old);
      flags = c.self.invariant.flags;
      marks = marks_due _ _ c.self.invariant.marks c.self.invariant.shape.few_cores core low look refl;
    }

either : (b : Bool) → (b || true) ≡ true
either true = refl
either false = refl

pub invariant_of-self-else-core-acting : goal.invariant_of-self-else-core-acting
invariant_of-self-else-core-acting c =
    let cores = c.self.inside.cores.items in
    let core = c.args.core in
    let low : core < length cores = omega (arith, c.requires, ap (λ (v : CoresView). length v.control.cores) c.self.view_is) in
    let old = c.index_mut-else-core-acting.ensures.value ∙ get_or_default cores core c.index_mut-else-core-acting.result.now no_look low in
    let look : CoreLook = record c.index_mut-else-core-acting.result.now { asked = true } in
    record {
      shape = shape_looked _ _ _ _ _ _ c.self.invariant.shape core look low (ap (λ (at : CoreLook). at.current) old);
      flags = c.self.invariant.flags;
      marks = marks_due _ _ c.self.invariant.marks c.self.invariant.shape.few_cores core low look (either c.index_mut-else-core-acting.result.now.pend);
    }
