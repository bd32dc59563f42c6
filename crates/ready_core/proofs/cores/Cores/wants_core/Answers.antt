use Rattle.std.proofs.Common.{◌∙◌, ap, arith, length, refl}
use Rattle.std.specs.Prelude.{map}
use Rattle.list_orders.specs.Search.{numbers}
use Rattle.bench_model.specs.Cores.{CoresView}
use Rattle.ready_core.specs.Fields.{control_from, wants_core}
use Rattle.ready_core.proofs.Flags.{flags_shown}
use Rattle.ready_core.proofs.cores.Cores.wants_core.Goals as goal

pub returns : goal.returns
returns c =
    let shape = c.self.invariant.shape in
    c.as_slice.ensures.value ∙ flags_shown _ _ _ _ c.self.invariant.flags (control_from c.self.inside.cores.items c.self.inside.tasks.items) _ refl shape.seated
    (λ t low. shape.at_core t (omega (arith, low, shape.seated)))
    ∙ ap (λ (v : CoresView). map (wants_core v) (numbers (length v.control.tasks))) c.self.view_is
