use Rattle.std.proofs.Common.{◌∙◌, ap}
use Rattle.bench_model.specs.Control.{core_at}
use Rattle.bench_model.specs.Lists.{View}
use Rattle.smp_kernel.proofs.Stands.{look_of}
use Rattle.smp_kernel.proofs.kernel.Kernel.core_look.Goals as goal

pub returns : goal.returns
returns c table stands = c.core_look.ensures ∙ ap (λ (view : View). core_at view.control c.args.core) c.self.view_is ∙ look_of c.args.self.now table c.args.core
    stands
