use Rattle.std.proofs.Common.{◌∙◌, ap}
use Rattle.bench_model.specs.State.{holder_at}
use Rattle.bench_model.specs.Lists.{View}
use Rattle.smp_kernel.proofs.Stands.{holder_seen}
use Rattle.smp_kernel.proofs.kernel.Kernel.holder.Goals as goal

pub returns-clause-holder : goal.returns-clause-holder
returns-clause-holder c table stands = c.holder.ensures.holder ∙ ap (λ (view : View). holder_at view.holders c.args.mutex) c.self.view_is ∙ holder_seen
    c.args.self.now table c.args.mutex stands
