use Rattle.std.proofs.Common.{◌∙◌, ap}
use Rattle.bench_model.specs.Lists.{View}
use Rattle.smp_kernel.proofs.Stands.{tick_of}
use Rattle.smp_kernel.proofs.kernel.Kernel.tick.Goals as goal

pub returns-clause-ticks : goal.returns-clause-ticks
returns-clause-ticks c = λ table stands. c.tick_count.ensures ∙ ap (λ (view : View). view.orders.tick) c.self.view_is ∙ tick_of c.args.self.now table stands
