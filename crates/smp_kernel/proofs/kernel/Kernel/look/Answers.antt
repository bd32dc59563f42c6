use Rattle.std.proofs.Common.{◌∙◌, ap}
use Rattle.bench_model.specs.Lists.{View}
use Rattle.bench_model.specs.Looks.{look_in}
use Rattle.smp_kernel.proofs.Stands.{task_look_of}
use Rattle.smp_kernel.proofs.kernel.Kernel.look.Goals as goal

pub returns : goal.returns
returns c table stands = c.look.ensures ∙ ap (λ (view : View). look_in view c.args.task) c.self.view_is ∙ task_look_of c.args.self.now table c.args.task
    c.requires stands
