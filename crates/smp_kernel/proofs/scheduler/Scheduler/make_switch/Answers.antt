use Rattle.std.proofs.Common.{◌∙◌, sym, ap}
use Rattle.bench_model.specs.Lists.{View}
use Rattle.bench_types.specs.declared.reply.Reply.TheVariants.{Done}
use Rattle.bench_types.specs.declared.step.Step.TheVariants as steps
use Rattle.bench_model.specs.Steps.{performed}
use Rattle.smp_kernel.proofs.Accepted.{after_refused, after_accepted}
use Rattle.smp_kernel.proofs.scheduler.Scheduler.make_switch.Goals as goal

pub returns-in-Some-clause-made : goal.returns-in-Some-clause-made
returns-in-Some-clause-made c = after_refused (steps.Switch c.args.core) c.args.self.now _ (sym c.in-Some.ensures)

pub returns-in-None-clause-made : goal.returns-in-None-clause-made
unfolding performed
returns-in-None-clause-made c = ap (λ (view : View). (Done, view)) c.switch.ensures ∙ after_accepted (steps.Switch c.args.core) c.args.self.now
    (sym c.in-None.ensures)
