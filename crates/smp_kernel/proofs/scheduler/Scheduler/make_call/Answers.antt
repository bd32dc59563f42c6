use Rattle.std.proofs.Common.{◌∙◌, sym}
use Rattle.bench_types.specs.declared.step.Step.TheVariants as steps
use Rattle.bench_model.specs.Steps.{performed}
use Rattle.smp_kernel.proofs.Accepted.{finds_its_task, after_refused, after_accepted}
use Rattle.smp_kernel.proofs.scheduler.Scheduler.make_call.Goals as goal

pub call-requires-clause-ready : goal.call-requires-clause-ready
call-requires-clause-ready c = (finds_its_task c.args.core c.args.task c.args.call c.args.self.now c.requires.settled c.requires.checked
    (sym c.in-None.ensures)).ready

pub call-requires-clause-own : goal.call-requires-clause-own
call-requires-clause-own c = (finds_its_task c.args.core c.args.task c.args.call c.args.self.now c.requires.settled c.requires.checked
    (sym c.in-None.ensures)).own

pub call-requires-clause-depth : goal.call-requires-clause-depth
call-requires-clause-depth c = (finds_its_task c.args.core c.args.task c.args.call c.args.self.now c.requires.settled c.requires.checked
    (sym c.in-None.ensures)).depth

pub returns-in-Some-clause-made : goal.returns-in-Some-clause-made
returns-in-Some-clause-made c = after_refused (steps.Call c.args.core c.args.task c.args.call) c.args.self.now _ (sym c.in-Some.ensures)

pub returns-in-None-clause-made : goal.returns-in-None-clause-made
unfolding performed
returns-in-None-clause-made c = c.call.ensures ∙ after_accepted (steps.Call c.args.core c.args.task c.args.call) c.args.self.now (sym c.in-None.ensures)
