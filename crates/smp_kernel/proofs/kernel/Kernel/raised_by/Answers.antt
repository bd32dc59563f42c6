use Rattle.std.proofs.Common.{◌∙◌, sym, subst, ap}
use Rattle.bench_model.specs.Lists.{View}
use Rattle.bench_model.specs.Session.{step_of}
use Rattle.bench_model.specs.Table.{stamp_queues}
use Rattle.smp_kernel.specs.Raised.{raised_by, KeepsOthers}
use Rattle.smp_kernel.proofs.Raises.{step_others}
use Rattle.smp_kernel.proofs.Stands.{settled_of}
use Rattle.smp_kernel.proofs.kernel.Kernel.raised_by.Goals as goal

pub raised_by-requires-clause-calls : goal.raised_by-requires-clause-calls
raised_by-requires-clause-calls c = (settled_of c.self.inside.scheduler c.self.invariant).calls

pub returns-clause-others : goal.returns-clause-others
returns-clause-others c table stands =
    let step = c.args.step.now in
    let same = ap (λ (view : View). raised_by view step) (stands.shows ∙ sym c.self.view_is) ∙ sym c.raised_by.ensures.raised in
    subst (λ raised. KeepsOthers raised table.control (step_of step table).1.control) same (step_others stamp_queues step table)
