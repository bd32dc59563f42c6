use Rattle.std.proofs.Common.{◌∙◌, All, List, ap, arith, subst, sym}
use Rattle.bench_types.specs.declared.step.Step.{Step}
use Rattle.bench_types.specs.Step.{IsCheckedStep}
use Rattle.settled_runs.specs.Settled.{quiet_step}
use Rattle.settling.specs.Places.{waiting_at, AreQueues}
use Rattle.settling.proofs.Counted.{few_counted, on_err}
use Rattle.settling.proofs.Progress.{kernel_checked, kernel_queues, kernel_stands}
use Rattle.settling.proofs.run.Settling.work.Goals as goal

pub next_piece-requires-clause-queues : goal.next_piece-requires-clause-queues
next_piece-requires-clause-queues c =
    let self = c.loop-step.self in
    let kernel = c.kernel.result.now in
    subst (λ (steps : List Step). AreQueues steps self.come kernel.settings.tasks self.queues.heads.items self.queues.next.items) (sym c.steps-steps.ensures.steps)
    (kernel_queues c.args.session.now self c.loop-step.invariant.here kernel c.kernel.ensures.settings)

pub next_piece-requires-clause-checked : goal.next_piece-requires-clause-checked
next_piece-requires-clause-checked c =
    let kernel = c.kernel.result.now in
    subst (λ (steps : List Step). All (IsCheckedStep kernel.settings) steps) (sym c.steps-steps.ensures.steps)
    (kernel_checked c.args.session.now c.loop-step.self c.loop-step.invariant.here kernel c.kernel.ensures.settings)

pub piece-requires-clause-next : goal.piece-requires-clause-next
piece-requires-clause-next c here =
    let self = c.loop-step.self in
    let stands = kernel_stands c.args.session.now self here c.kernel.result.now c.kernel.ensures.stands in
    ap (λ (steps : List Step). quiet_step here.table (waiting_at self.queues.heads.items steps self.come)) (sym c.steps-steps.ensures.steps)
    ∙ sym (c.in-Some.ensures here.table stands)

pub loop-step-smaller : goal.loop-step-smaller
loop-step-smaller c = omega (arith, c.in_ok-piece.ensures.grows, c.in_ok-piece.ensures.made.room)

pub returns-clause-rests : goal.returns-clause-rests
returns-clause-rests c =
    let self = c.loop-step.self in
    let here = c.loop-step.invariant.here in
    let stands = kernel_stands c.args.session.now self here c.kernel.result.now c.kernel.ensures.stands in
    record {
      here = here;
      rests =
          ap (λ (steps : List Step). quiet_step here.table (waiting_at self.queues.heads.items steps self.come)) (sym c.steps-steps.ensures.steps)
          ∙ sym (c.next_piece.ensures here.table stands) ∙ c.in_default.is;
    }

pub returns-in_err-piece-clause-some : goal.returns-in_err-piece-clause-some
returns-in_err-piece-clause-some c = on_err c.from_residual.result (λ first counted.
    few_counted c.args.session.now c.loop-step.self c.loop-step.invariant.here first c.piece.new.meter
    (c.in_err-piece.ensures.uncounted ∙ c.loop-step.invariant.counted first counted))
