use Rattle.std.proofs.Common.{◌≡◌, ◌≤◌, ◌∙◌, List, length, sym, ap, subst, arith}
use Rattle.bench_types.specs.declared.step.Step.{Step}
use Rattle.bench_types.specs.Limits.{max_steps}
use Rattle.session_runs.specs.Run.{RunView}
use Rattle.smp_kernel.specs.Counting.{meter_after}
use Rattle.settling.specs.Places.{waiting_at}
use Rattle.settling.proofs.Counted.{few_counted, none_counted, on_err}
use Rattle.settling.proofs.Progress.{few_left, run_at}
use Rattle.settling.proofs.run.settle.Goals as goal

pub loop-settling-init : goal.loop-settling-init
loop-settling-init c = (
  c.in_ok-work.ensures.rests,
  c.in_ok-work.ensures.counted c.args.meter.now
      (none_counted c.args.meter.now c.in_ok-settling.settling c.in_ok-settling.ensures.empty),
)

pub loop-settling-preserved : goal.loop-settling-preserved
loop-settling-preserved c = (
  c.in_ok-work-2.ensures.rests,
  c.in_ok-work-2.ensures.counted c.args.meter.now (c.in_ok-come.ensures.counted c.args.meter.now c.loop-settling.invariant.1),
)

pub finish-requires : goal.finish-requires
finish-requires c =
    few_left c.args.session.now c.loop-settling.settling c.loop-settling.invariant.0
    (omega (arith, ap (λ (steps : List Step). length steps) c.steps-count.ensures.steps, c.loop-settling-test.false)) c.in_ok-left.left.items
    (c.in_ok-left.ensures
    ∙ ap (λ (steps : List Step). waiting_at c.loop-settling.settling.queues.heads.items steps c.loop-settling.settling.come) c.steps.ensures.steps)

pub returns-clause-run : goal.returns-clause-run
returns-clause-run c =
    run_at c.args.session.now c.loop-settling.settling c.loop-settling.invariant.0
    (omega (arith, ap (λ (steps : List Step). length steps) c.steps-count.ensures.steps, c.loop-settling-test.false)) c.in_ok-left.left.items
    (c.in_ok-left.ensures
    ∙ ap (λ (steps : List Step). waiting_at c.loop-settling.settling.queues.heads.items steps c.loop-settling.settling.come) c.steps.ensures.steps)
    c.finish.result c.finish.ensures

pub returns-clause-room : goal.returns-clause-room
returns-clause-room c =
    subst (λ (run : RunView). length run.session.steps ≤ max_steps) (sym c.finish.ensures) c.loop-settling.invariant.0.here.room

pub returns-in_err-come-clause-some : goal.returns-in_err-come-clause-some
returns-in_err-come-clause-some c = on_err c.from_residual-in_err-come.result
    (few_counted c.args.session.now c.loop-settling.settling c.loop-settling.invariant.0.here c.args.meter.now c.come.new.meter
    (c.in_err-come.ensures.uncounted ∙ c.loop-settling.invariant.1))

pub returns-in_err-work-2-clause-some : goal.returns-in_err-work-2-clause-some
returns-in_err-work-2-clause-some c = on_err c.from_residual-in_err-work-2.result
    (c.in_err-work-2.ensures.some c.args.meter.now (c.in_ok-come.ensures.counted c.args.meter.now c.loop-settling.invariant.1))

pub returns-in_err-left-clause-some : goal.returns-in_err-left-clause-some
returns-in_err-left-clause-some c = on_err c.from_residual-in_err-left.result
    (few_counted c.args.session.now c.loop-settling.settling c.loop-settling.invariant.0.here c.args.meter.now c.loop-settling.meter
    c.loop-settling.invariant.1)

pub returns-clause-counted : goal.returns-clause-counted
returns-clause-counted c =
    subst (λ (run : RunView). c.loop-settling.meter ≡ meter_after (length run.session.steps) c.args.meter.now) (sym c.finish.ensures)
    c.loop-settling.invariant.1
