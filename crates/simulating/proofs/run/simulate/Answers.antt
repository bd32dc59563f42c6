use Rattle.std.proofs.Common.{◌∙◌, ap, length, subst, sym}
use Rattle.bench_types.specs.Session.{Session}
use Rattle.workload_runs.specs.Rule.{IsRunOf}
use Rattle.workload_runs.specs.Situations.{first_situation}
use Rattle.settling.proofs.Counted.{on_err}
use Rattle.workload_runs.specs.Properties.{CallsAreInOrder, CallsAreThoseOfPrograms, InterruptsComeInTime, RunEndsBehindItsLastTick, RunIsSettled, TimeGoesByTicks}
use Rattle.workload_runs.proofs.Comings.{interrupts_come_in_time}
use Rattle.workload_runs.proofs.CallLaws.{calls_are_in_order, calls_are_those_of_programs}
use Rattle.workload_runs.proofs.Settles.{run_is_settled}
use Rattle.workload_runs.proofs.TimeLaws.{run_ends_behind_its_last_tick, time_goes_by_ticks}
use Rattle.simulating.proofs.Making.{counted_on, each_made, ends_there, run_ends, too_long}
use Rattle.simulating.proofs.run.simulate.Goals as goal

pub returns-in_err-check_room-clause-long : goal.returns-in_err-check_room-clause-long
returns-in_err-check_room-clause-long c caller known =
    let given = rw known at c.from_residual-in_err-check_room.ensures.1 in
    let next = sym c.next_step.ensures ∙ c.in-Some.is in
    let full = c.in_err-check_room.ensures.full caller (cc (given)) in
    too_long c.args.workload.now c.loop-step.simulation c.loop-step.invariant.here c.in-Some.step next full.0 caller full.1

pub returns-in-Some-new-clause-run : goal.returns-in-Some-new-clause-run
returns-in-Some-new-clause-run c =
    let workload = c.args.workload.now in
    let self = c.loop-step.simulation in
    subst (IsRunOf workload) (sym (ap (λ (session : Session). session.steps) c.in-Some-new.ensures.session))
    (run_ends self.steps.items workload (first_situation workload) c.loop-step.invariant.here.next (sym c.next_step.ensures ∙ c.in_default.is))

pub returns-in-Some-new-clause-settled : goal.returns-in-Some-new-clause-settled
returns-in-Some-new-clause-settled c =
    each_made RunIsSettled run_is_settled c.args.workload.now c.loop-step.simulation c.loop-step.invariant.here
    (sym c.next_step.ensures ∙ c.in_default.is) _ (ap (λ (session : Session). session.steps) c.in-Some-new.ensures.session)

pub returns-in-Some-new-clause-at_end : goal.returns-in-Some-new-clause-at_end
returns-in-Some-new-clause-at_end c =
    ends_there c.args.workload.now c.loop-step.simulation _ c.in_ok-at_end.ensures _
    (ap (λ (session : Session). session.steps) c.in-Some-new.ensures.session)

pub returns-in-Some-new-clause-programs : goal.returns-in-Some-new-clause-programs
returns-in-Some-new-clause-programs c =
    each_made CallsAreThoseOfPrograms calls_are_those_of_programs c.args.workload.now c.loop-step.simulation c.loop-step.invariant.here
    (sym c.next_step.ensures ∙ c.in_default.is) _ (ap (λ (session : Session). session.steps) c.in-Some-new.ensures.session)

pub returns-in-Some-new-clause-calls : goal.returns-in-Some-new-clause-calls
returns-in-Some-new-clause-calls c =
    each_made CallsAreInOrder calls_are_in_order c.args.workload.now c.loop-step.simulation c.loop-step.invariant.here
    (sym c.next_step.ensures ∙ c.in_default.is) _ (ap (λ (session : Session). session.steps) c.in-Some-new.ensures.session)

pub returns-in-Some-new-clause-time : goal.returns-in-Some-new-clause-time
returns-in-Some-new-clause-time c =
    each_made TimeGoesByTicks time_goes_by_ticks c.args.workload.now c.loop-step.simulation c.loop-step.invariant.here
    (sym c.next_step.ensures ∙ c.in_default.is) _ (ap (λ (session : Session). session.steps) c.in-Some-new.ensures.session)

pub returns-in-Some-new-clause-interrupts : goal.returns-in-Some-new-clause-interrupts
returns-in-Some-new-clause-interrupts c =
    each_made InterruptsComeInTime interrupts_come_in_time c.args.workload.now c.loop-step.simulation c.loop-step.invariant.here
    (sym c.next_step.ensures ∙ c.in_default.is) _ (ap (λ (session : Session). session.steps) c.in-Some-new.ensures.session)

pub returns-in-Some-new-clause-end : goal.returns-in-Some-new-clause-end
returns-in-Some-new-clause-end c =
    each_made RunEndsBehindItsLastTick run_ends_behind_its_last_tick c.args.workload.now c.loop-step.simulation c.loop-step.invariant.here
    (sym c.next_step.ensures ∙ c.in_default.is) _ (ap (λ (session : Session). session.steps) c.in-Some-new.ensures.session)

pub returns-in_err-make-clause-some : goal.returns-in_err-make-clause-some
returns-in_err-make-clause-some c =
    let self = c.loop-step.simulation in
    on_err c.from_residual-in_err-make.result
    (counted_on (length self.steps.items) c.args.meter.now c.loop-step.meter c.make.new.meter c.loop-step.invariant.here.room c.loop-step.invariant.counted
    c.in_err-make.ensures.some)
