use Rattle.std.proofs.Common.{◌≡◌, ◌-◌, ◌<◌, ◌++◌, ◌∷◌, ◌∙◌, [], ap, arith, length, subst, sym}
use Rattle.bench_types.specs.declared.kernel_data.Settings.{Settings}
use Rattle.bench_types.specs.Limits.{max_steps}
use Rattle.bench_types.specs.Step.{step_check}
use Rattle.bench_model.specs.Equal.{StandsFor}
use Rattle.bench_model.specs.Session.{step_of}
use Rattle.workload_runs.specs.Situations.{after}
use Rattle.settling.proofs.Counted.{on_err}
use Rattle.simulating.specs.Progress.{Keeps}
use Rattle.simulating.specs.Simulations.{now_in, IsAt}
use Rattle.simulating.proofs.Here.{many_programs, many_tasks, same_settings}
use Rattle.simulating.proofs.Gone.{keeps_answered, no_call}
use Rattle.simulating.proofs.Making.{at_next, caller_fits, may_go_by, step_fits}
use Rattle.simulating.proofs.simulation.Simulation.make.Goals.{in-Call+in_ok-answer-in-Call, in_default+in_ok-go_by-in_default}
use Rattle.simulating.proofs.simulation.Simulation.make.Goals as goal

pub overflow_sub-user : goal.overflow_sub-user
overflow_sub-user c =
    let cores = ap (λ (settings : Settings). settings.cores) c.settings.ensures.settings in
    let fits =
    caller_fits c.args.workload.now c.args.self.now c.requires.here c.args.step c.requires.next c.in-Call.core c.in-Call.task c.in-Call.call c.in-Call.is in
    omega (arith, cores, fits.0)

pub step-reply-requires : goal.step-reply-requires
step-reply-requires c =
    subst (λ step. step_check c.args.self.now.kernel.settings step ≡ _) c.in-Call.is
    (step_fits c.args.workload.now c.args.self.now c.requires.here c.args.step c.requires.next)

pub answer-requires-clause-user : goal.answer-requires-clause-user
answer-requires-clause-user c =
    let cores = ap (λ (settings : Settings). settings.cores) c.settings.ensures.settings in
    let fits =
    caller_fits c.args.workload.now c.args.self.now c.requires.here c.args.step c.requires.next c.in-Call.core c.in-Call.task c.in-Call.call c.in-Call.is in
    omega (arith, cores, fits.0, fits.1, many_tasks c.args.workload.now c.args.self.now c.requires.here)

pub answer-requires-clause-programs : goal.answer-requires-clause-programs
answer-requires-clause-programs c = many_programs c.args.workload.now c.args.self.now c.requires.here

pub go_by-requires : goal.go_by-requires
go_by-requires c = may_go_by c.args.workload.now c.args.self.now c.requires.here

pub step-requires : goal.step-requires
step-requires c = step_fits c.args.workload.now c.args.self.now c.requires.here c.args.step c.requires.next

pub returns-clause-made : goal.returns-clause-made
returns-clause-made c =
    let workload = c.args.workload.now in
    let old = c.args.self.now in
    let here = c.requires.here in
    let now = now_in workload old in
    let step = c.args.step in
    let room : length old.steps.items < max_steps = c.requires.room in
    elim c.match-step.branch [
      | in-Call+in_ok-answer-in-Call w ↦
          let items = rw (w.self-is, w.step-is) at c.push_reserved.ensures.items in
          let stands =
          subst (λ step. StandsFor w.step-reply.new.self (step_of step now.table).1) (sym w.in-Call.is) (w.step-reply.ensures.state now.table here.stands) in
          let users = ap (λ (settings : Settings). w.in-Call.task - settings.cores) (w.settings.ensures.settings ∙ sym (same_settings workload old here)) in
          let keeps =
          subst (λ step. Keeps (after workload step now) w.answer.new.self) (sym w.in-Call.is)
          (keeps_answered workload now w.in-Call.core w.in-Call.task _ w.in-Call.call w.step-reply.result old.progress w.answer.new.self users
          (w.step-reply.ensures.reply now.table here.stands) here.keeps w.in_ok-answer-in-Call.ensures) in
          rw (w.self-is) (at_next workload old here step c.requires.next _ stands w.step-reply.ensures.shape keeps
          (items ∙ (λ i. c.reserve.ensures.items i ++ sym w.in-Call.is i ∷ [])) room)
      | in_default+in_ok-go_by-in_default w ↦
          let items = rw (w.self-is, w.step-is) at c.push_reserved.ensures.items in
          rw (w.self-is) (at_next workload old here step c.requires.next _ (w.step.ensures.state now.table here.stands) w.step.ensures.shape
          (w.in_ok-go_by-in_default.ensures now here.stands (no_call step w.in_default.not-Call) here.keeps)
          (items ∙ (λ i. c.reserve.ensures.items i ++ step ∷ [])) room)
    ]

pub returns-in_err-answer-in-Call-clause-some : goal.returns-in_err-answer-in-Call-clause-some
returns-in_err-answer-in-Call-clause-some c =
    on_err c.from_residual-in_err-answer-in-Call.result (1, omega (arith, c.requires.room), c.step-reply.ensures.meter)
