use Rattle.std.proofs.Common.{◌≡◌, ◌∙◌, ◌<◌, ◌≤◌, ◌^◌, ap, arith, sym}
use Rattle.bench_types.specs.declared.header.Header.{Header}
use Rattle.workload_runs.specs.Situations.{units_in}
use Rattle.simulating.specs.Simulations.{now_in}
use Rattle.simulating.proofs.Here.{kept}
use Rattle.simulating.proofs.Times.{pass_small, time_over, time_pass, time_tick}
use Rattle.simulating.proofs.simulation.Simulation.time_step.Goals as goal

pub returns-then-self-ticks : goal.returns-then-self-ticks
returns-then-self-ticks c =
    let now = now_in c.args.workload.now c.args.self.now in
    time_over c.args.workload.now now (omega (arith, c.if-self-ticks.true, c.ticks.ensures.ticks, c.requires.keeps.ticks))

pub returns-then-header-eq1 : goal.returns-then-header-eq1
returns-then-header-eq1 c =
    let now = now_in c.args.workload.now c.args.self.now in
    time_tick c.args.workload.now now (omega (arith, c.if-self-ticks.false, c.ticks.ensures.ticks, c.requires.keeps.ticks))
    (sym (ap (λ (header : Header). header.config.units) c.header.ensures.header) ∙ c.if-header-eq1.true)

pub overflow_cast-units : goal.overflow_cast-units
overflow_cast-units c =
    let now = now_in c.args.workload.now c.args.self.now in
    omega (arith, c.pass_units-units.ensures, pass_small c.args.workload.now now c.requires.checked (kept c.args.workload.now c.args.self.now c.requires))

pub returns : goal.returns
returns c =
    let now = now_in c.args.workload.now c.args.self.now in
    time_pass c.args.workload.now now (omega (arith, c.if-self-ticks.false, c.ticks.ensures.ticks, c.requires.keeps.ticks))
    (λ one. c.if-header-eq1.false (ap (λ (header : Header). header.config.units) c.header.ensures.header ∙ one)) c.pass_units-units.result
    c.pass_units-units.ensures
