use Rattle.std.proofs.Common.{◌≡◌, ◌+◌, ◌∙◌, ap, arith, cond, eqb, length, sym}
use Rattle.std.proofs.lemmas.List.{with_items_is}
use Rattle.std.specs.Vec.{with_items}
use Rattle.bench_types.specs.declared.header.Header.{Header}
use Rattle.step_times.specs.Times.{time_of}
use Rattle.task_programs.specs.Workloads.{is_interrupt}
use Rattle.workload_runs.specs.Situations.{span_of, units_in}
use Rattle.simulating.specs.declared.progress.Progress.{Progress}
use Rattle.simulating.specs.Progress.{arrived, courses_worked}
use Rattle.simulating.proofs.Gone.{keeps_gone}
use Rattle.simulating.proofs.progress.Progress.go_by.Goals as goal

pub returns : goal.returns
returns c now stands other keeps =
    let workload = c.args.workload.now in
    let step = c.args.step.now in
    let units : c.time_of-units.result ≡ time_of (units_in workload) step =
    c.time_of-units.ensures ∙ ap (λ (header : Header). time_of header.config.units step) c.header.ensures.header in
    let old = c.args.self.now in
    let kept : length c.pass.new.courses ≡ old.courses.len =
    omega (arith, c.in_ok-pass.ensures.many, ap length c.deref_mut.ensures.value, old.courses.ok.0) in
    let left : length c.come.new.arrivals ≡ old.arrivals.len =
    omega (arith, c.come.ensures.many, ap length c.deref_mut-2.ensures.value, old.arrivals.ok.0) in
    let courses =
    with_items_is old.courses c.pass.new.courses kept ∙
    c.in_ok-pass.ensures.done now.table stands
    ∙ λ i. cond (eqb (units i) 0) (c.deref_mut.ensures.value i) (courses_worked now.table (c.programs.ensures.programs i) (units i) (c.deref_mut.ensures.value i)) in
    let arrivals =
    with_items_is old.arrivals c.come.new.arrivals left ∙
    c.come.ensures.done
    ∙ λ i. cond (is_interrupt step)
    (arrived (c.span_of-end.ensures i) c.args.self.now.time (c.interrupts.ensures.interrupts i) (c.deref_mut-2.ensures.value i)) (c.deref_mut-2.ensures.value i) in
    let later : Progress = record {
      courses = with_items c.args.self.now.courses c.pass.new.courses;
      time = c.args.self.now.time + c.from.result;
      ticks = c.ticks_after-self.result;
      arrivals = with_items c.args.self.now.arrivals c.come.new.arrivals;
    } in
    keeps_gone workload step now c.args.self.now later other keeps courses (ap (λ units. c.args.self.now.time + units) (c.from.ensures ∙ units))
    c.ticks_after-self.ensures arrivals
