use Rattle.std.proofs.Common.{◌∙◌, ap, sym}
use Rattle.std.specs.Prelude.{option_map, slice_get}
use Rattle.task_programs.specs.declared.workload.Interrupt.{Interrupt}
use Rattle.simulating.specs.Simulations.{now_in}
use Rattle.simulating.proofs.Calls.{interrupt_known}
use Rattle.simulating.proofs.simulation.Simulation.interrupt_step.Goals as goal

pub returns-in-Some : goal.returns-in-Some
returns-in-Some c =
    let workload = c.args.workload.now in
    c.what_at.ensures
    ∙ ap (λ interrupts. option_map (λ (interrupt : Interrupt). interrupt.what) (slice_get interrupts c.in-Some.index)) c.interrupts.ensures.interrupts
    ∙ interrupt_known workload (now_in workload c.args.self.now) c.deref.result.now c.args.self.now.progress.time _
    (c.deref.ensures.value ∙ c.requires.keeps.arrivals) c.requires.keeps.time (sym c.in-Some.is ∙ c.due_interrupt.ensures.due)

pub returns-in-None : goal.returns-in-None
returns-in-None c =
    let workload = c.args.workload.now in
    interrupt_known workload (now_in workload c.args.self.now) c.deref.result.now c.args.self.now.progress.time _
    (c.deref.ensures.value ∙ c.requires.keeps.arrivals) c.requires.keeps.time (sym c.in-None.is ∙ c.due_interrupt.ensures.due)
