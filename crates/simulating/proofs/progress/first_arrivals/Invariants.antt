use Rattle.std.proofs.Common.{◌≡◌, map, take}
use Rattle.task_programs.specs.declared.workload.Interrupt.{Interrupt}
use Rattle.workload_runs.specs.Situations.{before_end}
use Rattle.simulating.proofs.progress.first_arrivals.Given as goal

abbrev pub invariant-loop-interrupt : goal.invariant-loop-interrupt
invariant-loop-interrupt l =
    l.arrivals.items ≡ map (λ (interrupt : Interrupt). before_end l.end interrupt.at) (take l.interrupt-index l.interrupts)
