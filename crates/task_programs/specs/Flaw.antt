-- The faults that the flaws of a workload are.
use Rattle.bench_types.specs.declared.fault.Fault.{Fault}
use Rattle.bench_types.specs.declared.fault.Fault.TheVariants.{BadHeader, BadArgument}
use Rattle.bench_types.specs.StepFlaw.{flaw_fault}
use Rattle.task_programs.specs.declared.flaw.InstructionFlaw.{InstructionFlaw}
use Rattle.task_programs.specs.declared.flaw.InstructionFlaw.TheVariants as instruction
use Rattle.task_programs.specs.declared.flaw.InterruptFlaw.{InterruptFlaw}
use Rattle.task_programs.specs.declared.flaw.InterruptFlaw.TheVariants as interrupt
use Rattle.task_programs.specs.declared.flaw.WorkloadFlaw.{WorkloadFlaw}
use Rattle.task_programs.specs.declared.flaw.WorkloadFlaw.TheVariants as workload

-- F3 to F5 of a call's arguments, else F5
abbrev pub instruction_fault : InstructionFlaw → Fault
instruction_fault (instruction.Step flaw) = flaw_fault flaw
instruction_fault instruction.Unreached = BadArgument
instruction_fault instruction.NoWork = BadArgument
instruction_fault instruction.Finish = BadArgument
instruction_fault instruction.NoRounds = BadArgument
instruction_fault instruction.NoBody = BadArgument
instruction_fault instruction.NoLoop = BadArgument
instruction_fault instruction.Nesting = BadArgument
instruction_fault instruction.Misplaced = BadArgument

-- F2 to F5 of what it does, else F5
abbrev pub interrupt_fault : InterruptFlaw → Fault
interrupt_fault (interrupt.Step flaw) = flaw_fault flaw
interrupt_fault interrupt.NoPeriod = BadArgument
interrupt_fault interrupt.NoInterrupt = BadArgument

-- F1 of the header
abbrev pub workload_fault : WorkloadFlaw → Fault
workload_fault (workload.Header flaw) = BadHeader
workload_fault workload.NoQueues = BadHeader
workload_fault (workload.Programs programs) = BadArgument
workload_fault workload.Items = BadArgument
workload_fault (workload.Instruction task index flaw) = instruction_fault flaw
workload_fault (workload.Interrupt index flaw) = interrupt_fault flaw
workload_fault (workload.Ticks ticks) = BadArgument
