-- What is known of programs and workloads that were checked.
use Rattle.std.specs.Prelude.{◌≡◌, ◌≢◌, ◌<◌, ◌≤◌, ℕ, true, List, length, slice_get, All, Option, Some, None, is_some, ⊤}
use Rattle.std.specs.List.{sum_by}
use Rattle.bench_types.specs.declared.kernel_data.Settings.{Settings}
use Rattle.bench_types.specs.declared.step.Call.{Call}
use Rattle.bench_types.specs.declared.step.Call.TheVariants.{Finish}
use Rattle.bench_types.specs.Step.{settings_of, IsCheckedCall, IsCheckedStep}
use Rattle.task_programs.specs.declared.instruction.Instruction.{Instruction}
use Rattle.task_programs.specs.declared.instruction.Instruction.TheVariants.{Call as Calls}
use Rattle.task_programs.specs.declared.instruction.ProgramCall.TheVariants.{Made, DelayUntilNext}
use Rattle.task_programs.specs.declared.workload.Interrupt.{Interrupt}
use Rattle.task_programs.specs.declared.workload.Workload.{Workload}
use Rattle.task_programs.specs.Limits.{max_items, max_ticks}
use Rattle.task_programs.specs.Programs.{around_at, instruction_flaw, item_count, program_flaw, IsInstructionOfWords}
use Rattle.task_programs.specs.Workloads.{is_interrupt, IsCheckedWorkload}

-- in a program without a flaw no instruction has one, with what stands around it
abbrev pub NoneHasAFlaw : Type 0
NoneHasAFlaw =
    (settings : Settings) (program : List Instruction) → program_flaw settings program ≡ None
    → (index : ℕ) (instruction : Instruction) → slice_get program index ≡ Some instruction
    → instruction_flaw settings program (around_at program index) index instruction ≡ None

-- so each of its calls is one that a session may have
abbrev pub CallsAreChecked : Type 0
CallsAreChecked =
    (settings : Settings) (program : List Instruction) → program_flaw settings program ≡ None
    → All IsInstructionOfWords program → (index : ℕ) (made : Call) (otherwise end : ℕ)
    → slice_get program index ≡ Some (Calls (Made made) otherwise end)
    → IsCheckedCall settings made × (made ≢ Finish)

-- and a task never delays until its last wake itself
abbrev pub WakesGoOn : Type 0
WakesGoOn =
    (settings : Settings) (program : List Instruction) → program_flaw settings program ≡ None
    → (index inc otherwise end : ℕ)
    → slice_get program index ≡ Some (Calls (DelayUntilNext inc) otherwise end) → 0 < inc

abbrev pub IsSpaced : Option ℕ → Type 0
IsSpaced None = ⊤
IsSpaced (Some units) = 0 < units

-- an interrupt that a session may have, and that comes again only after some time
pub record IsSoundInterrupt (settings : Settings) (interrupt : Interrupt) : Type 0 where
  pub checked : IsCheckedStep settings interrupt.what
  pub kind : is_interrupt interrupt.what ≡ true
  pub spaced : IsSpaced interrupt.every

-- a workload of format 3 within its limits, with a program for each task
pub record IsSoundWorkload (workload : Workload) : Type 0 where
  pub queues : is_some workload.header.queues ≡ true
  pub one_each : length workload.programs ≡ length workload.header.tasks
  pub few : sum_by item_count workload.programs ≤ max_items
  pub programs :
      All (λ program. program_flaw (settings_of workload.header) program ≡ None) workload.programs
  pub interrupts : All (IsSoundInterrupt (settings_of workload.header)) workload.interrupts
  pub ticks : workload.ticks ≤ max_ticks

abbrev pub CheckedIsSound : Type 0
CheckedIsSound = (workload : Workload) → IsCheckedWorkload workload → IsSoundWorkload workload
