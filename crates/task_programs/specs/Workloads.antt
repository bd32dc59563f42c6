-- For what a workload is not accepted: the first of these things, its header, how many programs and
-- items there are, then each program, each interrupt, and the ticks.
use Rattle.std.specs.Prelude.{◌≡◌, ℕ, ◌+◌, ◌<◌, ◌^◌, ◌==◌, Bool, true, false, nat_lt, List, [], ◌∷◌, length, All, Option, Some, None, is_some, option_map, Result, Ok, Err, if◌then◌else◌, ⊤}
use Rattle.std.specs.List.{sum_by}
use Rattle.std.specs.Option.{option_or}
use Rattle.bench_types.specs.declared.header.Header.{Header}
use Rattle.bench_types.specs.declared.kernel_data.Settings.{Settings}
use Rattle.bench_types.specs.declared.step.Step.{Step}
use Rattle.bench_types.specs.declared.step.Step.TheVariants as step
use Rattle.bench_types.specs.Flaw.{header_flaw as flaw_of_header}
use Rattle.bench_types.specs.Header.{IsCheckedHeader}
use Rattle.bench_types.specs.Step.{settings_of, IsStepOfWords}
use Rattle.bench_types.specs.StepFlaw.{step_flaw}
use Rattle.task_programs.specs.declared.flaw.InterruptFlaw.{InterruptFlaw}
use Rattle.task_programs.specs.declared.flaw.InterruptFlaw.TheVariants as interrupts
use Rattle.task_programs.specs.declared.flaw.WorkloadFlaw.{WorkloadFlaw}
use Rattle.task_programs.specs.declared.flaw.WorkloadFlaw.TheVariants as workloads
use Rattle.task_programs.specs.declared.instruction.Instruction.{Instruction}
use Rattle.task_programs.specs.declared.workload.Interrupt.{Interrupt}
use Rattle.task_programs.specs.declared.workload.Workload.{Workload}
use Rattle.task_programs.specs.Limits.{max_items, max_ticks}
use Rattle.task_programs.specs.Programs.{item_count, program_flaw, IsInstructionOfWords}

-- a workload is of format 3, which says which queues there are
abbrev pub header_flaw : Header → Option WorkloadFlaw
header_flaw header =
    option_or (option_map workloads.Header (flaw_of_header header))
    (if is_some header.queues then None else Some workloads.NoQueues)

-- one program a task
abbrev pub count_flaw : Header → List (List Instruction) → Option WorkloadFlaw
count_flaw header programs =
    if length programs == length header.tasks then None
    else Some (workloads.Programs (length programs))

-- the items of all programs
abbrev pub items_flaw : List (List Instruction) → Option WorkloadFlaw
items_flaw programs =
    if nat_lt max_items (sum_by item_count programs) then Some workloads.Items else None

-- the first flaw of the programs from a task's on
abbrev pub programs_flaw : Settings → ℕ → List (List Instruction) → Option WorkloadFlaw
programs_flaw settings task [] = None
programs_flaw settings task (program ∷ rest) =
    option_or
    (option_map (λ found. workloads.Instruction task found.0 found.1)
    (program_flaw settings program))
    (programs_flaw settings (task + 1) rest)

abbrev pub is_interrupt : Step → Bool
is_interrupt step.Tick = false
is_interrupt (step.Switch core) = false
is_interrupt (step.Call core task call) = false
is_interrupt (step.Interrupt core note) = true
is_interrupt (step.QueueInterrupt core queue direction) = true
is_interrupt (step.ResumeInterrupt core task) = true
is_interrupt (step.Pass units) = false

abbrev pub period_flaw : Option ℕ → Option InterruptFlaw
period_flaw None = None
period_flaw (Some units) = if units == 0 then Some interrupts.NoPeriod else None

-- of what its handler does
abbrev pub handler_flaw : Settings → Step → Option InterruptFlaw
handler_flaw settings what =
    if is_interrupt what then option_map interrupts.Step (step_flaw settings what)
    else Some interrupts.NoInterrupt

abbrev pub interrupt_flaw : Settings → Interrupt → Option InterruptFlaw
interrupt_flaw settings interrupt =
    option_or (period_flaw interrupt.every) (handler_flaw settings interrupt.what)

-- the first flaw of the interrupts from an index on
abbrev pub interrupts_flaw : Settings → ℕ → List Interrupt → Option WorkloadFlaw
interrupts_flaw settings index [] = None
interrupts_flaw settings index (interrupt ∷ rest) =
    option_or
    (option_map (λ flaw. workloads.Interrupt index flaw) (interrupt_flaw settings interrupt))
    (interrupts_flaw settings (index + 1) rest)

abbrev pub ticks_flaw : ℕ → Option WorkloadFlaw
ticks_flaw ticks = if nat_lt max_ticks ticks then Some (workloads.Ticks ticks) else None

-- the first flaw of what stands under a header that has none
unfoldable pub contents_flaw : Workload → Option WorkloadFlaw
contents_flaw workload =
    option_or
    (option_or
    (option_or (option_or (count_flaw workload.header workload.programs)
    (items_flaw workload.programs))
    (programs_flaw (settings_of workload.header) 0 workload.programs))
    (interrupts_flaw (settings_of workload.header) 0 workload.interrupts))
    (ticks_flaw workload.ticks)

-- the first flaw of a workload
unfoldable pub workload_flaw : Workload → Option WorkloadFlaw
workload_flaw workload = option_or (header_flaw workload.header) (contents_flaw workload)

-- each number is one of 32 bits, times are of 64
abbrev pub IsPeriodOfWord : Option ℕ → Type 0
IsPeriodOfWord None = ⊤
IsPeriodOfWord (Some units) = units < 2 ^ 64

pub record IsInterruptOfWords (interrupt : Interrupt) : Type 0 where
  pub at : interrupt.at < 2 ^ 64
  pub every : IsPeriodOfWord interrupt.every
  pub what : IsStepOfWords interrupt.what

-- a workload that was checked
pub record IsCheckedWorkload (workload : Workload) : Type 0 where
  pub passes : workload_flaw workload ≡ None
  pub header : IsCheckedHeader workload.header
  pub programs : All (All IsInstructionOfWords) workload.programs
  pub interrupts : All IsInterruptOfWords workload.interrupts

-- the workload, or its first flaw
abbrev pub verdict : Workload → Option WorkloadFlaw → Result Workload WorkloadFlaw
verdict workload None = Ok workload
verdict workload (Some flaw) = Err flaw

abbrev pub accepted : Workload → Result Workload WorkloadFlaw
accepted workload = verdict workload (workload_flaw workload)
