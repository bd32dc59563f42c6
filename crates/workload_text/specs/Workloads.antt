-- A workload document: a session's header, a program in each task, the interrupts, and the ticks.
use Rattle.std.specs.Prelude.{ℕ, List, [], ◌∷◌, ◌==◌, codes, get_or, Option, Some, None, Result, Ok, Err, if◌then◌else◌, ⊤}
use Rattle.serde_json.specs.Data.{Data}
use Rattle.serde_json.specs.Find.{get}
use Rattle.bench_types.specs.declared.flaw.HeaderFlaw.{HeaderFlaw}
use Rattle.bench_types.specs.declared.header.Header.{Header}
use Rattle.bench_types.specs.declared.header.TaskArgs.{TaskArgs}
use Rattle.session_text.specs.declared.detail.BrokenRule.TheVariants as rules
use Rattle.session_text.specs.declared.detail.Detail.{Detail}
use Rattle.session_text.specs.declared.detail.Detail.TheVariants as detail
use Rattle.session_text.specs.declared.fault.TextFault.{TextFault}
use Rattle.session_text.specs.declared.fault.Why.TheVariants.{Bench}
use Rattle.session_text.specs.declared.format.Format.TheVariants.{Three}
use Rattle.session_text.specs.Accepted.{header_fault}
use Rattle.session_text.specs.Array.{list_at}
use Rattle.session_text.specs.Header.{accepted, settings_at}
use Rattle.session_text.specs.Member.{number_at, object_at, only_at, text_at}
use Rattle.session_text.specs.Names.{TaskNames, known_names}
use Rattle.session_text.specs.Path.{item_path, member_path, path_text}
use Rattle.session_text.specs.ReadingRules.{◌>>=◌, bad_shape}
use Rattle.session_text.specs.Session.{document}
use Rattle.task_programs.specs.declared.flaw.InstructionFlaw.{InstructionFlaw}
use Rattle.task_programs.specs.declared.flaw.InstructionFlaw.TheVariants as instructions
use Rattle.task_programs.specs.declared.flaw.InterruptFlaw.{InterruptFlaw}
use Rattle.task_programs.specs.declared.flaw.InterruptFlaw.TheVariants as interrupts
use Rattle.task_programs.specs.declared.flaw.WorkloadFlaw.{WorkloadFlaw}
use Rattle.task_programs.specs.declared.flaw.WorkloadFlaw.TheVariants as workloads
use Rattle.task_programs.specs.declared.instruction.Instruction.{Instruction}
use Rattle.task_programs.specs.declared.workload.Interrupt.{Interrupt}
use Rattle.task_programs.specs.declared.workload.Workload.{Workload}
use Rattle.task_programs.specs.Flaw.{workload_fault}
use Rattle.task_programs.specs.Limits.{max_items, max_nesting, max_ticks}
use Rattle.task_programs.specs.Workloads.{workload_flaw}
use Rattle.workload_text.specs.Interrupts.{interrupts_at}
use Rattle.workload_text.specs.Items.{branch_at, items_at}
use Rattle.workload_text.specs.Places.{place_in}

-- `format` is 3
abbrev pub three_or : List ℕ → ℕ → Result ⊤ TextFault
three_or at format =
    if format == 3 then Ok tt else Err (bad_shape (member_path at (codes "format")) detail.NoFormat)

unfoldable pub format_at : List ℕ → Data → Result ⊤ TextFault
format_at at d = do
  format ← number_at at (codes "format") d
  three_or at format

abbrev pub task_members : List (List ℕ)
task_members = codes "name" ∷ codes "priority" ∷ codes "mask" ∷ codes "program" ∷ []

-- a user task, whose name may be any text here; its program is read once all names are known
unfoldable pub task_at : List ℕ → Data → Result TaskArgs TextFault
task_at at d = do
  members ← object_at at d
  name ← text_at at (codes "name") d
  priority ← number_at at (codes "priority") d
  mask ← number_at at (codes "mask") d
  only ← only_at at task_members members
  Ok (record { name = name; priority = priority; mask = mask })

-- the header, accepted or not: its shape alone is judged
unfoldable pub header_at : List ℕ → Data → Result (Result Header HeaderFlaw) TextFault
header_at at d = do
  settings ← settings_at Three at d
  tasks ← list_at task_at at (codes "tasks") d
  Ok (accepted (record { config = settings.0; queues = settings.1; tasks = tasks }))

-- in a program lists of items stand in one another at most this often: one more than items may have
-- loops and calls with branches around them
abbrev pub most_lists : ℕ
most_lists = 17

-- the program of a task, which may be left out
abbrev pub program_at : TaskNames → List ℕ → Data → Result (List Instruction) TextFault
program_at names at d = branch_at (items_at most_lists names) at (codes "program") 0 d

abbrev pub workload_members : List (List ℕ)
workload_members =
    codes "format" ∷ codes "cores" ∷ codes "priorities" ∷ codes "slicing" ∷ codes "tick"
    ∷ codes "mutexes" ∷ codes "notes" ∷ codes "queues" ∷ codes "units" ∷ codes "tasks"
    ∷ codes "interrupts" ∷ codes "ticks" ∷ []

-- what a document has: the header, accepted or not, the programs, the interrupts and the ticks
abbrev pub Shapes : Type 0
Shapes = Result Header HeaderFlaw × List (List Instruction) × List Interrupt × ℕ

-- the programs, the interrupts and the ticks, under the names of the header
unfoldable pub contents_at : Result Header HeaderFlaw → List ℕ → Data → Result Shapes TextFault
contents_at header at d = do
  programs ← list_at (program_at (known_names header)) at (codes "tasks") d
  interrupts ← interrupts_at (known_names header) at d
  ticks ← number_at at (codes "ticks") d
  Ok (header, programs, interrupts, ticks)

-- shapes alone are judged
unfoldable pub shapes_at : List ℕ → Data → Result Shapes TextFault
shapes_at at d = do
  members ← object_at at d
  format ← format_at at d
  header ← header_at at d
  shapes ← contents_at header at d
  only ← only_at at workload_members members
  Ok shapes

-- Where the flaw of a workload stands, and what is told of it.

-- the location of an instruction of a task's program
abbrev pub instruction_path : List ℕ → List (List Instruction) → ℕ → ℕ → List ℕ
instruction_path at programs task index =
    place_in (get_or programs task []) index most_lists
    (member_path (item_path (member_path at (codes "tasks")) task) (codes "program")) 0

abbrev pub flaw_path : List ℕ → Workload → WorkloadFlaw → List ℕ
flaw_path at workload (workloads.Header flaw) = at
flaw_path at workload workloads.NoQueues = at
flaw_path at workload (workloads.Programs programs) = at
flaw_path at workload workloads.Items = member_path at (codes "tasks")
flaw_path at workload (workloads.Instruction task index flaw) =
    instruction_path at workload.programs task index
flaw_path at workload (workloads.Interrupt index flaw) =
    item_path (member_path at (codes "interrupts")) index
flaw_path at workload (workloads.Ticks ticks) = member_path at (codes "ticks")

-- what is known of a flaw; no program that was read is misplaced
abbrev pub instruction_detail : InstructionFlaw → Detail
instruction_detail instructions.Unreached = detail.Rule rules.Unreached
instruction_detail instructions.NoWork = detail.Rule rules.NoWork
instruction_detail (instructions.Step flaw) = detail.Step flaw
instruction_detail instructions.Finish = detail.Rule rules.Finish
instruction_detail instructions.NoRounds = detail.Rule rules.NoRounds
instruction_detail instructions.NoBody = detail.Rule rules.NoBody
instruction_detail instructions.NoLoop = detail.Rule rules.NoLoop
instruction_detail instructions.Nesting = detail.Rule (rules.Nesting max_nesting)
instruction_detail instructions.Misplaced = detail.None

-- no workload that was read has an interrupt that is none
abbrev pub interrupt_detail : InterruptFlaw → Detail
interrupt_detail interrupts.NoPeriod = detail.Rule rules.NoPeriod
interrupt_detail interrupts.NoInterrupt = detail.None
interrupt_detail (interrupts.Step flaw) = detail.Step flaw

-- the header of a workload that was read is accepted, and it has a program for each task
abbrev pub flaw_detail : WorkloadFlaw → Detail
flaw_detail (workloads.Header flaw) = detail.None
flaw_detail workloads.NoQueues = detail.None
flaw_detail (workloads.Programs count) = detail.None
flaw_detail workloads.Items = detail.Rule (rules.Items max_items)
flaw_detail (workloads.Instruction task index flaw) = instruction_detail flaw
flaw_detail (workloads.Interrupt index flaw) = interrupt_detail flaw
flaw_detail (workloads.Ticks ticks) = detail.Rule (rules.Ticks max_ticks)

abbrev pub flaw_told : List ℕ → Workload → WorkloadFlaw → TextFault
flaw_told at workload flaw = record {
  why = Bench (workload_fault flaw);
  path = path_text (flaw_path at workload flaw);
  detail = flaw_detail flaw;
}

abbrev pub verdict : List ℕ → Workload → Option WorkloadFlaw → Result Workload TextFault
verdict at workload None = Ok workload
verdict at workload (Some flaw) = Err (flaw_told at workload flaw)

abbrev pub judged : List ℕ → Workload → Result Workload TextFault
judged at workload = verdict at workload (workload_flaw workload)

-- F1 of the header comes first
abbrev pub accepted_under :
    List ℕ → Result Header HeaderFlaw → List (List Instruction) → List Interrupt → ℕ
    → Result Workload TextFault
accepted_under at (Err flaw) programs interrupts ticks = Err (header_fault at flaw)
accepted_under at (Ok header) programs interrupts ticks =
    judged at (record {
      header = header;
      programs = programs;
      interrupts = interrupts;
      ticks = ticks;
    })

abbrev pub workload_accepted : List ℕ → Shapes → Result Workload TextFault
workload_accepted at shapes = accepted_under at shapes.0 shapes.1 shapes.2 shapes.3

unfoldable pub workload_at : List ℕ → Data → Result Workload TextFault
workload_at at d = do
  shapes ← shapes_at at d
  workload_accepted at shapes

abbrev pub holder_members : List (List ℕ)
holder_members = codes "workload" ∷ []

-- the workload that was found as the only member of an object
unfoldable pub held_at : List ℕ → Data → Data → Result Workload TextFault
held_at at d inner = do
  members ← object_at at d
  shapes ← shapes_at (member_path at (codes "workload")) inner
  only ← only_at at holder_members members
  workload_accepted (member_path at (codes "workload")) shapes

abbrev workload_with : List ℕ → Data → Option Data → Result Workload TextFault
workload_with at d (Some inner) = held_at at d inner
workload_with at d None = workload_at at d

-- what has no member `workload` is read as a workload
abbrev pub document_at : List ℕ → Data → Result Workload TextFault
document_at at d = workload_with at d (get (codes "workload") d)

-- the workload that a text spells, or its first fault
unfoldable pub workload_text : List ℕ → Result Workload TextFault
workload_text text = do
  d ← document text
  document_at [] d
