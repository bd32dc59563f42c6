-- For how many ticks workloads go on.
use Rattle.std.specs.Prelude.{ℕ, Option, Some, None, Result, Ok, Err}
use Rattle.task_programs.specs.declared.flaw.WorkloadFlaw.{WorkloadFlaw}
use Rattle.task_programs.specs.declared.workload.Workload.{Workload}
use Rattle.task_programs.specs.Workloads.{accepted}
use Rattle.edited_workloads.specs.declared.document.EditedWorkload.{EditedWorkload}
use Rattle.view_commands.specs.declared.request.Documents.{Documents}
use Rattle.view_commands.specs.declared.request.Documents.TheVariants.{All, Workloads}

-- for how many, if not for as many as they say
abbrev pub ticks_of : Documents → Option ℕ
ticks_of All = None
ticks_of (Workloads ticks) = ticks

-- the workload that goes on for so many, or for as many as it says
abbrev pub ticked : Option ℕ → Workload → Result Workload WorkloadFlaw
ticked None workload = Ok workload
ticked (Some ticks) workload = accepted (record workload { ticks = ticks })

abbrev pub with_edited :
    Workload → Result Workload WorkloadFlaw → Result EditedWorkload WorkloadFlaw
with_edited workload (Ok made) = Ok (record { workload = workload; edited = Some made })
with_edited workload (Err flaw) = Err flaw

abbrev pub ticked_after :
    Option ℕ → Result Workload WorkloadFlaw → Option Workload
    → Result EditedWorkload WorkloadFlaw
ticked_after ticks (Err flaw) edited = Err flaw
ticked_after ticks (Ok workload) None = Ok (record { workload = workload; edited = None })
ticked_after ticks (Ok workload) (Some made) = with_edited workload (ticked ticks made)

-- the same of the workload and of what its edits leave
abbrev pub both_ticked : Option ℕ → EditedWorkload → Result EditedWorkload WorkloadFlaw
both_ticked ticks made = ticked_after ticks (ticked ticks made.workload) made.edited
