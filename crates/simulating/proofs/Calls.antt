-- The calls that come next.
use Rattle.std.proofs.Common.{◌≡◌, ℕ, ◌+◌, ◌-◌, ◌<◌, ◌≤◌, List, [], Option, Some, None, refl, sym, ap, ◌∙◌}
use Rattle.std.specs.Prelude.{option_and_then, option_map, slice_get}
use Rattle.bench_types.specs.declared.step.Call.{Call}
use Rattle.bench_types.specs.declared.step.Step.{Step}
use Rattle.bench_types.specs.declared.step.Step.TheVariants as steps
use Rattle.task_programs.specs.declared.instruction.Instruction.{Instruction}
use Rattle.task_programs.specs.declared.workload.Interrupt.{Interrupt}
use Rattle.task_programs.specs.declared.workload.Workload.{Workload}
use Rattle.workload_runs.specs.Courses.{next_call, Course}
use Rattle.std.specs.List.{find}
use Rattle.settled_runs.specs.Settled.{is_timely}
use Rattle.workload_runs.specs.Rule.{call_of_user, interrupt_step, next_calls, program_call}
use Rattle.workload_runs.specs.Situations.{Situation, course_at, due_interrupt, program_at}
use Rattle.simulating.specs.Progress.{due_at}

pub call_known :
    (workload : Workload) (now : Situation) (core user task : ℕ) (program : List Instruction) (course : Course) (found : Option Call)
    → program ≡ program_at workload user → task ≡ now.table.settings.cores + user → course ≡ course_at now.courses user
    → found ≡ next_call program task course → option_map (λ call. steps.Call core task call) found ≡ call_of_user workload now core user
call_known workload now core user task program course found programs tasks courses is =
    ap (option_map (λ call. steps.Call core task call)) is
    ∙ λ i. option_map (λ call. steps.Call core (tasks i) call) (next_call (programs i) (tasks i) (courses i))

pub program_call_known : (workload : Workload) (now : Situation) (found : Option Step) → found ≡ find (is_timely now.table) (next_calls workload now)
    → found ≡ program_call workload now
unfolding program_call
program_call_known workload now found is = is

pub interrupt_known :
    (workload : Workload) (now : Situation) (arrivals : List (Option ℕ)) (time : ℕ) (due : Option ℕ) → arrivals ≡ now.arrivals → time ≡ now.time
    → due ≡ due_at time arrivals
    → option_and_then (λ index. option_map (λ (interrupt : Interrupt). interrupt.what) (slice_get workload.interrupts index)) due ≡ interrupt_step workload now
unfolding interrupt_step due_interrupt
interrupt_known workload now arrivals time due arrivals_are time_is is =
    ap (option_and_then (λ index. option_map (λ (interrupt : Interrupt). interrupt.what) (slice_get workload.interrupts index)))
    (is ∙ λ i. due_at (time_is i) (arrivals_are i))
