-- Each call of a run is that of its task's program, on the least core that can make one, and at once.
use Rattle.std.proofs.Common.{◌≡◌, ℕ, ◌+◌, ◌-◌, true, false, eqb, Some, None, sym, ap, subst, inl, inr, arith, ◌∙◌}
use Rattle.std.proofs.lemmas.Bool.Decides.{nat_tests}
use Rattle.bench_types.specs.declared.step.Step.{Step}
use Rattle.bench_types.specs.declared.step.Step.TheVariants as steps
use Rattle.bench_types.specs.declared.step.Call.{Call}
use Rattle.bench_types.specs.declared.step.Call.TheVariants.{Finish}
use Rattle.settled_runs.specs.Settled.{is_finish}
use Rattle.task_programs.specs.declared.workload.Workload.{Workload}
use Rattle.task_programs.specs.Workloads.{is_interrupt, IsCheckedWorkload}
use Rattle.workload_runs.specs.Courses.{next_call}
use Rattle.workload_runs.specs.Laws.{EachRun}
use Rattle.workload_runs.specs.Properties.{comes_behind_calls, CallsAreInOrder, CallsAreThoseOfPrograms, CallsComeAtOnce, LeastCoreCallsFirst}
use Rattle.workload_runs.specs.Rule.{interrupt_step, program_call}
use Rattle.workload_runs.specs.Situations.{Situation, course_at, program_at, situation_at, units_in}
use Rattle.workload_runs.proofs.Keeps.{not_full, Keeps}
use Rattle.workload_runs.proofs.Origins.{quiet_piece, FromProgram, IsQuietPiece, Origin}
use Rattle.workload_runs.proofs.Places.{keeps_there, origin_there}
use Rattle.workload_runs.proofs.Programs.{first_call, no_call, on_core}
use Rattle.workload_runs.proofs.Times.{interrupt_made, time_made, TimeMade}
use Rattle.workload_runs.proofs.Workloads.{interrupt_at}

-- the interrupts of a checked workload are such
pub interrupt_kind : (workload : Workload) → IsCheckedWorkload workload → (now : Situation) (step : Step) → interrupt_step workload now ≡ Some step
    → is_interrupt step ≡ true
interrupt_kind workload checked now step made =
    let comes = interrupt_made workload now step made in
    sym (ap is_interrupt comes.does) ∙ (interrupt_at workload checked comes.index comes.interrupt comes.stands).kind

-- a call that begins is one of a program
call_origin : (workload : Workload) → IsCheckedWorkload workload → (now : Situation) (core task : ℕ) (call : Call) → is_finish call ≡ false
    → Origin workload now (steps.Call core task call) → FromProgram workload now (steps.Call core task call)
call_origin workload checked now core task call begins (inl made) = quiet (quiet_piece now.table (steps.Call core task call) made)
  where
    quiet : IsQuietPiece now.table (steps.Call core task call) → FromProgram workload now (steps.Call core task call)
    quiet (inl it) = absurd (let is = it.is in cc is)
    quiet (inr it) = let is = it.is in let same : call ≡ Finish = cc is in absurd (cc (ap is_finish same, begins))
call_origin workload checked now core task call begins (inr (inl it)) = absurd (let is = it.is in cc is)
call_origin workload checked now core task call begins (inr (inr (inl it))) = it
call_origin workload checked now core task call begins (inr (inr (inr (inl it)))) =
    absurd (let kind = interrupt_kind workload checked now (steps.Call core task call) it.made in cc kind)
call_origin workload checked now core task call begins (inr (inr (inr (inr it)))) = which (time_made workload now (steps.Call core task call) it.made).1
  where
    which : TimeMade workload now (steps.Call core task call) → FromProgram workload now (steps.Call core task call)
    which (inl tick) = absurd (let is = tick.1 in cc is)
    which (inr pass) = absurd (let is = pass.1 in cc is)

pub calls_are_those_of_programs : EachRun CallsAreThoseOfPrograms
calls_are_those_of_programs workload run checked is place core task call stands begins =
    let now = situation_at workload run place in
    let step = steps.Call core task call in
    let from = call_origin workload checked now core task call begins (origin_there workload run is place step stands) in
    let first = first_call workload now step from.made in
    let own = on_core workload now first.number step first.is in
    let same = own.is in
    let called : call ≡ own.call = cc same in
    let made : task ≡ now.table.settings.cores + own.user = cc same in
    let user : own.user ≡ task - now.table.settings.cores = omega (arith, made) in
    let users = now.table.settings.cores in
    let first_user : ℕ → Type 0 = λ user. next_call (program_at workload user) (users + own.user) (course_at now.courses user) ≡ Some own.call in
    let by_user : first_user (task - users) = subst first_user user own.next in
    let by_task = subst (λ task'. next_call (program_at workload (task - users)) task' (course_at now.courses (task - users)) ≡ Some own.call) (sym made) by_user in
    by_task ∙ ap Some (sym called)

pub least_core_calls_first : EachRun LeastCoreCallsFirst
least_core_calls_first workload run checked is place core task less call stands begins low step comes =
    let now = situation_at workload run place in
    let made = steps.Call core task call in
    let from = call_origin workload checked now core task call begins (origin_there workload run is place made stands) in
    let first = first_call workload now made from.made in
    let own = on_core workload now first.number made first.is in
    let same = own.is in
    let number : core ≡ first.number = cc same in
    first.least less (omega (arith, number, low)) step comes

-- what comes behind calls comes where there is none
behind_calls : (workload : Workload) (now : Situation) → Keeps workload now → IsCheckedWorkload workload → (step : Step)
    → comes_behind_calls (units_in workload) step ≡ true → Origin workload now step → program_call workload now ≡ None
behind_calls workload now keeps checked step behind (inl made) = quiet (quiet_piece now.table step made)
  where
    quiet : IsQuietPiece now.table step → program_call workload now ≡ None
    quiet (inl it) = absurd (let none = sym (ap (comes_behind_calls (units_in workload)) it.is) ∙ behind in cc none)
    quiet (inr it) = absurd (let none = sym (ap (comes_behind_calls (units_in workload)) it.is) ∙ behind in cc none)
behind_calls workload now keeps checked step behind (inr (inl it)) =
    let test : eqb (units_in workload) 1 ≡ true = sym (ap (comes_behind_calls (units_in workload)) it.is) ∙ behind in
    absurd (not_full workload checked now keeps (grind (arith, nat_tests, test)) it.full)
behind_calls workload now keeps checked step behind (inr (inr (inl it))) =
    let first = first_call workload now step it.made in
    let own = on_core workload now first.number step first.is in
    absurd (let none = sym (ap (comes_behind_calls (units_in workload)) own.is) ∙ behind in cc none)
behind_calls workload now keeps checked step behind (inr (inr (inr (inl it)))) = it.calls
behind_calls workload now keeps checked step behind (inr (inr (inr (inr it)))) = it.calls

pub calls_come_at_once : EachRun CallsComeAtOnce
calls_come_at_once workload run checked is place core step stands behind below =
    let now = situation_at workload run place in
    no_call workload now
    (behind_calls workload now (keeps_there workload run is checked place) checked step behind (origin_there workload run is place step stands)) core below

pub calls_are_in_order : EachRun CallsAreInOrder
calls_are_in_order workload run checked is = record {
  at_once = calls_come_at_once workload run checked is;
  least_core_first = least_core_calls_first workload run checked is;
}
