-- How a step changes how far the user tasks, the time and the interrupts have come.
use Rattle.std.proofs.Common.{◌≡◌, ℕ, ◌+◌, ◌-◌, cond, eqb, refl, sym, ap, ◌∙◌, arith}
use Rattle.std.specs.Prelude.{slice_set}
use Rattle.bench_types.specs.declared.reply.Reply.{Reply}
use Rattle.bench_types.specs.declared.step.Call.{Call}
use Rattle.bench_types.specs.declared.step.Step.{Step}
use Rattle.bench_types.specs.declared.step.Step.TheVariants.{Tick, Switch, Interrupt, QueueInterrupt, ResumeInterrupt, Pass}
use Rattle.bench_types.specs.declared.step.Step.TheVariants as steps
use Rattle.bench_model.specs.Session.{step_of}
use Rattle.step_times.specs.Times.{time_of}
use Rattle.task_programs.specs.declared.workload.Workload.{Workload}
use Rattle.task_programs.specs.Workloads.{is_interrupt}
use Rattle.workload_runs.specs.Courses.{answered}
use Rattle.workload_runs.specs.Situations.{Situation, after, arrivals_after, course_at, courses_after, due_interrupt, program_at, span_of, ticks_after, units_in}
use Rattle.simulating.specs.declared.progress.Progress.{Progress}
use Rattle.simulating.specs.Progress.{arrived, courses_worked, IsAnswered, IsNoCall, Keeps}

gone_courses : (workload : Workload) (step : Step) (reply : Reply) (now : Situation) → IsNoCall step
    → cond (eqb (time_of (units_in workload) step) 0) now.courses
    (courses_worked now.table workload.programs (time_of (units_in workload) step) now.courses)
    ≡ courses_after workload step reply now
unfolding courses_after
gone_courses workload Tick reply now other = refl
gone_courses workload (Switch core) reply now other = refl
gone_courses workload (Interrupt core note) reply now other = refl
gone_courses workload (QueueInterrupt core queue direction) reply now other = refl
gone_courses workload (ResumeInterrupt core task) reply now other = refl
gone_courses workload (Pass units) reply now other = refl
gone_courses workload (steps.Call core task call) reply now other = absurd other

gone_arrivals : (workload : Workload) (step : Step) (now : Situation)
    → cond (is_interrupt step) (arrived (span_of workload) now.time workload.interrupts now.arrivals) now.arrivals ≡ arrivals_after workload step now
unfolding arrivals_after due_interrupt
gone_arrivals workload step now = refl

-- a step that is no call
pub keeps_gone : (workload : Workload) (step : Step) (now : Situation) (before later : Progress) → IsNoCall step → Keeps now before
    → later.courses.items
    ≡ cond (eqb (time_of (units_in workload) step) 0) before.courses.items
    (courses_worked now.table workload.programs (time_of (units_in workload) step) before.courses.items)
    → later.time ≡ before.time + time_of (units_in workload) step → later.ticks ≡ ticks_after step before.ticks
    → later.arrivals.items
    ≡ cond (is_interrupt step) (arrived (span_of workload) before.time workload.interrupts before.arrivals.items) before.arrivals.items
    → Keeps (after workload step now) later
unfolding after
keeps_gone workload step now before later other keeps courses time ticks arrivals = record {
  courses = courses ∙ (λ i. cond (eqb (time_of (units_in workload) step) 0) (keeps.courses i)
      (courses_worked now.table workload.programs (time_of (units_in workload) step) (keeps.courses i)))
      ∙ gone_courses workload step (step_of step now.table).0 now other;
  time = time ∙ ap (λ time. time + time_of (units_in workload) step) keeps.time;
  ticks = ticks ∙ ap (ticks_after step) keeps.ticks;
  arrivals = arrivals ∙ (λ i. cond (is_interrupt step) (arrived (span_of workload) (keeps.time i) workload.interrupts (keeps.arrivals i)) (keeps.arrivals i))
      ∙ gone_arrivals workload step now;
}

-- a call and its answer
pub keeps_answered : (workload : Workload) (now : Situation) (core task user : ℕ) (call : Call) (reply : Reply) (before later : Progress)
    → user ≡ task - now.table.settings.cores → reply ≡ (step_of (steps.Call core task call) now.table).0 → Keeps now before
    → IsAnswered workload user call reply before later → Keeps (after workload (steps.Call core task call) now) later
unfolding after courses_after arrivals_after
keeps_answered workload now core task user call reply before later users replies keeps is = record {
  courses = is.courses ∙ (λ i. slice_set (keeps.courses i) (users i)
      (answered (program_at workload (users i)) call (replies i) (course_at (keeps.courses i) (users i))));
  time = omega (arith, is.time, keeps.time);
  ticks = is.ticks ∙ keeps.ticks;
  arrivals = is.arrivals ∙ keeps.arrivals;
}

-- where it is none in the code, it is none
pub no_call : (step : Step) → ((core task : ℕ) (call : Call) → step ≡ steps.Call core task call → ⊥) → IsNoCall step
no_call Tick other = tt
no_call (Switch core) other = tt
no_call (Interrupt core note) other = tt
no_call (QueueInterrupt core queue direction) other = tt
no_call (ResumeInterrupt core task) other = tt
no_call (Pass units) other = tt
no_call (steps.Call core task call) other = other core task call refl
