-- What the run of a workload keeps beside the kernel, and how a step changes it.
use Rattle.std.specs.Prelude.{◌≡◌, ◌≤◌, ◌<◌, ◌+◌, ◌^◌, ℕ, Bool, List, length, find, map, Option, None, [], option_and_then, slice_get, slice_index_or, slice_set, if◌then◌else◌, ⊤}
use Rattle.std.specs.Option.{option_map_or}
use Rattle.bench_types.specs.declared.reply.Reply.{Reply}
use Rattle.bench_types.specs.declared.step.Call.{Call}
use Rattle.bench_types.specs.declared.step.Step.{Step}
use Rattle.bench_types.specs.declared.step.Step.TheVariants as steps
use Rattle.bench_model.specs.Equal.{StandsFor}
use Rattle.bench_model.specs.Lists.{View}
use Rattle.bench_model.specs.Table.{Table}
use Rattle.list_orders.specs.Search.{numbers}
use Rattle.task_programs.specs.declared.instruction.Instruction.{Instruction}
use Rattle.task_programs.specs.declared.workload.Interrupt.{Interrupt}
use Rattle.task_programs.specs.declared.workload.Workload.{Workload}
use Rattle.workload_runs.specs.Courses.{answered, worked, Course}
use Rattle.workload_runs.specs.Ends.{is_at_end}
use Rattle.workload_runs.specs.Situations.{Situation, after, course_at, first_situation, has_come, is_working, next_arrival, program_at}
use Rattle.simulating.specs.declared.progress.Progress.{Progress}

-- the first interrupt that is to come by the time
abbrev pub due_at : ℕ → List (Option ℕ) → Option ℕ
due_at time arrivals =
    find (λ index. has_come time (slice_index_or arrivals index None)) (numbers (length arrivals))

-- the first interrupt that is to come by the time came
abbrev pub arrived : ℕ → ℕ → List Interrupt → List (Option ℕ) → List (Option ℕ)
arrived end time interrupts arrivals =
    option_map_or (λ index. slice_set arrivals index
    (option_and_then (next_arrival end time) (slice_get interrupts index)))
    (due_at time arrivals) arrivals

-- how far each user task has come when so many units have gone by
abbrev pub courses_worked : Table → List (List Instruction) → ℕ → List Course → List Course
courses_worked table programs units courses =
    map (λ user. if is_working table (table.settings.cores + user)
    then worked (slice_index_or programs user []) units (course_at courses user)
    else course_at courses user)
    (numbers (length courses))

-- of each user task whether it is at the end of its program
abbrev pub ends_at : List (List Instruction) → List Course → List Bool
ends_at programs courses =
    map (λ user. is_at_end (slice_index_or programs user []) (course_at courses user))
    (numbers (length courses))

-- it keeps what is known of where the run stands
pub record Keeps (now : Situation) (progress : Progress) : Type 0 where
  pub courses : progress.courses.items ≡ now.courses
  pub time : progress.time ≡ now.time
  pub ticks : progress.ticks ≡ now.ticks
  pub arrivals : progress.arrivals.items ≡ now.arrivals

abbrev pub IsAtStart : Workload → Progress → Type 0
IsAtStart workload progress = Keeps (first_situation workload) progress

-- the call of the user task was answered, and nothing else changed
pub record IsAnswered (workload : Workload) (user : ℕ) (call : Call) (reply : Reply)
    (before after : Progress) : Type 0 where
  pub courses :
      after.courses.items
      ≡ slice_set before.courses.items user
      (answered (program_at workload user) call reply (course_at before.courses.items user))
  pub time : after.time ≡ before.time
  pub ticks : after.ticks ≡ before.ticks
  pub arrivals : after.arrivals.items ≡ before.arrivals.items

-- there is a course and a program of each user task, and the numbers are small
pub record MayGoBy (workload : Workload) (kernel : View) (progress : Progress) : Type 0 where
  pub tasks :
      kernel.settings.cores + length progress.courses.items ≡ kernel.settings.tasks
  pub programs : length workload.programs ≡ length progress.courses.items
  pub time : progress.time < 2 ^ 63
  pub ticks : progress.ticks < 2 ^ 31

-- it is no call
abbrev pub IsNoCall : Step → Type 0
IsNoCall (steps.Call core task call) = ⊥
IsNoCall step = ⊤

-- the step changed it as the rules say
abbrev pub IsGone : Workload → View → Step → Progress → Progress → Type 0
IsGone workload kernel step before later =
    (now : Situation) → StandsFor kernel now.table → IsNoCall step → Keeps now before
    → Keeps (after workload step now) later
