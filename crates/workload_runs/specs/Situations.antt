-- Where the run of a workload stands.
use Rattle.std.specs.Prelude.{ℕ, suc, ◌+◌, ◌-◌, ◌*◌, ◌==◌, Bool, false, ◌&&◌, nat_lt, nat_le, List, [], map, find, fold, take, length, slice_get, slice_index_or, slice_set, Option, Some, None, is_none, option_and_then, if◌then◌else◌}
use Rattle.std.specs.Option.{option_map_or}
use Rattle.bench_types.specs.declared.reply.Reply.{Reply}
use Rattle.bench_types.specs.declared.step.Step.{Step}
use Rattle.bench_types.specs.declared.step.Step.TheVariants.{Tick}
use Rattle.bench_types.specs.declared.step.Step.TheVariants as steps
use Rattle.bench_model.specs.Session.{step_of}
use Rattle.bench_model.specs.Start.{start}
use Rattle.bench_model.specs.State.{call_at}
use Rattle.bench_model.specs.Table.{Table}
use Rattle.bench_model.specs.Tally.{is_current}
use Rattle.list_orders.specs.Search.{numbers}
use Rattle.step_times.specs.Times.{time_of}
use Rattle.task_programs.specs.declared.instruction.Instruction.{Instruction}
use Rattle.task_programs.specs.declared.workload.Interrupt.{Interrupt}
use Rattle.task_programs.specs.declared.workload.Workload.{Workload}
use Rattle.task_programs.specs.Workloads.{is_interrupt}
use Rattle.workload_runs.specs.Courses.{Course, answered, first_course, worked}

pub record Situation : Type 0 where
  -- the kernel
  pub table : Table
  -- how far each user task has come, in the order of the header
  pub courses : List Course
  -- the units of time since the start
  pub time : ℕ
  -- the ticks since the start
  pub ticks : ℕ
  -- of each interrupt when it comes next, none where it comes no more
  pub arrivals : List (Option ℕ)

-- ---- what a workload says

abbrev pub units_in : Workload → ℕ
units_in workload = workload.header.config.units

-- the units of time that the run takes
abbrev pub span_of : Workload → ℕ
span_of workload = workload.ticks * units_in workload

abbrev pub program_at : Workload → ℕ → List Instruction
program_at workload user = slice_index_or workload.programs user []

-- an interrupt that would come at or behind the end doesn't come
abbrev pub before_end : ℕ → ℕ → Option ℕ
before_end end time = if nat_lt time end then Some time else None

-- it comes again so many units after the time at which it came
abbrev pub next_arrival : ℕ → ℕ → Interrupt → Option ℕ
next_arrival end time interrupt =
    option_and_then (λ every. before_end end (time + every)) interrupt.every

-- ---- the start

unfoldable pub first_situation : Workload → Situation
first_situation workload = record {
  table = start workload.header;
  courses = map (first_course workload.header.config.tick) workload.programs;
  time = 0;
  ticks = 0;
  arrivals = map (λ interrupt. before_end (span_of workload) interrupt.at) workload.interrupts;
}

-- ---- a step

abbrev pub course_at : List Course → ℕ → Course
course_at courses user = slice_index_or courses user (first_course 0 [])

-- the task is on a core and has no unfinished call
abbrev pub is_working : Table → ℕ → Bool
is_working table task = is_current table.control task && is_none (call_at table.calls task)

-- how far a user task has come when so many units have gone by
abbrev pub course_after : Workload → ℕ → Situation → ℕ → Course
course_after workload units now user =
    if is_working now.table (now.table.settings.cores + user)
    then worked (program_at workload user) units (course_at now.courses user)
    else course_at now.courses user

-- time goes by for all user tasks
abbrev pub courses_in_time : Workload → ℕ → Situation → List Course
courses_in_time workload units now =
    map (course_after workload units now) (numbers (length now.courses))

-- how far the user tasks have come behind a step with its reply: a call takes its task on, time
-- those that work
unfoldable pub courses_after : Workload → Step → Reply → Situation → List Course
courses_after workload (steps.Call core task call) reply now =
    let user = task - now.table.settings.cores in
    slice_set now.courses user
    (answered (program_at workload user) call reply (course_at now.courses user))
courses_after workload step reply now =
    if time_of (units_in workload) step == 0 then now.courses
    else courses_in_time workload (time_of (units_in workload) step) now

-- the interrupt is to come by now
abbrev pub has_come : ℕ → Option ℕ → Bool
has_come time arrival = option_map_or (λ at. nat_le at time) arrival false

-- the first interrupt that is to come by now
unfoldable pub due_interrupt : Situation → Option ℕ
due_interrupt now =
    find (λ index. has_come now.time (slice_index_or now.arrivals index None))
    (numbers (length now.arrivals))

-- the interrupt came
abbrev pub arrivals_without : Workload → Situation → ℕ → List (Option ℕ)
arrivals_without workload now index =
    slice_set now.arrivals index
    (option_and_then (next_arrival (span_of workload) now.time)
    (slice_get workload.interrupts index))

unfoldable pub arrivals_after : Workload → Step → Situation → List (Option ℕ)
arrivals_after workload step now =
    if is_interrupt step
    then option_map_or (arrivals_without workload now) (due_interrupt now) now.arrivals
    else now.arrivals

abbrev pub ticks_after : Step → ℕ → ℕ
ticks_after Tick ticks = suc ticks
ticks_after step ticks = ticks

-- behind a step
unfoldable pub after : Workload → Step → Situation → Situation
after workload step now = let outcome = step_of step now.table in record {
  table = outcome.1;
  courses = courses_after workload step outcome.0 now;
  time = now.time + time_of (units_in workload) step;
  ticks = ticks_after step now.ticks;
  arrivals = arrivals_after workload step now;
}

-- behind steps
abbrev pub after_steps : Workload → Situation → List Step → Situation
after_steps workload now steps = fold (λ now step. after workload step now) now steps

-- at a place of a run: behind so many of its steps
unfoldable pub situation_at : Workload → List Step → ℕ → Situation
situation_at workload run place =
    after_steps workload (first_situation workload) (take place run)
