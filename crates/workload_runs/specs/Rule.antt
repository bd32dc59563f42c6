-- The run of a workload: which step stands at each of its places.
use Rattle.std.specs.Prelude.{◌≡◌, ◌<◌, ℕ, suc, ◌+◌, ◌-◌, ◌*◌, ◌==◌, Bool, nat_lt, nat_le, min, List, [], ◌∷◌, map, find, filter, fold, length, slice_get, Option, Some, None, option_map, option_and_then, if◌then◌else◌, ⊤}
use Rattle.std.specs.List.{filter_map}
use Rattle.std.specs.Option.{option_or}
use Rattle.bench_types.specs.declared.step.Step.{Step}
use Rattle.bench_types.specs.declared.step.Step.TheVariants.{Tick, Pass}
use Rattle.bench_types.specs.declared.step.Step.TheVariants as steps
use Rattle.bench_types.specs.Limits.{max_steps}
use Rattle.bench_model.specs.Control.{current}
use Rattle.list_orders.specs.Search.{numbers}
use Rattle.settled_runs.specs.Settled.{is_timely, quiet_step, runs_user_task}
use Rattle.task_programs.specs.declared.workload.Workload.{Workload}
use Rattle.workload_runs.specs.Courses.{next_call}
use Rattle.workload_runs.specs.Situations.{Situation, after, course_at, due_interrupt, first_situation, is_working, program_at, units_in}

-- ---- calls

-- the call that the user task makes next
abbrev pub call_of_user : Workload → Situation → ℕ → ℕ → Option Step
call_of_user workload now core user =
    let task = now.table.settings.cores + user in
    option_map (λ call. steps.Call core task call)
    (next_call (program_at workload user) task (course_at now.courses user))

-- the call that the current task of the core makes next; an idle task makes none
abbrev pub call_on : Workload → Situation → ℕ → Option Step
call_on workload now core =
    if runs_user_task now.table core
    then call_of_user workload now core
    (current now.table.control core - now.table.settings.cores)
    else None

-- such calls, core 0 first
abbrev pub next_calls : Workload → Situation → List Step
next_calls workload now =
    filter_map (call_on workload now) (numbers now.table.settings.cores)

-- the first that is not refused with E1 to E5
unfoldable pub program_call : Workload → Situation → Option Step
program_call workload now = find (is_timely now.table) (next_calls workload now)

-- ---- interrupts

-- what the first interrupt does that is to come by now
unfoldable pub interrupt_step : Workload → Situation → Option Step
interrupt_step workload now =
    option_and_then
    (λ index. option_map (λ interrupt. interrupt.what) (slice_get workload.interrupts index))
    (due_interrupt now)

-- ---- time

-- the units of time from the start to the end of this tick
abbrev pub tick_end : Workload → Situation → ℕ
tick_end workload now = suc now.ticks * units_in workload

abbrev pub is_over : Workload → Situation → Bool
is_over workload now = nat_le workload.ticks now.ticks

-- the units that fill a tick have gone by, and nothing stands between the last of them and the tick
abbrev pub full_tick : Workload → Situation → Option Step
full_tick workload now =
    if nat_le (tick_end workload now) now.time then Some Tick else None

-- the units that are left of the work of each user task that works
abbrev pub works_left : Situation → List ℕ
works_left now =
    filter (λ left. nat_lt 0 left)
    (map (λ user. if is_working now.table (now.table.settings.cores + user)
    then (course_at now.courses user).left else 0)
    (numbers (length now.courses)))

-- the units that are left until each interrupt comes
abbrev pub waits_left : Situation → List ℕ
waits_left now =
    filter_map (λ arrival. option_map (λ at. at - now.time) arrival) now.arrivals

-- the least of the numbers, or the bound where it is less
abbrev pub least : ℕ → List ℕ → ℕ
least bound numbers = fold min bound numbers

-- time goes by until the tick ends, a work does, or an interrupt comes
abbrev pub pass_units : Workload → Situation → ℕ
pass_units workload now =
    least (least (tick_end workload now - now.time) (works_left now)) (waits_left now)

-- behind the last tick it goes on no more; where a tick has one unit, it goes on by ticks
unfoldable pub time_step : Workload → Situation → Option Step
time_step workload now =
    if is_over workload now then None
    else (if units_in workload == 1 then Some Tick else Some (Pass (pass_units workload now)))

-- ---- the rule

-- The step that comes next: a switch or a `finish`, as quiet work; else the tick where the units of
-- one have gone by; else a call; else an interrupt; else time goes on.
unfoldable pub next_step : Workload → Situation → Option Step
next_step workload now =
    option_or (quiet_step now.table [])
    (option_or (full_tick workload now)
    (option_or (program_call workload now)
    (option_or (interrupt_step workload now) (time_step workload now))))

-- the steps are the next ones from there on
abbrev pub AreNext : Workload → Situation → List Step → Type 0
AreNext workload now [] = ⊤
AreNext workload now (step ∷ steps) =
    (next_step workload now ≡ Some step) × AreNext workload (after workload step now) steps

-- from there on these are all steps of the run
abbrev pub IsRunFrom : Workload → Situation → List Step → Type 0
IsRunFrom workload now [] = next_step workload now ≡ None
IsRunFrom workload now (step ∷ steps) =
    (next_step workload now ≡ Some step) × IsRunFrom workload (after workload step now) steps

-- the run of a workload
abbrev pub IsRunOf : Workload → List Step → Type 0
IsRunOf workload run = IsRunFrom workload (first_situation workload) run

-- the run of the workload has more steps than a session may have, or it never ends
pub record IsTooLong (workload : Workload) : Type 0 where
  pub beginning : List Step
  pub next : AreNext workload (first_situation workload) beginning
  pub longer : max_steps < length beginning
