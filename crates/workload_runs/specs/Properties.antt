-- What holds of the run of a workload that passed its checks.
use Rattle.std.specs.Prelude.{◌≡◌, ◌≢◌, ◌⊎◌, ◌↔◌, ℕ, ◌+◌, ◌-◌, ◌*◌, ◌<◌, ◌≤◌, Bool, true, false, ◌==◌, ◌&&◌, List, [], length, All, Contains, count_by, slice_get, slice_index_or, Option, Some, None, option_map, option_and_then, if◌then◌else◌}
use Rattle.std.specs.Option.{option_map_or}
use Rattle.bench_types.specs.declared.step.Step.{Step}
use Rattle.bench_types.specs.declared.step.Step.TheVariants.{Tick, Pass}
use Rattle.bench_types.specs.declared.step.Step.TheVariants as steps
use Rattle.bench_types.specs.declared.step.Call.{Call}
use Rattle.bench_types.specs.Step.{settings_of, IsCheckedStep}
use Rattle.list_orders.specs.Search.{numbers}
use Rattle.settled_runs.specs.Settled.{is_finish, is_timely, quiet_step, IsSettled}
use Rattle.task_programs.specs.declared.workload.Interrupt.{Interrupt}
use Rattle.task_programs.specs.declared.workload.Workload.{Workload}
use Rattle.task_programs.specs.Workloads.{is_interrupt}
use Rattle.workload_runs.specs.Courses.{next_call}
use Rattle.workload_runs.specs.Rule.{call_on, tick_end, waits_left, works_left}
use Rattle.workload_runs.specs.Situations.{Situation, before_end, course_at, due_interrupt, program_at, situation_at, span_of, units_in}

-- ---- its steps

-- each step is one that a session of the header may have
abbrev pub StepsAreChecked : Workload → List Step → Type 0
StepsAreChecked workload run = All (IsCheckedStep (settings_of workload.header)) run

-- settling the run changes nothing: each switch and each `finish` is made as soon as it may be, and
-- each call is made where it stands
abbrev pub RunIsSettled : Workload → List Step → Type 0
RunIsSettled workload run = IsSettled workload.header run run []

-- ---- calls

-- each call is the one that the program of its task has there, and the work before it is done
abbrev pub CallsAreThoseOfPrograms : Workload → List Step → Type 0
CallsAreThoseOfPrograms workload run =
    (place core task : ℕ) (call : Call) → slice_get run place ≡ Some (steps.Call core task call)
    → is_finish call ≡ false → let now = situation_at workload run place in
    let user = task - now.table.settings.cores in
    next_call (program_at workload user) task (course_at now.courses user) ≡ Some call

-- the core can make no call of its task's program
abbrev pub HasNoCall : Workload → Situation → ℕ → Type 0
HasNoCall workload now core =
    (step : Step) → call_on workload now core ≡ Some step → is_timely now.table step ≡ false

-- a call that is made goes before those of the cores behind its own
abbrev pub LeastCoreCallsFirst : Workload → List Step → Type 0
LeastCoreCallsFirst workload run =
    (place core task less : ℕ) (call : Call)
    → slice_get run place ≡ Some (steps.Call core task call) → is_finish call ≡ false
    → less < core → HasNoCall workload (situation_at workload run place) less

-- an interrupt, a pass, or a tick that a unit of its own takes
abbrev pub comes_behind_calls : ℕ → Step → Bool
comes_behind_calls units (steps.Call core task call) = false
comes_behind_calls units (steps.Switch core) = false
comes_behind_calls units Tick = units == 1
comes_behind_calls units step = true

-- no call comes later than its work allows: no interrupt comes and no time goes by while a core
-- can make one
abbrev pub CallsComeAtOnce : Workload → List Step → Type 0
CallsComeAtOnce workload run =
    (place core : ℕ) (step : Step) → slice_get run place ≡ Some step
    → comes_behind_calls (units_in workload) step ≡ true →
    let now = situation_at workload run place in
    core < now.table.settings.cores → HasNoCall workload now core

-- each call is made at the first place that the work before it allows
pub record CallsAreInOrder (workload : Workload) (run : List Step) : Type 0 where
  pub at_once : CallsComeAtOnce workload run
  pub least_core_first : LeastCoreCallsFirst workload run

-- ---- time

-- each tick ends where its units have gone by, counted from the start, and none is longer
abbrev pub TicksAreOnTime : Workload → List Step → Type 0
TicksAreOnTime workload run =
    (place : ℕ) → place ≤ length run → let now = situation_at workload run place in
    (now.ticks * units_in workload ≤ now.time) × (now.time ≤ tick_end workload now)
    × (slice_get run place ≡ Some Tick
    → (situation_at workload run (place + 1)).time ≡ tick_end workload now)

-- nothing stands between the unit that fills a tick and the tick
abbrev pub FullTicksEnd : Workload → List Step → Type 0
FullTicksEnd workload run =
    (place units : ℕ) → slice_get run place ≡ Some (Pass units) →
    let now = situation_at workload run (place + 1) in
    now.time ≡ tick_end workload now → slice_get run (place + 1) ≡ Some Tick

-- a pass goes beyond no end of a tick, of a work and no interrupt, and ends at one of them
abbrev pub PassesEndWhereSomethingDoes : Workload → List Step → Type 0
PassesEndWhereSomethingDoes workload run =
    (place units : ℕ) → slice_get run place ≡ Some (Pass units) →
    let now = situation_at workload run place in
    (now.time + units ≤ tick_end workload now) × All (λ left. units ≤ left) (works_left now)
    × All (λ left. units ≤ left) (waits_left now)
    × ((now.time + units ≡ tick_end workload now)
    ⊎ (Contains (works_left now) units ⊎ Contains (waits_left now) units))

-- ticks and passes take the time that they are to take
pub record TimeGoesByTicks (workload : Workload) (run : List Step) : Type 0 where
  pub on_time : TicksAreOnTime workload run
  pub full_ticks_end : FullTicksEnd workload run
  pub passes_end : PassesEndWhereSomethingDoes workload run

-- ---- interrupts

-- an interrupt of the workload does the step and is to come now, and none before it is
pub record ComesNow (workload : Workload) (now : Situation) (step : Step) : Type 0 where
  pub index : ℕ
  pub interrupt : Interrupt
  pub stands : slice_get workload.interrupts index ≡ Some interrupt
  pub does : interrupt.what ≡ step
  pub arrives : slice_index_or now.arrivals index None ≡ Some now.time
  pub first :
      (less : ℕ) → less < index → slice_index_or now.arrivals less None ≢ Some now.time

-- each interrupt comes at its time; those of one time come in the order of the workload
abbrev pub InterruptsAreOnTime : Workload → List Step → Type 0
InterruptsAreOnTime workload run =
    (place : ℕ) (step : Step) → slice_get run place ≡ Some step → is_interrupt step ≡ true
    → ComesNow workload (situation_at workload run place) step

-- none is missed: at no place one was to come before
abbrev pub NoInterruptIsMissed : Workload → List Step → Type 0
NoInterruptIsMissed workload run =
    (place index time : ℕ) → place ≤ length run → let now = situation_at workload run place in
    slice_index_or now.arrivals index None ≡ Some time →
    (now.time ≤ time) × (time < span_of workload)

-- at the place of the run that interrupt of the workload comes
abbrev pub is_its_place : Workload → List Step → ℕ → ℕ → Bool
is_its_place workload run index place =
    option_map_or is_interrupt (slice_get run place) false
    && option_map_or (λ due. due == index) (due_interrupt (situation_at workload run place)) false

-- how often that interrupt has come before the place
abbrev pub times_come : Workload → List Step → ℕ → ℕ → ℕ
times_come workload run index place =
    count_by (is_its_place workload run index) (numbers place)

-- when an interrupt comes that has come so often: first at `at`, then again each `every` units
abbrev pub time_after : Interrupt → ℕ → Option ℕ
time_after interrupt came =
    if came == 0 then Some interrupt.at
    else option_map (λ every. interrupt.at + came * every) interrupt.every

-- each interrupt is to come at `at`, and then each `every` units, as far as that is before the end
abbrev pub InterruptsComeAgain : Workload → List Step → Type 0
InterruptsComeAgain workload run =
    (place index : ℕ) (interrupt : Interrupt) → place ≤ length run
    → slice_get workload.interrupts index ≡ Some interrupt →
    slice_index_or (situation_at workload run place).arrivals index None
    ≡ option_and_then (before_end (span_of workload))
    (time_after interrupt (times_come workload run index place))

-- that interrupt of the workload comes at the time
pub record ComesAt (workload : Workload) (run : List Step) (index time : ℕ) : Type 0 where
  pub place : ℕ
  pub within : place < length run
  pub comes : is_its_place workload run index place ≡ true
  pub on_time : (situation_at workload run place).time ≡ time

-- each interrupt comes just at those of its times that are before the end
abbrev pub InterruptsComeAtTheirTimes : Workload → List Step → Type 0
InterruptsComeAtTheirTimes workload run =
    (index time : ℕ) (interrupt : Interrupt)
    → slice_get workload.interrupts index ≡ Some interrupt →
    (ComesAt workload run index time ↔ (time < span_of workload)
    × ((came : ℕ) × (time_after interrupt came ≡ Some time)))

-- each interrupt comes at its times, and at no others
pub record InterruptsComeInTime (workload : Workload) (run : List Step) : Type 0 where
  pub on_time : InterruptsAreOnTime workload run
  pub none_missed : NoInterruptIsMissed workload run
  pub again : InterruptsComeAgain workload run
  pub at_their_times : InterruptsComeAtTheirTimes workload run

-- ---- the end

-- behind the last step so many ticks have come as the workload says, no interrupt is to come any
-- more, and no core can make a call
pub record IsAtItsEnd (workload : Workload) (now : Situation) : Type 0 where
  pub ticks : now.ticks ≡ workload.ticks
  pub arrivals : All (λ arrival. arrival ≡ None) now.arrivals
  pub calls : (core : ℕ) → core < now.table.settings.cores → HasNoCall workload now core
  pub quiet : quiet_step now.table [] ≡ None

abbrev pub RunEndsBehindItsLastTick : Workload → List Step → Type 0
RunEndsBehindItsLastTick workload run =
    IsAtItsEnd workload (situation_at workload run (length run))
