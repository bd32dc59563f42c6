-- How far a run that keeps work was made.
use Rattle.std.specs.Prelude.{◌≡◌, ◌<◌, ◌≤◌, ◌*◌, ◌^◌, ◌==◌, ℕ, Bool, true, false, not, List, length, drop, All, Option, Some, None, if◌then◌else◌}
use Rattle.std.specs.Option.{option_map_or}
use Rattle.bench_types.specs.declared.header.Header.{Header}
use Rattle.bench_types.specs.declared.kernel_data.Settings.{Settings}
use Rattle.bench_types.specs.declared.step.Step.{Step}
use Rattle.bench_types.specs.declared.step.Step.TheVariants as steps
use Rattle.bench_types.specs.Limits.{max_steps}
use Rattle.bench_types.specs.Step.{settings_of, IsCheckedStep}
use Rattle.bench_model.specs.Session.{state_after}
use Rattle.bench_model.specs.Sound.{IsSound}
use Rattle.bench_model.specs.Start.{start}
use Rattle.settled_runs.specs.declared.waiting_call.WaitingCall.{WaitingCall}
use Rattle.settled_runs.specs.Settled.{is_finish}
use Rattle.settled_runs.specs.SettleLaws.{comes_from_outside}
use Rattle.step_times.specs.Times.{time_of}
use Rattle.kept_runs.specs.declared.call_order.CallOrder.{CallOrder}
use Rattle.kept_runs.specs.declared.works.Outside.{Outside}
use Rattle.kept_runs.specs.declared.works.Unmade.{Unmade}
use Rattle.kept_runs.specs.Clocks.{zero_clock}
use Rattle.kept_runs.specs.Rule.{Progress, after, next_step, IsRunFrom}
use Rattle.keeping.specs.declared.keeping.Keeping.{Keeping}
use Rattle.keeping.specs.Works.{AreFit, HoldsWorks}

-- before the first step of a run with these calls and these steps from outside
unfoldable pub progress_at_start :
    CallOrder → Header → List Unmade → List Outside → Progress
progress_at_start order header unmade outside = record {
  order = order;
  table = start header;
  worked = λ task. zero_clock;
  unmade = unmade;
  outside = outside;
  passed = false;
}

-- each run from there on has more steps than a session may have
abbrev pub IsKeptTooLong : Progress → Type 0
IsKeptTooLong now =
    (run : List Step) (left : List WaitingCall) → IsRunFrom now run left → max_steps < length run

-- a step from outside that a session may have
pub record IsComing (settings : Settings) (one : Outside) : Type 0 where
  pub checked : IsCheckedStep settings one.step
  pub comes : comes_from_outside one.step ≡ true

-- the step takes time, or there is none
abbrev pub takes_time : ℕ → Option Outside → Bool
takes_time units next = option_map_or (λ next. not (time_of units next.step == 0)) next true

abbrev pub is_joined : Option Outside → Bool
is_joined next = option_map_or (λ next. next.joined) next false

-- no more time went by for a task than so many steps can take
pub record IsShort (count : ℕ) (now : Progress) : Type 0 where
  pub units : (task : ℕ) → (now.worked task).units ≤ count * 2 ^ 32
  pub later : (task : ℕ) → (now.worked task).later ≤ count

-- the task that begins a call by the step; a `finish` begins none
abbrev pub caller_of : Step → Option ℕ
caller_of (steps.Call core task call) = if is_finish call then None else Some task
caller_of step = None

-- what a run keeps beside the kernel is so
pub record HoldsRest (keeping : Keeping) (now : Progress) : Type 0 where
  pub order : keeping.order ≡ now.order
  pub works : HoldsWorks keeping.works now
  pub outside : drop keeping.outside.come keeping.outside.steps.items ≡ now.outside

-- the run stands there
pub record Holds (keeping : Keeping) (now : Progress) : Type 0 where
  pub rest : HoldsRest keeping now
  pub passed : keeping.passed ≡ now.passed
  pub table : state_after (start keeping.run.header) keeping.run.steps ≡ now.table
  pub sound : IsSound now.table
  pub cores : now.table.settings.cores < 2 ^ 32
  pub settings : now.table.settings ≡ settings_of keeping.run.header
  pub fit : AreFit (settings_of keeping.run.header) keeping.works
  pub few : length keeping.works.calls.items < 2 ^ 32
  pub comings : All (IsComing (settings_of keeping.run.header)) now.outside
  pub room : length keeping.run.steps ≤ max_steps
  pub short : IsShort (length keeping.run.steps) now

-- the step is the next one
pub record IsNextIn (keeping : Keeping) (step : Step) : Type 0 where
  pub now : Progress
  pub holds : Holds keeping now
  pub is : next_step now ≡ Some step

-- the step changed what is kept beside the kernel as the rule says
pub record IsGone (step : Step) (now : Progress) (keeping : Keeping) : Type 0 where
  pub rest : HoldsRest keeping (after step now)
  pub fit : AreFit (settings_of keeping.run.header) keeping.works
  pub few : length keeping.works.calls.items < 2 ^ 32
