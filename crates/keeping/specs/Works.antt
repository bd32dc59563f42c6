-- The calls that are to be made, and how long their tasks worked.
use Rattle.std.specs.Prelude.{◌≡◌, ℕ, ◌-◌, ◌<◌, ◌≤◌, nat_le, Bool, not, ◌&&◌, ◌||◌, List, length, filter, filter_map, All, Option, Some, None, is_none, option_and_then, slice_get, slice_index, slice_index_or, false, if◌then◌else◌}
use Rattle.std.specs.Option.{option_map_or}
use Rattle.bench_types.specs.declared.kernel_data.Settings.{Settings}
use Rattle.bench_types.specs.declared.step.Call.{Call}
use Rattle.bench_types.specs.declared.step.Call.TheVariants.{Yield}
use Rattle.bench_types.specs.declared.step.Step.{Step}
use Rattle.bench_types.specs.declared.step.Step.TheVariants as steps
use Rattle.bench_types.specs.Step.{IsCheckedCall}
use Rattle.bench_model.specs.Control.{current}
use Rattle.bench_model.specs.Table.{Table}
use Rattle.settled_runs.specs.declared.waiting_call.WaitingCall.{WaitingCall}
use Rattle.settled_runs.specs.Settled.{is_finish, is_timely}
use Rattle.kept_runs.specs.declared.clocks.Clock.{Clock}
use Rattle.kept_runs.specs.declared.works.Unmade.{Unmade}
use Rattle.kept_runs.specs.Clocks.{is_before, zero_clock}
use Rattle.kept_runs.specs.Rule.{Progress, as_waiting, firsts, has_worked}
use Rattle.keeping.specs.declared.works.Works.{Works}
use Rattle.keeping.specs.Queues.{call_at, is_unmade, unmade_in, AreInRows}

abbrev pub clock_at : List Clock → ℕ → Clock
clock_at worked task = slice_index_or worked task zero_clock

-- who worked so long worked for the call; time goes by next or not
abbrev pub is_worked_for : Clock → Bool → Unmade → Bool
is_worked_for worked timed one =
    not (is_before worked one.work) || (nat_le one.work.units worked.units && timed)

-- the first call of the task that is not made
abbrev pub first_of : Works → ℕ → Option Unmade
first_of works task = slice_get works.calls.items (slice_index works.queues.heads.items task)

-- the call on the core, where it is not refused with E1 to E5
abbrev pub timely_on : Table → ℕ → Unmade → Option Step
timely_on table core one =
    option_and_then
    (λ call. let step = steps.Call core one.task call in
    if is_timely table step then Some step else None) one.call

-- that of the core's task, where the task has worked for it
abbrev pub due_on : Table → Works → Bool → ℕ → Option Step
due_on table works timed core =
    option_and_then
    (λ one. if is_worked_for (clock_at works.worked.items one.task) timed one
    then timely_on table core one else None)
    (first_of works (current table.control core))

abbrev pub can_call_on : Table → ℕ → ℕ → Bool
can_call_on table core task = is_timely table (steps.Call core task Yield)

-- the core's task, where it is at its end: it has worked for as long as it did, and could call
abbrev pub end_on : Table → Works → Bool → ℕ → Option ℕ
end_on table works timed core =
    option_and_then
    (λ one. if is_none one.call
    && (is_worked_for (clock_at works.worked.items one.task) timed one
    && can_call_on table core one.task)
    then Some one.task else None)
    (first_of works (current table.control core))

-- the first calls for which tasks have worked
abbrev pub worked_calls : Progress → List WaitingCall
worked_calls now = filter_map as_waiting (filter (has_worked now) (firsts now.unmade))

-- the units that the core's task has left to work, where it could call
abbrev pub left_on : Table → Works → ℕ → ℕ
left_on table works core =
    option_map_or
    (λ one. if can_call_on table core one.task
    then one.work.units - (clock_at works.worked.items one.task).units else 0)
    (first_of works (current table.control core)) 0

-- the call at the index, where it is not made
abbrev pub waiting_at : Works → ℕ → Option WaitingCall
waiting_at works index =
    if is_unmade works.queues.heads.items works.calls.items index
    then as_waiting (call_at works.calls.items index) else None

-- ---- what they keep

-- a call or an end of a user task; a call that was checked and is no `finish`
pub record IsUnmade (settings : Settings) (one : Unmade) : Type 0 where
  pub low : settings.cores ≤ one.task
  pub task : one.task < settings.tasks
  pub checked : (call : Call) → one.call ≡ Some call → IsCheckedCall settings call
  pub begins : (call : Call) → one.call ≡ Some call → is_finish call ≡ false

-- the calls were checked, and each task has its own
pub record AreFit (settings : Settings) (works : Works) : Type 0 where
  pub checked : All (IsUnmade settings) works.calls.items
  pub worked_each : length works.worked.items ≡ settings.tasks
  pub rows :
      AreInRows works.calls.items settings.tasks works.queues.heads.items works.queues.next.items

-- they are the calls that are to be made, and so long the tasks worked
pub record HoldsWorks (works : Works) (now : Progress) : Type 0 where
  pub unmade : unmade_in works.queues.heads.items works.calls.items ≡ now.unmade
  pub worked :
      (task : ℕ) → task < length works.worked.items
      → clock_at works.worked.items task ≡ now.worked task

-- none of the calls is made, and no task worked
pub record IsWorksAtStart (calls : List Unmade) (tasks : ℕ) (works : Works) : Type 0 where
  pub are : works.calls.items ≡ calls
  pub rows : AreInRows calls tasks works.queues.heads.items works.queues.next.items
  pub all : unmade_in works.queues.heads.items calls ≡ calls
  pub worked_each : length works.worked.items ≡ tasks
  pub none : (task : ℕ) → clock_at works.worked.items task ≡ zero_clock
