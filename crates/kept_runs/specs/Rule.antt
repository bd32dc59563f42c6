-- The run that keeps work: which step stands at each of its places.
use Rattle.std.specs.Prelude.{◌≡◌, ℕ, ◌-◌, ◌==◌, Bool, true, false, not, ◌&&◌, ◌||◌, nat_lt, nat_le, List, [], ◌∷◌, ◌++◌, map, find, filter, filter_map, fold, take, slice_get, Option, Some, None, option_map, if◌then◌else◌, ⊤}
use Rattle.std.specs.Option.{option_or, option_map_or}
use Rattle.bench_types.specs.declared.step.Call.TheVariants.{Yield}
use Rattle.bench_types.specs.declared.step.Step.{Step}
use Rattle.bench_types.specs.declared.step.Step.TheVariants.{Pass}
use Rattle.bench_types.specs.declared.step.Step.TheVariants as steps
use Rattle.bench_types.specs.Session.{Session}
use Rattle.bench_model.specs.Control.{current}
use Rattle.bench_model.specs.Session.{step_of}
use Rattle.bench_model.specs.Start.{start}
use Rattle.bench_model.specs.Table.{Table}
use Rattle.kept_edits.specs.declared.edit.KeptEdit.{KeptEdit}
use Rattle.list_orders.specs.Search.{numbers}
use Rattle.settled_runs.specs.declared.waiting_call.WaitingCall.{WaitingCall}
use Rattle.settled_runs.specs.Settled.{is_finish, is_timely, on_its_core, quiet_step, IsSettled}
use Rattle.settled_runs.specs.SettleLaws.{comes_from_outside}
use Rattle.step_times.specs.Times.{time_of}
use Rattle.workload_runs.specs.Rule.{least}
use Rattle.kept_runs.specs.declared.call_order.CallOrder.{CallOrder}
use Rattle.kept_runs.specs.declared.call_order.CallOrder.TheVariants.{Oldest, LeastCore}
use Rattle.kept_runs.specs.Clocks.{Clocks, clocks_after, is_before, zero_clock}
use Rattle.kept_runs.specs.Items.{edited_items, edited_session}
use Rattle.kept_runs.specs.declared.works.Outside.{Outside}
use Rattle.kept_runs.specs.declared.works.Unmade.{Unmade}
use Rattle.kept_runs.specs.Works.{is_pass, outside_steps, unmade_calls, with_clock}

-- where the run stands
pub record Progress : Type 0 where
  -- which call comes first of those that could come at one time
  pub order : CallOrder
  -- the kernel
  pub table : Table
  -- how long each task worked since its last call
  pub worked : Clocks
  -- the calls that are not made, in the order of the list, and behind them the ends of tasks
  pub unmade : List Unmade
  -- the steps from outside that are to come
  pub outside : List Outside
  -- the last step was a pass
  pub passed : Bool

-- ---- calls

-- of each task the first
abbrev pub firsts : List Unmade → List Unmade
firsts [] = []
firsts (one ∷ unmade) = one ∷ filter (λ other. not (other.task == one.task)) (firsts unmade)

abbrev pub next_outside : Progress → Option Outside
next_outside now = slice_get now.outside 0

-- the next step from outside takes time, or there is none
abbrev pub is_before_time : Progress → Bool
is_before_time now =
    option_map_or (λ next. not (time_of now.table.settings.units next.step == 0)) (next_outside now)
    true

-- The task has worked for the call: what it worked is not less than the call's work, or its units
-- alone are not less and time goes by next.
unfoldable pub has_worked : Progress → Unmade → Bool
has_worked now one =
    not (is_before (now.worked one.task) one.work)
    || (nat_le one.work.units (now.worked one.task).units && is_before_time now)

abbrev pub as_waiting : Unmade → Option WaitingCall
as_waiting one = option_map (λ call. record { task = one.task; call = call }) one.call

-- a unit was the last one of a tick, which is next
abbrev pub is_within_tick : Progress → Bool
is_within_tick now = now.passed && option_map_or (λ next. next.joined) (next_outside now) false

-- the call of the core's current task
abbrev pub call_of_core : Table → List WaitingCall → ℕ → Option WaitingCall
call_of_core table calls core = find (λ waits. waits.task == current table.control core) calls

-- the calls in their order in the list, or core 0 first
abbrev pub in_order : CallOrder → Table → List WaitingCall → List WaitingCall
in_order Oldest table calls = calls
in_order LeastCore table calls =
    filter_map (call_of_core table calls) (numbers table.settings.cores)

-- the first calls of tasks that have worked for them; none between a tick and its last unit
unfoldable pub due_calls : Progress → List WaitingCall
due_calls now =
    if is_within_tick now then []
    else in_order now.order now.table
    (filter_map as_waiting (filter (has_worked now) (firsts now.unmade)))

-- ---- steps from outside

-- nothing of E1 to E5 would be said against a call of the task
abbrev pub can_call : Table → Unmade → Bool
can_call table one = is_timely table (on_its_core table (record { task = one.task; call = Yield }))

-- the units that are left to work for first calls, and ends, of tasks that could call
abbrev pub works_left : Progress → List ℕ
works_left now =
    filter (λ left. nat_lt 0 left)
    (map (λ one. one.work.units - (now.worked one.task).units)
    (filter (can_call now.table) (firsts now.unmade)))

-- a pass ends where a task has worked for its call, or its end
abbrev pub cut : Progress → Step → Step
cut now (Pass units) = Pass (least units (works_left now))
cut now step = step

unfoldable pub outside_step : Progress → Option Step
outside_step now = option_map (λ next. cut now next.step) (next_outside now)

-- ---- the rule

-- The step that comes next: a switch, a `finish`, or the first of the due calls that is not refused
-- with E1 to E5, as quiet work; else the next step from outside.
unfoldable pub next_step : Progress → Option Step
next_step now = option_or (quiet_step now.table (due_calls now)) (outside_step now)

-- a task begins anew behind each of its calls but `finish`
abbrev pub worked_after : Step → Table → Clocks → Clocks
worked_after (steps.Call core task call) table worked =
    if is_finish call then worked else with_clock worked task zero_clock
worked_after step table worked = clocks_after step table worked

-- the list without the first of the task
abbrev pub without_first : ℕ → List Unmade → List Unmade
without_first task [] = []
without_first task (one ∷ unmade) =
    if one.task == task then unmade else one ∷ without_first task unmade

abbrev pub unmade_after : Step → List Unmade → List Unmade
unmade_after (steps.Call core task call) unmade =
    if is_finish call then unmade else without_first task unmade
unmade_after step unmade = unmade

-- what is left of a pass of which a part was made
abbrev pub rest_of : Step → Step → List Outside
rest_of (Pass made) (Pass units) =
    if nat_lt made units then record { step = Pass (units - made); joined = false } ∷ [] else []
rest_of made step = []

abbrev pub outside_after : Step → List Outside → List Outside
outside_after made [] = []
outside_after made (next ∷ rest) =
    if comes_from_outside made then rest_of made next.step ++ rest else next ∷ rest

-- behind a step
unfoldable pub after : Step → Progress → Progress
after step now = record {
  order = now.order;
  table = (step_of step now.table).1;
  worked = worked_after step now.table now.worked;
  unmade = unmade_after step now.unmade;
  outside = outside_after step now.outside;
  passed = is_pass step;
}

-- behind steps
abbrev pub after_steps : Progress → List Step → Progress
after_steps now made = fold (λ now step. after step now) now made

-- the steps are the next ones from there on
abbrev pub AreNext : Progress → List Step → Type 0
AreNext now [] = ⊤
AreNext now (step ∷ made) = (next_step now ≡ Some step) × AreNext (after step now) made

-- From there on these are all steps of the run, and these the calls that are not made.
abbrev pub IsRunFrom : Progress → List Step → List WaitingCall → Type 0
IsRunFrom now [] left = (next_step now ≡ None) × (filter_map as_waiting now.unmade ≡ left)
IsRunFrom now (step ∷ run) left =
    (next_step now ≡ Some step) × IsRunFrom (after step now) run left

-- the start, by the settled run of the session before the edits
unfoldable pub first_progress : CallOrder → Session → List KeptEdit → List Step → Progress
first_progress order session edits settled = record {
  order = order;
  table = start (edited_session session edits).header;
  worked = λ task. zero_clock;
  unmade = unmade_calls session settled (edited_items session edits);
  outside = outside_steps session settled (edited_items session edits);
  passed = false;
}

-- The run of an edited session that keeps work, and the calls that are not made.
pub record IsKept (order : CallOrder) (session : Session) (edits : List KeptEdit) (run : List Step)
    (left : List WaitingCall) : Type 0 where
  -- the settled run of the session before the edits, and the calls that are not made there
  pub settled : List Step
  pub waiting : List WaitingCall
  pub is_settled : IsSettled session.header session.steps settled waiting
  pub is_run : IsRunFrom (first_progress order session edits settled) run left

-- at a place of the run: behind so many of its steps
unfoldable pub progress_at :
    CallOrder → Session → List KeptEdit → List Step → List Step → ℕ → Progress
progress_at order session edits settled run place =
    after_steps (first_progress order session edits settled) (take place run)
