-- Settled runs: what a target makes of the calls, the ticks and the interrupts of a session. On a
-- target the port makes each switch, and a task's call returns, by itself.
use Rattle.std.specs.Prelude.{◌≡◌, ℕ, List, [], ◌∷◌, ◌++◌, map, find, filter, fold, Bool, true, false, not, ◌==◌, nat_le, Option, Some, None, is_none}
use Rattle.std.specs.Prelude.{unwrap_or, if◌then◌else◌}
use Rattle.std.specs.Option.{option_or, option_map_or}
use Rattle.bench_types.specs.declared.header.Header.{Header}
use Rattle.bench_types.specs.declared.reply.Refusal.{Refusal}
use Rattle.bench_types.specs.declared.reply.Refusal.TheVariants.{Held, Displaced, SwitchDue, InCall, NotInCall}
use Rattle.bench_types.specs.declared.step.Step.{Step}
use Rattle.bench_types.specs.declared.step.Step.TheVariants.{Tick, Switch, Interrupt}
use Rattle.bench_types.specs.declared.step.Step.TheVariants as steps
use Rattle.bench_types.specs.declared.step.Call.{Call}
use Rattle.bench_types.specs.declared.step.Call.TheVariants.{Finish}
use Rattle.bench_model.specs.Control.{current}
use Rattle.bench_model.specs.Refusals.{refusal}
use Rattle.bench_model.specs.Session.{step_of, state_after}
use Rattle.bench_model.specs.Start.{start}
use Rattle.bench_model.specs.Table.{Table, stamp_queues}
use Rattle.list_orders.specs.Search.{numbers}
use Rattle.settled_runs.specs.declared.waiting_call.WaitingCall.{WaitingCall}

-- ---- what may be made

-- E1 to E5: the task has not come to the call
abbrev pub is_early : Refusal → Bool
is_early Held = true
is_early Displaced = true
is_early SwitchDue = true
is_early InCall = true
is_early NotInCall = true
is_early why = false

-- the step is not refused
unfoldable pub is_open : Table → Step → Bool
is_open table step = is_none (refusal stamp_queues step table)

-- it is not refused with E1 to E5
unfoldable pub is_timely : Table → Step → Bool
is_timely table step =
    option_map_or (λ why. not (is_early why)) (refusal stamp_queues step table) true

-- ---- quiet work

-- the switch of each core, core 0 first
abbrev pub switches : Table → List Step
switches table = map Switch (numbers table.settings.cores)

-- the `finish` of each core's current task, core 0 first; an idle task makes none
abbrev pub finish_on : Table → ℕ → Step
finish_on table core = steps.Call core (current table.control core) Finish

abbrev pub runs_user_task : Table → ℕ → Bool
runs_user_task table core = nat_le table.settings.cores (current table.control core)

abbrev pub finishes : Table → List Step
finishes table =
    map (finish_on table) (filter (runs_user_task table) (numbers table.settings.cores))

-- the core that runs the task; core 0 for a task that none runs, which may not call there
abbrev pub core_running : Table → ℕ → ℕ
core_running table task =
    unwrap_or
    (find (λ core. current table.control core == task) (numbers table.settings.cores)) 0

-- a waiting call as a step of the core that runs its task
abbrev pub on_its_core : Table → WaitingCall → Step
on_its_core table waits = steps.Call (core_running table waits.task) waits.task waits.call

-- The next piece of quiet work: the first switch that is not refused, else the first `finish` that
-- is not, else the first waiting call, in the order of the document, that is not refused with E1 to
-- E5.
unfoldable pub quiet_step : Table → List WaitingCall → Option Step
quiet_step table waiting =
    option_or (find (is_open table) (switches table))
    (option_or (find (is_open table) (finishes table))
    (find (is_timely table) (map (on_its_core table) waiting)))

abbrev pub is_finish : Call → Bool
is_finish Finish = true
is_finish call = false

-- the list without its first call of the task
abbrev pub without_first : ℕ → List WaitingCall → List WaitingCall
without_first task [] = []
without_first task (waits ∷ waiting) =
    if waits.task == task then waiting else waits ∷ without_first task waiting

-- what waits after a step: its task's first waiting call no more, unless it is a `finish`
abbrev pub waiting_after : List WaitingCall → Step → List WaitingCall
waiting_after waiting (steps.Call core task call) =
    if is_finish call then waiting else without_first task waiting
waiting_after waiting step = waiting

-- what waits after steps
abbrev pub still_waiting : List WaitingCall → List Step → List WaitingCall
still_waiting waiting made = fold waiting_after waiting made

-- The steps are the quiet work from the table with these calls waiting: each is the next piece, and
-- there is none after the last.
abbrev pub IsQuietWork : Table → List WaitingCall → List Step → Type 0
IsQuietWork table waiting [] = quiet_step table waiting ≡ None
IsQuietWork table waiting (step ∷ made) =
    (quiet_step table waiting ≡ Some step)
    × IsQuietWork (step_of step table).1 (waiting_after waiting step) made

-- ---- settled runs

-- all but the switches and the calls of `finish`, which a target makes by itself
abbrev pub is_event : Step → Bool
is_event (Switch core) = false
is_event (steps.Call core task call) = not (is_finish call)
is_event step = true

abbrev pub events_of : List Step → List Step
events_of session = filter is_event session

-- a tick or an interrupt is made as it stands
abbrev pub made_at_once : Step → List Step
made_at_once (steps.Call core task call) = []
made_at_once step = step ∷ []

-- a call is put behind all that wait, so at the end of those of its task
abbrev pub waiting_with : List WaitingCall → Step → List WaitingCall
waiting_with waiting (steps.Call core task call) =
    waiting ++ record { task = task; call = call } ∷ []
waiting_with waiting step = waiting

-- The run from a table with these calls waiting: quiet work, and then each event in turn, each
-- followed by quiet work. What is left in the end was not made.
abbrev pub IsSettledFrom :
    Table → List WaitingCall → List Step → List Step → List WaitingCall → Type 0
IsSettledFrom table waiting [] run left =
    IsQuietWork table waiting run × (still_waiting waiting run ≡ left)
IsSettledFrom table waiting (event ∷ events) run left =
    (quiet : List Step) × (rest : List Step) × (run ≡ quiet ++ (made_at_once event ++ rest))
    × IsQuietWork table waiting quiet
    × IsSettledFrom (state_after table (quiet ++ made_at_once event))
    (waiting_with (still_waiting waiting quiet) event) events rest left

-- the settled run of a header and steps, with the calls that were not made
abbrev pub IsSettled : Header → List Step → List Step → List WaitingCall → Type 0
IsSettled header session run left = IsSettledFrom (start header) [] (events_of session) run left
