-- The laws of settled runs. Each is a clause of a public function.
use Rattle.std.specs.Prelude.{◌≡◌, ℕ, ◌^◌, ◌<◌, ◌≤◌, List, [], ◌∷◌, ◌++◌, length, filter, flat_map, All, Bool, true, false, not, ◌&&◌, ◌==◌, Some}
use Rattle.std.specs.Prelude.{if◌then◌else◌}
use Rattle.bench_types.specs.declared.header.Header.{Header}
use Rattle.bench_types.specs.declared.kernel_data.Settings.{Settings}
use Rattle.bench_types.specs.declared.reply.Refusal.{Refusal}
use Rattle.bench_types.specs.declared.reply.Refusal.TheVariants.{HoldBlock, NoHold, HoldDeep, NotHolder}
use Rattle.bench_types.specs.declared.reply.Reply.TheVariants.{Refused}
use Rattle.bench_types.specs.declared.step.Step.{Step}
use Rattle.bench_types.specs.declared.step.Step.TheVariants.{Tick, Switch, Interrupt, QueueInterrupt, ResumeInterrupt, Pass}
use Rattle.bench_types.specs.declared.step.Step.TheVariants as steps
use Rattle.bench_types.specs.declared.step.Call.{Call}
use Rattle.bench_types.specs.declared.step.Call.TheVariants.{Finish}
use Rattle.bench_types.specs.Session.{Session, IsSession}
use Rattle.bench_types.specs.Step.{IsCheckedCall}
use Rattle.bench_model.specs.Session.{step_of, state_at, reply_at}
use Rattle.bench_model.specs.Sound.{IsSound}
use Rattle.bench_model.specs.Table.{Table}
use Rattle.settled_runs.specs.declared.waiting_call.WaitingCall.{WaitingCall}
use Rattle.settled_runs.specs.Settled.{is_finish, is_open, is_timely, quiet_step, waiting_after, IsQuietWork, IsSettled}
use Rattle.settled_runs.specs.Work.{work_of, IsLess}

-- ---- quiet work

-- a call that was checked against the settings, of a user task, and that is no `finish`
pub record MayWait (settings : Settings) (waits : WaitingCall) : Type 0 where
  pub checked : IsCheckedCall settings waits.call
  pub task : (settings.cores ≤ waits.task) × (waits.task < settings.tasks)
  pub begins : is_finish waits.call ≡ false

-- each piece of quiet work leaves less to do
abbrev pub QuietWorkLessens : Type 0
QuietWorkLessens =
    (table : Table) (waiting : List WaitingCall) (step : Step) → IsSound table
    → All (MayWait table.settings) waiting → quiet_step table waiting ≡ Some step →
    IsLess (work_of (step_of step table).1 (waiting_after waiting step)) (work_of table waiting)

-- so it ends: there is quiet work after whose last step there is none
abbrev pub QuietWorkEnds : Type 0
QuietWorkEnds =
    (table : Table) (waiting : List WaitingCall) → IsSound table → table.settings.cores < 2 ^ 32
    → All (MayWait table.settings) waiting → (made : List Step) × IsQuietWork table waiting made

-- ---- the order of quiet work

-- a switch comes first: where cores can switch, that of the least of them is next
abbrev pub SwitchesComeFirst : Type 0
SwitchesComeFirst =
    (table : Table) (waiting : List WaitingCall) (core : ℕ) → core < table.settings.cores
    → is_open table (Switch core) ≡ true
    → ((less : ℕ) → less < core → is_open table (Switch less) ≡ false) →
    quiet_step table waiting ≡ Some (Switch core)

-- no core can switch
abbrev pub CannotSwitch : Table → Type 0
CannotSwitch table =
    (core : ℕ) → core < table.settings.cores → is_open table (Switch core) ≡ false

-- no user task can finish a call on the core
abbrev pub CannotFinishOn : Table → ℕ → Type 0
CannotFinishOn table core =
    (task : ℕ) → table.settings.cores ≤ task
    → is_open table (steps.Call core task Finish) ≡ false

-- then comes a `finish`: where no core can switch, that on the least of the cores that have one
abbrev pub FinishesComeNext : Type 0
FinishesComeNext =
    (table : Table) (waiting : List WaitingCall) (core task : ℕ) → core < table.settings.cores
    → table.settings.cores ≤ task → is_open table (steps.Call core task Finish) ≡ true
    → CannotSwitch table → ((less : ℕ) → less < core → CannotFinishOn table less) →
    quiet_step table waiting ≡ Some (steps.Call core task Finish)

-- the call can be made on no core
abbrev pub CannotCall : Table → WaitingCall → Type 0
CannotCall table waits =
    (core : ℕ) → core < table.settings.cores
    → is_timely table (steps.Call core waits.task waits.call) ≡ false

-- then a waiting call: where no core can switch and none has a `finish`, the first that can be made
abbrev pub CallsComeLast : Type 0
CallsComeLast =
    (table : Table) (before after : List WaitingCall) (waits : WaitingCall) (core : ℕ)
    → IsSound table → is_finish waits.call ≡ false → core < table.settings.cores
    → is_timely table (steps.Call core waits.task waits.call) ≡ true → CannotSwitch table
    → ((other : ℕ) → other < table.settings.cores → CannotFinishOn table other)
    → All (CannotCall table) before →
    quiet_step table (before ++ waits ∷ after)
    ≡ Some (steps.Call core waits.task waits.call)

-- ---- settled runs

-- every session has a settled run
abbrev pub ThereIsASettledRun : Type 0
ThereIsASettledRun =
    (session : Session) → IsSession session →
    (run : List Step) × (left : List WaitingCall) × IsSettled session.header session.steps run left

-- and one alone
abbrev pub SettledRunIsOne : Type 0
SettledRunIsOne =
    (header : Header) (session run other : List Step) (left rest : List WaitingCall)
    → IsSettled header session run left → IsSettled header session other rest →
    (run ≡ other) × (left ≡ rest)

-- the settled run of a session is one
abbrev pub SettledRunIsSession : Type 0
SettledRunIsSession =
    (session : Session) (run : List Step) (left : List WaitingCall) → IsSession session
    → IsSettled session.header session.steps run left →
    IsSession (record { header = session.header; steps = run })

-- the calls of the task among the steps, but those of `finish`
abbrev pub call_of : ℕ → Step → List Call
call_of task (steps.Call core other call) =
    if other == task && not (is_finish call) then call ∷ [] else []
call_of task step = []

abbrev pub calls_of : ℕ → List Step → List Call
calls_of task session = flat_map (call_of task) session

-- the calls of the task among those that wait
abbrev pub waiting_of : ℕ → List WaitingCall → List Call
waiting_of task waiting =
    flat_map (λ waits. if waits.task == task then waits.call ∷ [] else []) waiting

-- of each task, the session's calls are those of the run, in order, followed by those not made
abbrev pub SettlingKeepsCalls : Type 0
SettlingKeepsCalls =
    (header : Header) (session run : List Step) (left : List WaitingCall) (task : ℕ)
    → IsSettled header session run left →
    calls_of task session ≡ calls_of task run ++ waiting_of task left

abbrev pub comes_from_outside : Step → Bool
comes_from_outside Tick = true
comes_from_outside (Interrupt core note) = true
comes_from_outside (QueueInterrupt core queue direction) = true
comes_from_outside (ResumeInterrupt core task) = true
comes_from_outside (Pass units) = true
comes_from_outside step = false

-- the session's ticks, interrupts and passes are those of the run, in order
abbrev pub SettlingKeepsEvents : Type 0
SettlingKeepsEvents =
    (header : Header) (session run : List Step) (left : List WaitingCall)
    → IsSettled header session run left →
    filter comes_from_outside session ≡ filter comes_from_outside run

-- no more calls are left than the session has steps
abbrev pub FewAreLeft : Type 0
FewAreLeft =
    (header : Header) (session run : List Step) (left : List WaitingCall)
    → IsSettled header session run left → length left ≤ length session

-- E6 to E9: the kernel's answer to a call that its task has come to
abbrev pub is_answer : Refusal → Bool
is_answer HoldBlock = true
is_answer NoHold = true
is_answer HoldDeep = true
is_answer NotHolder = true
is_answer why = false

-- no step of the run is refused but by E6 to E9
abbrev pub RefusalsAreAnswers : Type 0
RefusalsAreAnswers =
    (header : Header) (session run : List Step) (left : List WaitingCall) (place : ℕ)
    (why : Refusal) → IsSettled header session run left
    → reply_at header run place ≡ Some (Refused why) → is_answer why ≡ true

-- no core can switch, no user task can finish a call, and no waiting call can be made on any core
pub record IsAtRest (table : Table) (waiting : List WaitingCall) : Type 0 where
  pub switches : (core : ℕ) → core < table.settings.cores → is_open table (Switch core) ≡ false
  pub finishes :
      (core task : ℕ) → core < table.settings.cores → table.settings.cores ≤ task
      → is_open table (steps.Call core task Finish) ≡ false
  pub calls :
      (core : ℕ) → core < table.settings.cores
      → All (λ waits. is_timely table (steps.Call core waits.task waits.call) ≡ false) waiting

-- after the last step of the run the kernel is at rest
abbrev pub SettledRunIsAtRest : Type 0
SettledRunIsAtRest =
    (session : Session) (run : List Step) (left : List WaitingCall) → IsSession session
    → IsSettled session.header session.steps run left →
    IsAtRest (state_at session.header run (length run)) left

-- settling a settled run changes nothing, and none of its calls is not made
abbrev pub SettlingIsSettled : Type 0
SettlingIsSettled =
    (header : Header) (session run : List Step) (left : List WaitingCall)
    → IsSettled header session run left → IsSettled header run run []
