-- The laws of runs that keep work. Each is a clause of a public function.
use Rattle.std.specs.Prelude.{◌≡◌, ℕ, ◌+◌, ◌≤◌, true, false, not, ◌&&◌, List, [], ◌∷◌, ◌++◌, length, fold, slice_get, All, Contains, Some, None, if◌then◌else◌}
use Rattle.bench_types.specs.declared.reply.Refusal.{Refusal}
use Rattle.bench_types.specs.declared.reply.Reply.TheVariants.{Refused}
use Rattle.bench_types.specs.declared.step.Call.{Call}
use Rattle.bench_types.specs.declared.step.Step.{Step}
use Rattle.bench_types.specs.declared.step.Step.TheVariants as steps
use Rattle.bench_types.specs.Session.{Session, IsSession}
use Rattle.bench_model.specs.Session.{reply_at}
use Rattle.kept_edits.specs.declared.edit.KeptEdit.{KeptEdit}
use Rattle.settled_runs.specs.declared.waiting_call.WaitingCall.{WaitingCall}
use Rattle.settled_runs.specs.Settled.{is_finish, is_timely, on_its_core, IsSettled}
use Rattle.settled_runs.specs.SettleLaws.{calls_of, comes_from_outside, is_answer, waiting_of}
use Rattle.step_times.specs.Times.{time_of}
use Rattle.kept_runs.specs.declared.call_order.CallOrder.{CallOrder}
use Rattle.kept_runs.specs.declared.call_order.CallOrder.TheVariants.{Oldest}
use Rattle.kept_runs.specs.declared.known_limit.KnownLimit.{KnownLimit}
use Rattle.kept_runs.specs.Items.{edited_session}
use Rattle.kept_runs.specs.Known.{known_until, limits}
use Rattle.kept_runs.specs.Rule.{Progress, firsts, has_worked, is_within_tick, progress_at, AreNext, IsKept, IsRunFrom}
use Rattle.kept_runs.specs.declared.works.Unmade.{Unmade}
use Rattle.kept_runs.specs.Works.{is_pass}

-- an edited session has one run at most that keeps work
abbrev pub KeptRunIsOne : Type 0
KeptRunIsOne =
    (order : CallOrder) (session : Session) (edits : List KeptEdit) (run other : List Step)
    (left rest : List WaitingCall) → IsKept order session edits run left
    → IsKept order session edits other rest →
    (run ≡ other) × (left ≡ rest)

-- where the session and the edited one are sessions there is such a run
abbrev pub ThereIsAKeptRun : Type 0
ThereIsAKeptRun =
    (order : CallOrder) (session : Session) (edits : List KeptEdit) → IsSession session
    → IsSession (edited_session session edits) →
    (run : List Step) × (left : List WaitingCall) × IsKept order session edits run left

-- it is one of the header of the edited session
abbrev pub KeptRunIsSession : Type 0
KeptRunIsSession =
    (order : CallOrder) (session : Session) (edits : List KeptEdit) (run : List Step)
    (left : List WaitingCall) → IsSession (edited_session session edits)
    → IsKept order session edits run left →
    IsSession (record { header = (edited_session session edits).header; steps = run })

-- none of its steps is refused but by E6 to E9
abbrev pub KeptRefusalsAreAnswers : Type 0
KeptRefusalsAreAnswers =
    (order : CallOrder) (session : Session) (edits : List KeptEdit) (run : List Step)
    (left : List WaitingCall) (place : ℕ) (why : Refusal) → IsKept order session edits run left
    → reply_at (edited_session session edits).header run place ≡ Some (Refused why) →
    is_answer why ≡ true

-- steps of which each is the next one are no more than those of the run
abbrev pub BeginningsAreShorter : Type 0
BeginningsAreShorter =
    (now : Progress) (beginning run : List Step) (left : List WaitingCall)
    → AreNext now beginning → IsRunFrom now run left → length beginning ≤ length run

-- of each task, the calls of the edited session are those of the run, in order, followed by those
-- that are not made
abbrev pub KeptRunKeepsCalls : Type 0
KeptRunKeepsCalls =
    (order : CallOrder) (session : Session) (edits : List KeptEdit) (run : List Step)
    (left : List WaitingCall) (task : ℕ) → IsKept order session edits run left →
    calls_of task (edited_session session edits).steps ≡ calls_of task run ++ waiting_of task left

-- ---- steps from outside

-- each tick and interrupt with the units of time before it, of which so many went by before the
-- first step
abbrev pub comings : ℕ → ℕ → List Step → List (ℕ × Step)
comings units time [] = []
comings units time (step ∷ made) =
    if comes_from_outside step && not (is_pass step)
    then (time, step) ∷ comings units (time + time_of units step) made
    else comings units (time + time_of units step) made

-- so much time has gone by behind the steps, before which so much had
abbrev pub time_behind : ℕ → ℕ → List Step → ℕ
time_behind units time made = fold (λ time step. time + time_of units step) time made

-- the ticks and interrupts of the edited session are those of the run, in order, each at its time,
-- and all time of the one is that of the other
abbrev pub KeptRunKeepsOutside : Type 0
KeptRunKeepsOutside =
    (order : CallOrder) (session : Session) (edits : List KeptEdit) (run : List Step)
    (left : List WaitingCall) → IsKept order session edits run left →
    let edited = edited_session session edits in
    let units = edited.header.config.units in
    (comings units 0 edited.steps ≡ comings units 0 run)
    × (time_behind units 0 edited.steps ≡ time_behind units 0 run)

-- ---- when calls are made

-- at that place of the run a step stands that comes from outside, or none
abbrev pub IsOutsideAt : List Step → ℕ → Type 0
IsOutsideAt run place =
    (step : Step) → slice_get run place ≡ Some step → comes_from_outside step ≡ true

-- a call that is made is the first of its task that was not, and the task has worked for it
abbrev pub CallsAreWorkedFor : Type 0
CallsAreWorkedFor =
    (order : CallOrder) (session : Session) (edits : List KeptEdit) (run : List Step)
    (left : List WaitingCall) (kept : IsKept order session edits run left) (place core task : ℕ)
    (call : Call)
    → slice_get run place ≡ Some (steps.Call core task call) → is_finish call ≡ false →
    let now = progress_at order session edits kept.settled run place in
    (one : Unmade) × Contains (firsts now.unmade) one × (one.task ≡ task) × (one.call ≡ Some call)
    × (has_worked now one ≡ true)

-- Where a step from outside comes, or none, no task can make a call for which it has worked, unless
-- that step is a tick of which the last unit went by right before: so a call comes at the first
-- place that its work allows.
abbrev pub CallsComeAtOnce : Type 0
CallsComeAtOnce =
    (order : CallOrder) (session : Session) (edits : List KeptEdit) (run : List Step)
    (left : List WaitingCall) (kept : IsKept order session edits run left) (place : ℕ)
    → IsSession (edited_session session edits) → place ≤ length run
    → IsOutsideAt run place → let now = progress_at order session edits kept.settled run place in
    is_within_tick now ≡ false → (one : Unmade) (call : Call) → Contains (firsts now.unmade) one
    → one.call ≡ Some call → has_worked now one ≡ true →
    is_timely now.table (on_its_core now.table (record { task = one.task; call = call })) ≡ false

-- ---- the settled run

-- settling the run changes nothing: switches and returns are made as soon as they may be
abbrev pub KeptRunIsSettled : Type 0
KeptRunIsSettled =
    (order : CallOrder) (session : Session) (edits : List KeptEdit) (run : List Step)
    (left : List WaitingCall) → IsKept order session edits run left →
    IsSettled (edited_session session edits).header run run []

-- without edits the run that keeps work is the settled run, where the oldest call comes first
abbrev pub UneditedRunIsSettled : Type 0
UneditedRunIsSettled =
    (session : Session) (run : List Step) (left : List WaitingCall) → IsSession session
    → IsSettled session.header session.steps run left → IsKept Oldest session [] run left

-- and all of it is known
abbrev pub UneditedRunIsKnown : Type 0
UneditedRunIsKnown =
    (session : Session) (run : List Step) (left : List WaitingCall) → IsSession session
    → (kept : IsKept Oldest session [] run left) →
    known_until Oldest session [] kept.settled run ≡ None

-- of all that limits what is known the limit is the first, and there is none where nothing does
abbrev pub KnownUntilComesFirst : Type 0
KnownUntilComesFirst =
    (order : CallOrder) (session : Session) (edits : List KeptEdit) (settled run : List Step) →
    let all = limits order session edits settled run in
    ((limit : KnownLimit) → known_until order session edits settled run ≡ Some limit →
    Contains all limit × All (λ (other : KnownLimit). limit.place ≤ other.place) all)
    × (known_until order session edits settled run ≡ None → all ≡ [])
