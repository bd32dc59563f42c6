-- Each piece of quiet work leaves less to do, so that quiet work ends and each session has a settled run.
use Rattle.std.proofs.Common.{◌≡◌, ℕ, zero, suc, ◌^◌, ◌<◌, true, cond, ◌&&◌, List, [], ◌∷◌, ◌++◌, length, Option, Some, None, refl, sym, ap, subst, ◌∙◌, inl}
use Rattle.std.proofs.Common.{inr, arith}
use Rattle.std.specs.Prelude.{◌⊎◌, All, sum, map, is_some}
use Rattle.std.specs.List.{AllByRecursion}
use Rattle.std.proofs.lemmas.List.Elements.{All-head, All-tail, recursion_from_All}
use Rattle.std.proofs.lemmas.List.Sums.{sum-map}
use Rattle.bench_types.specs.declared.reply.Reply.{Reply}
use Rattle.bench_types.specs.declared.step.Step.{Step}
use Rattle.bench_types.specs.declared.step.Step.TheVariants.{Switch}
use Rattle.bench_types.specs.declared.step.Step.TheVariants as steps
use Rattle.bench_types.specs.declared.step.Call.TheVariants.{Finish}
use Rattle.bench_types.specs.Session.{Session, IsSession}
use Rattle.bench_types.specs.Step.{IsCheckedStep}
use Rattle.list_orders.specs.Search.{numbers}
use Rattle.list_orders.proofs.Filters.{All-weaker}
use Rattle.list_orders.proofs.Stamped.{numbers_below}
use Rattle.bench_model.specs.Control.{current}
use Rattle.bench_model.specs.Seek.{after_switch}
use Rattle.bench_model.specs.Session.{step_of, state_after}
use Rattle.bench_model.specs.Sound.{IsSound}
use Rattle.bench_model.specs.Start.{start}
use Rattle.bench_model.specs.State.{call_at}
use Rattle.bench_model.specs.Steps.{performed}
use Rattle.bench_model.specs.Table.{Table, stamp_queues}
use Rattle.step_laws.proofs.Along.{settings_after}
use Rattle.settled_runs.specs.declared.waiting_call.WaitingCall.{WaitingCall}
use Rattle.settled_runs.specs.Settled.{is_open, on_its_core, quiet_step, without_first, waiting_after, still_waiting, waiting_with, made_at_once, events_of}
use Rattle.settled_runs.specs.Settled.{IsQuietWork, IsSettledFrom, IsSettled}
use Rattle.settled_runs.specs.SettleLaws.{MayWait}
use Rattle.settled_runs.specs.Work.{call_weight, weight_at, work_of, IsLess}
use Rattle.settled_runs.proofs.Finishes.{lighter_after}
use Rattle.settled_runs.proofs.Pieces.{IsPiece, piece_of}
use Rattle.settled_runs.proofs.Rests.{IsGood, begin_waits, piece_checked, finish_checked, good_after, event_good, events_later, start_good, session_events}
use Rattle.settled_runs.proofs.Settlings.{Events, events_are}
use Rattle.settled_runs.proofs.Sums.{same_sum}
use Rattle.settled_runs.proofs.Switches.{switch_due, step_open, switched_ready, switched_calls, switched_weight}

-- ---- what a piece leaves

-- what the unfinished calls weigh, and what the due cores do, among so many
abbrev unfinished : Table → ℕ → ℕ
unfinished table tasks = sum (map (call_weight table) (numbers tasks))

abbrev due : Table → ℕ → ℕ
due table cores = sum (map (weight_at table.control) (numbers cores))

-- the work, where the settings stay
work_as : (table later : Table) (waiting : List WaitingCall) → later.settings ≡ table.settings
    → work_of later waiting ≡ record { waiting = length waiting; unfinished = unfinished later table.settings.tasks; due = due later table.settings.cores }
unfolding work_of
work_as table later waiting same =
    λ i. record { waiting = length waiting; unfinished = unfinished later (same i).tasks; due = due later (same i).cores }

less_as : (table later : Table) (waiting rest : List WaitingCall) → later.settings ≡ table.settings
    → IsLess (record { waiting = length rest; unfinished = unfinished later table.settings.tasks; due = due later table.settings.cores })
    (work_of table waiting) → IsLess (work_of later rest) (work_of table waiting)
less_as table later waiting rest same less = subst (λ work. IsLess work (work_of table waiting)) (sym (work_as table later rest same)) less

switch_step : (table : Table) (core : ℕ) → is_open table (Switch core) ≡ true → (step_of (Switch core) table).1 ≡ after_switch stamp_queues core table
unfolding performed
switch_step table core free = ap (λ (outcome : Reply × Table). outcome.1) (step_open table (Switch core) free)

switch_lessens : (table : Table) (waiting : List WaitingCall) (core : ℕ) → IsSound table → core < table.settings.cores → is_open table (Switch core) ≡ true
    → IsLess (work_of (step_of (Switch core) table).1 waiting) (work_of table waiting)
unfolding work_of
switch_lessens table waiting core sound below free =
    let later = after_switch stamp_queues core table in
    let made = switch_step table core free in
    let settings = settings_after table (Switch core) sound in
    let ready = switched_ready table core sound below in
    let calls = switched_calls table core sound below in
    let next = (step_of (Switch core) table).1 in
    let all = numbers table.settings.tasks in
    let could : (i : ℕ) → call_weight next i ≡ call_weight table i = λ i. ap (λ (table : Table). call_weight table i) made
    ∙ (λ k. cond (is_some (call_at (calls k) i)) (cond (ready i k) 2 1) 0) in
    let same = same_sum (call_weight next) (call_weight table) all (All-weaker (λ i. i < table.settings.tasks) (λ i. call_weight next i ≡ call_weight table i)
    (λ i low. could i) all (numbers_below table.settings.tasks)) in
    let tasks = sum-map (call_weight next) all ∙ same ∙ sym (sum-map (call_weight table) all) in
    let lighter = switched_weight table core sound below (switch_due table core free) in
    let less : due (step_of (Switch core) table).1 table.settings.cores < due table table.settings.cores
    = omega (
      arith,
      ap (λ (next : Table). due next table.settings.cores) made,
      lighter,
      sum-map (weight_at later.control) (numbers table.settings.cores),
      sum-map (weight_at table.control) (numbers table.settings.cores),
    ) in
    less_as table (step_of (Switch core) table).1 waiting waiting settings (inr (refl, inr (tasks, less)))

finish_lessens : (table : Table) (waiting : List WaitingCall) (core task : ℕ) → IsSound table → IsCheckedStep table.settings (steps.Call core task Finish)
    → is_open table (steps.Call core task Finish) ≡ true → task < table.settings.tasks
    → IsLess (work_of (step_of (steps.Call core task Finish) table).1 waiting) (work_of table waiting)
unfolding work_of
finish_lessens table waiting core task sound checked free below =
    let later = (step_of (steps.Call core task Finish) table).1 in
    let all = numbers table.settings.tasks in
    let fewer : unfinished later table.settings.tasks < unfinished table table.settings.tasks =
    omega (arith, sum-map (call_weight later) all, sum-map (call_weight table) all, lighter_after table core task sound checked free) in
    less_as table later waiting waiting (settings_after table (steps.Call core task Finish) sound) (inr (refl, inl fewer))

call_lessens : (table later : Table) (waiting rest : List WaitingCall) → suc (length rest) ≡ length waiting
    → IsLess (work_of later rest) (work_of table waiting)
unfolding work_of
call_lessens table later waiting rest fewer = inl (omega (arith, fewer))

pub piece_lessens : (table : Table) (waiting : List WaitingCall) (step : Step) → IsSound table → AllByRecursion (MayWait table.settings) waiting
    → quiet_step table waiting ≡ Some step → IsLess (work_of (step_of step table).1 (waiting_after waiting step)) (work_of table waiting)
piece_lessens table waiting step sound may made = at (piece_of (MayWait table.settings) (begin_waits table.settings) table waiting step may made)
  where
    at : IsPiece (MayWait table.settings) table waiting step → IsLess (work_of (step_of step table).1 (waiting_after waiting step)) (work_of table waiting)
    at (inl it) =
        let free = subst (λ step. is_open table step ≡ true) it.is it.free in
        subst (λ step. IsLess (work_of (step_of step table).1 (waiting_after waiting step)) (work_of table waiting)) (sym it.is)
        (switch_lessens table waiting it.core sound it.below free)
    at (inr (inl it)) =
        let free = subst (λ step. is_open table step ≡ true) it.is it.free in
        let sized = sound.consistent.sized in
        let task = current table.control it.core in
        let on : task < table.settings.tasks =
        omega (arith, sized.cores, sized.rows, it.below, sound.consistent.in_place.is_task it.core (omega (arith, sized.cores, it.below))) in
        subst (λ step. IsLess (work_of (step_of step table).1 (waiting_after waiting step)) (work_of table waiting)) (sym it.is)
        (finish_lessens table waiting it.core task sound (finish_checked table it.core sound it.below it.user) free on)
    at (inr (inr it)) =
        let gone : suc (length (waiting_after waiting (on_its_core table it.waits))) ≡ length waiting
        = ap (λ finish. suc (length (cond finish waiting (without_first it.waits.task waiting)))) it.begins ∙ it.fewer in
        subst (λ step. IsLess (work_of (step_of step table).1 (waiting_after waiting step)) (work_of table waiting)) (sym it.is)
        (call_lessens table _ waiting _ gone)

pub quiet_work_lessens : (table : Table) (waiting : List WaitingCall) (step : Step) → IsSound table → All (MayWait table.settings) waiting
    → quiet_step table waiting ≡ Some step → IsLess (work_of (step_of step table).1 (waiting_after waiting step)) (work_of table waiting)
quiet_work_lessens table waiting step sound may = piece_lessens table waiting step sound (recursion_from_All (MayWait table.settings) waiting may)

-- ---- quiet work ends

Ends : Table → List WaitingCall → Type 0
Ends table waiting = (made : List Step) × IsQuietWork table waiting made

-- where it ends from all that there is less to do from, it ends
next_ends :
    (table : Table) (waiting : List WaitingCall) → IsGood table waiting
    → ((later : Table) (rest : List WaitingCall) → IsGood later rest → IsLess (work_of later rest) (work_of table waiting) → Ends later rest)
    → Ends table waiting
unfolding Ends
next_ends table waiting good below = at (quiet_step table waiting) refl
  where
    at : (o : Option Step) → quiet_step table waiting ≡ o → (made : List Step) × IsQuietWork table waiting made
    at None none = ([], none)
    at (Some step) made =
        let checked = piece_checked table waiting step good made in
        let rest =
        below (step_of step table).1 (waiting_after waiting step) (good_after table waiting step good checked)
        (piece_lessens table waiting step good.sound good.may made) in
        (step ∷ rest.0, (made, rest.1))

-- with as many that wait and as many unfinished, by what the due cores weigh
by_due :
    (limit waits calls : ℕ)
    → ((later : Table) (rest : List WaitingCall) → IsGood later rest
    → ((work_of later rest).waiting < waits) ⊎ (((work_of later rest).waiting ≡ waits) × ((work_of later rest).unfinished < calls)) → Ends later rest)
    → (table : Table) (waiting : List WaitingCall) → IsGood table waiting → (work_of table waiting).waiting ≡ waits → (work_of table waiting).unfinished ≡ calls
    → (work_of table waiting).due < limit → Ends table waiting
by_due zero waits calls below table waiting good same unfinished few = absurd (omega (arith, few))
by_due (suc limit) waits calls below table waiting good same unfinished few =
    next_ends table waiting good (λ later rest fine less. at later rest fine less (by_due limit waits calls below later rest fine))
  where
    at :
        (later : Table) (rest : List WaitingCall) → IsGood later rest → IsLess (work_of later rest) (work_of table waiting)
        → ((work_of later rest).waiting ≡ waits → (work_of later rest).unfinished ≡ calls → (work_of later rest).due < limit → Ends later rest)
        → Ends later rest
    at later rest fine (inl fewer) again = below later rest fine (inl (omega (arith, fewer, same)))
    at later rest fine (inr (as_many, inl fewer)) again = below later rest fine (inr (as_many ∙ same, omega (arith, fewer, unfinished)))
    at later rest fine (inr (as_many, inr (like, lighter))) again = again (as_many ∙ same) (like ∙ unfinished) (omega (arith, lighter, few))

-- with as many that wait, by how many are unfinished
by_unfinished :
    (limit waits : ℕ) → ((later : Table) (rest : List WaitingCall) → IsGood later rest → (work_of later rest).waiting < waits → Ends later rest)
    → (table : Table) (waiting : List WaitingCall) → IsGood table waiting → (work_of table waiting).waiting ≡ waits → (work_of table waiting).unfinished < limit
    → Ends table waiting
by_unfinished zero waits below table waiting good same few = absurd (omega (arith, few))
by_unfinished (suc limit) waits below table waiting good same few =
    by_due (suc (work_of table waiting).due) waits (work_of table waiting).unfinished
    (λ later rest fine less. at later rest fine less (by_unfinished limit waits below later rest fine)) table waiting good same refl (omega arith)
  where
    at :
        (later : Table) (rest : List WaitingCall) → IsGood later rest
        → ((work_of later rest).waiting < waits) ⊎
        (((work_of later rest).waiting ≡ waits) × ((work_of later rest).unfinished < (work_of table waiting).unfinished))
        → ((work_of later rest).waiting ≡ waits → (work_of later rest).unfinished < limit → Ends later rest) → Ends later rest
    at later rest fine (inl fewer) again = below later rest fine fewer
    at later rest fine (inr (as_many, fewer)) again = again as_many (omega (arith, fewer, few))

by_waiting : (limit : ℕ) (table : Table) (waiting : List WaitingCall) → IsGood table waiting → (work_of table waiting).waiting < limit → Ends table waiting
by_waiting zero table waiting good few = absurd (omega (arith, few))
by_waiting (suc limit) table waiting good few =
    by_unfinished (suc (work_of table waiting).unfinished) (work_of table waiting).waiting
    (λ later rest fine fewer. by_waiting limit later rest fine (omega (arith, fewer, few)))
    table waiting good refl (omega arith)

pub quiet_ends : (table : Table) (waiting : List WaitingCall) → IsGood table waiting → (made : List Step) × IsQuietWork table waiting made
unfolding Ends
quiet_ends table waiting good = by_waiting (suc (work_of table waiting).waiting) table waiting good (omega arith)

pub quiet_work_ends : (table : Table) (waiting : List WaitingCall) → IsSound table → table.settings.cores < 2 ^ 32 → All (MayWait table.settings) waiting
    → (made : List Step) × IsQuietWork table waiting made
quiet_work_ends table waiting sound few may =
    quiet_ends table waiting (record { sound = sound; few = few; may = recursion_from_All (MayWait table.settings) waiting may })

-- ---- each session has a settled run

settles :
    (events : List Step) (table : Table) (waiting : List WaitingCall) → IsGood table waiting → Events events → All (IsCheckedStep table.settings) events
    → (run : List Step) × (left : List WaitingCall) × IsSettledFrom table waiting events run left
settles [] table waiting good are all = let quiet = quiet_ends table waiting good in (quiet.0, still_waiting waiting quiet.0, (quiet.1, refl))
settles (event ∷ events) table waiting good are all =
    let quiet = quiet_ends table waiting good in
    let first = event_good table waiting quiet.0 event good quiet.1 are.0 (All-head (IsCheckedStep table.settings) event events all) in
    let others =
    events_later table waiting (quiet.0 ++ made_at_once event) events good first.checked (All-tail (IsCheckedStep table.settings) event events all) in
    let rest =
    settles events (state_after table (quiet.0 ++ made_at_once event)) (waiting_with (still_waiting waiting quiet.0) event) first.last are.1 others in
    (quiet.0 ++ (made_at_once event ++ rest.0), rest.1, (quiet.0, rest.0, refl, quiet.1, rest.2))

pub there_is_a_settled_run : (session : Session) → IsSession session → (run : List Step) × (left : List WaitingCall)
    × IsSettled session.header session.steps run left
there_is_a_settled_run session is =
    settles (events_of session.steps) (start session.header) [] (start_good session is) (events_are session.steps) (session_events session is)
