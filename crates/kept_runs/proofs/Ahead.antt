-- What is ahead in a run: the clocks of a task at its calls, and the steps from outside.
use Rattle.std.proofs.Common.{◌≡◌, ℕ, zero, suc, Bool, true, false, cond, not, eqb, ◌&&◌, List, [], ◌∷◌, ◌++◌, length, replicate, Option, Some, None, refl, sym, ap, subst, arith}
use Rattle.std.specs.Prelude.{is_none, slice_get}
use Rattle.std.specs.Option.{option_map_or, option_or}
use Rattle.bench_types.specs.declared.reply.Refusal.{Refusal}
use Rattle.bench_types.specs.declared.reply.Refusal.TheVariants.{Held, Displaced, SwitchDue, InCall}
use Rattle.bench_types.specs.declared.step.Call.{Call}
use Rattle.bench_types.specs.declared.step.Call.TheVariants.{Finish}
use Rattle.bench_types.specs.declared.step.Step.{Step}
use Rattle.bench_types.specs.declared.step.Step.TheVariants as steps
use Rattle.bench_types.specs.declared.step.Unfinished.{Unfinished}
use Rattle.list_orders.specs.Search.{numbers}
use Rattle.list_orders.proofs.Stamped.{numbers_have}
use Rattle.order_laws.proofs.Selects.{list_any_at}
use Rattle.bench_model.specs.Control.{current, is_due}
use Rattle.bench_model.specs.Holds.{is_held_by, is_held_elsewhere}
use Rattle.bench_model.specs.Refusals.{call_refusal, refusal}
use Rattle.bench_model.specs.Session.{step_of}
use Rattle.bench_model.specs.Sound.{IsSound}
use Rattle.bench_model.specs.State.{call_at}
use Rattle.bench_model.specs.Table.{Table}
use Rattle.settled_runs.specs.Settled.{core_running, is_early, is_finish, is_timely, on_its_core}
use Rattle.settled_runs.specs.SettleLaws.{comes_from_outside}
use Rattle.settled_runs.proofs.Rests.{running_below}
use Rattle.settled_runs.proofs.Timely.{timely_runs}
use Rattle.step_times.specs.Times.{time_of}
use Rattle.workload_runs.specs.Situations.{is_working}
use Rattle.kept_runs.specs.declared.clocks.Clock.{Clock}
use Rattle.kept_runs.specs.Clocks.{Clocks, clock_after, clocks_after, clocks_along}
use Rattle.kept_runs.specs.Items.{begins_call}
use Rattle.kept_runs.specs.declared.works.Outside.{Outside}
use Rattle.kept_runs.specs.Works.{is_pass, is_tick}
use Rattle.kept_runs.proofs.Elapsing.{some_later, up_to_itself, up_to_third, IsUpTo}

-- ---- calls ahead

-- the clocks of the task at its calls
abbrev pub ahead : ℕ → Table → Clocks → List Step → List Clock
ahead task table clocks [] = []
ahead task table clocks (step ∷ run) =
    cond (begins_call task step) (clocks task ∷ ahead task (step_of step table).1 (clocks_after step table clocks) run)
    (ahead task (step_of step table).1 (clocks_after step table clocks) run)

-- that at the first of them, or at the end
abbrev pub next_clock : ℕ → Table → Clocks → List Step → Clock
next_clock task table clocks [] = clocks task
next_clock task table clocks (step ∷ run) =
    cond (begins_call task step) (clocks task) (next_clock task (step_of step table).1 (clocks_after step table clocks) run)

abbrev pub head_or : Clock → List Clock → Clock
head_or last [] = last
head_or last (clock ∷ clocks) = clock

pub next_is_head : (run : List Step) (task : ℕ) (table : Table) (clocks : Clocks) (count : ℕ)
    → head_or (clocks_along table clocks run task) (ahead task table clocks run ++ replicate count (clocks_along table clocks run task))
    ≡ next_clock task table clocks run
next_is_head [] task table clocks zero = refl
next_is_head [] task table clocks (suc count) = refl
next_is_head (step ∷ run) task table clocks count =
    at (begins_call task step) (next_is_head run task (step_of step table).1 (clocks_after step table clocks) count)
  where
    end : Clock
    end = clocks_along (step_of step table).1 (clocks_after step table clocks) run task

    rest : List Clock
    rest = ahead task (step_of step table).1 (clocks_after step table clocks) run

    at : (b : Bool)
        → head_or (clocks_along (step_of step table).1 (clocks_after step table clocks) run task)
        (ahead task (step_of step table).1 (clocks_after step table clocks) run
        ++ replicate count (clocks_along (step_of step table).1 (clocks_after step table clocks) run task))
        ≡ next_clock task (step_of step table).1 (clocks_after step table clocks) run
        → head_or (clocks_along (step_of step table).1 (clocks_after step table clocks) run task)
        (cond b (clocks task ∷ ahead task (step_of step table).1 (clocks_after step table clocks) run)
        (ahead task (step_of step table).1 (clocks_after step table clocks) run)
        ++ replicate count (clocks_along (step_of step table).1 (clocks_after step table clocks) run task))
        ≡ cond b (clocks task) (next_clock task (step_of step table).1 (clocks_after step table clocks) run)
    at true same = refl
    at false same = same

-- ---- clocks go on

pub after_up_to : (step : Step) (table : Table) (clocks : Clocks) (task : ℕ) → IsUpTo (clocks task) (clocks_after step table clocks task)
after_up_to step table clocks task = at (comes_from_outside step && is_working table task)
  where
    at : (b : Bool) → IsUpTo (clocks task) (cond b (clock_after (time_of table.settings.units step) (clocks task)) (clocks task))
    at true = some_later (time_of table.settings.units step) (clocks task)
    at false = up_to_itself (clocks task)

pub next_later : (run : List Step) (task : ℕ) (table : Table) (clocks : Clocks) → IsUpTo (clocks task) (next_clock task table clocks run)
next_later [] task table clocks = up_to_itself (clocks task)
next_later (step ∷ run) task table clocks =
    at (begins_call task step) (next_later run task (step_of step table).1 (clocks_after step table clocks))
  where
    at : (b : Bool) → IsUpTo (clocks_after step table clocks task) (next_clock task (step_of step table).1 (clocks_after step table clocks) run)
        → IsUpTo (clocks task) (cond b (clocks task) (next_clock task (step_of step table).1 (clocks_after step table clocks) run))
    at true rest = up_to_itself (clocks task)
    at false rest = up_to_third (clocks task) (clocks_after step table clocks task) _ (after_up_to step table clocks task) rest

-- a step from outside is no call
pub outside_begins : (step : Step) (task : ℕ) → comes_from_outside step ≡ true → begins_call task step ≡ false
outside_begins (steps.Call core other call) task is = absurd (cc is)
outside_begins step task is = refl

-- behind a step from outside that found the task at work its next call has a later clock
pub next_behind : (step : Step) (run : List Step) (task : ℕ) (table : Table) (clocks : Clocks) → comes_from_outside step ≡ true
    → is_working table task ≡ true
    → IsUpTo (clock_after (time_of table.settings.units step) (clocks task)) (next_clock task table clocks (step ∷ run))
next_behind step run task table clocks comes works =
    let same : clocks_after step table clocks task ≡ clock_after (time_of table.settings.units step) (clocks task)
    = (λ i. cond (comes i && works i) (clock_after (time_of table.settings.units step) (clocks task)) (clocks task)) in
    let later = subst (λ clock. IsUpTo clock (next_clock task (step_of step table).1 (clocks_after step table clocks) run)) same
    (next_later run task (step_of step table).1 (clocks_after step table clocks)) in
    subst (λ b. IsUpTo (clock_after (time_of table.settings.units step) (clocks task))
    (cond b (clocks task) (next_clock task (step_of step table).1 (clocks_after step table clocks) run)))
    (sym (outside_begins step task comes)) later

-- ---- who works

in_call : (unfinished : Unfinished) (call : Call) → is_finish call ≡ false → call_refusal (Some unfinished) call ≡ Some InCall
in_call unfinished Finish begins = absurd (cc begins)
in_call unfinished call begins = refl

abbrev late : Option Refusal → Bool
late why = option_map_or (λ why. not (is_early why)) why true

timely_free : (table : Table) (core task : ℕ) (call : Call) → is_finish call ≡ false → is_timely table (steps.Call core task call) ≡ true
    → is_none (call_at table.calls task) ≡ true
unfolding is_timely refusal
timely_free table core task call begins timely =
    at (is_held_elsewhere core table.hold) (eqb (current table.control core) task) (is_due table.control core && not (is_held_by core table.hold))
    (call_at table.calls task) _ timely
  where
    at : (elsewhere runs due : Bool) (unfinished : Option Unfinished) (rest : Option Refusal)
        → late
        (cond elsewhere (Some Held) (cond (not runs) (Some Displaced) (cond due (Some SwitchDue) (option_or (call_refusal unfinished call) rest)))) ≡ true
        → is_none unfinished ≡ true
    at elsewhere runs due None rest timely = refl
    at true runs due (Some unfinished) rest timely = absurd (cc timely)
    at false false due (Some unfinished) rest timely = absurd (cc timely)
    at false true true (Some unfinished) rest timely = absurd (cc timely)
    at false true false (Some unfinished) rest timely =
        absurd (let early = ap (λ why. late (option_or why rest)) (in_call unfinished call begins) in cc (early, timely))

-- a task that may call works
pub caller_works : (table : Table) (task : ℕ) (call : Call) → IsSound table → is_finish call ≡ false
    → is_timely table (on_its_core table (record { task = task; call = call })) ≡ true → is_working table task ≡ true
caller_works table task call sound begins timely =
    let core = core_running table task in
    let below = running_below table task sound in
    let same = sound.consistent.sized.cores in
    let runs = timely_runs table core task call begins timely in
    let on = list_any_at (λ core. eqb (current table.control core) task) core (numbers (length table.control.cores))
    (numbers_have (length table.control.cores) core (omega (arith, same, below))) runs in
    let free = timely_free table core task call begins timely in
    λ i. on i && free i

-- ---- steps from outside ahead

-- those of the run, of which a tick is joined where a pass comes right before it
abbrev pub outsides : Bool → List Step → List Outside
outsides passed [] = []
outsides passed (step ∷ run) =
    cond (comes_from_outside step) (record { step = step; joined = is_tick step && passed } ∷ outsides (is_pass step) run) (outsides (is_pass step) run)

inside_pass : (step : Step) → comes_from_outside step ≡ false → is_pass step ≡ false
inside_pass (steps.Pass units) inside = absurd (cc inside)
inside_pass step inside = refl

-- no tick that is joined is next but right behind a pass
pub next_apart : (run : List Step) (passed : Bool) → passed ≡ false → option_map_or (λ (next : Outside). next.joined) (slice_get (outsides passed run) 0) false ≡ false
next_apart [] passed none = refl
next_apart (step ∷ run) passed none = at (comes_from_outside step) refl (λ inside. next_apart run (is_pass step) (inside_pass step inside))
  where
    last : (b : Bool) → (b && passed) ≡ false
    last true = none
    last false = refl

    at : (b : Bool) → comes_from_outside step ≡ b
        → (comes_from_outside step ≡ false → option_map_or (λ (next : Outside). next.joined) (slice_get (outsides (is_pass step) run) 0) false ≡ false)
        → option_map_or (λ (next : Outside). next.joined)
        (slice_get (cond b (record { step = step; joined = is_tick step && passed } ∷ outsides (is_pass step) run) (outsides (is_pass step) run)) 0) false
        ≡ false
    at true is rest = last (is_tick step)
    at false inside rest = rest inside
