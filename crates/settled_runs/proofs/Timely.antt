-- Which refusals come too early: for a call that begins they depend on its core and its task alone.
use Rattle.std.proofs.Common.{◌≡◌, ℕ, Bool, true, false, cond, not, eqb, ◌&&◌, List, Option, Some, None, refl, sym, ap, ◌∙◌}
use Rattle.std.specs.Prelude.{is_none}
use Rattle.std.specs.Option.{option_or, option_map_or}
use Rattle.bench_types.specs.declared.reply.Refusal.{Refusal}
use Rattle.bench_types.specs.declared.reply.Refusal.TheVariants.{Held, Displaced, SwitchDue, NotHolder}
use Rattle.bench_types.specs.declared.reply.Reply.{Reply}
use Rattle.bench_types.specs.declared.reply.Reply.TheVariants.{Refused}
use Rattle.bench_types.specs.declared.step.Step.{Step}
use Rattle.bench_types.specs.declared.step.Step.TheVariants as steps
use Rattle.bench_types.specs.declared.step.Call.{Call}
use Rattle.bench_types.specs.declared.step.Call.TheVariants.{Finish, MutexGive}
use Rattle.bench_types.specs.declared.step.Unfinished.{Unfinished}
use Rattle.bench_types.specs.Limits.{max_depth}
use Rattle.bench_model.specs.Control.{current, is_due}
use Rattle.bench_model.specs.Holds.{is_held_by, is_held_elsewhere, depth_of}
use Rattle.bench_model.specs.Refusals.{call_refusal, opens_hold, closes_hold, give_refusal, would_block, hold_refusal, refusal}
use Rattle.bench_model.specs.Session.{step_of}
use Rattle.bench_model.specs.State.{call_at, holder_at}
use Rattle.bench_model.specs.Steps.{performed, after}
use Rattle.bench_model.specs.Table.{Table, stamp_queues}
use Rattle.history_laws.proofs.KeptOut.{is_refusal, performed_made}
use Rattle.settled_runs.specs.Settled.{is_early, is_finish, is_open, is_timely}
use Rattle.settled_runs.specs.SettleLaws.{is_answer}

-- ---- refusals that are none, or not early

abbrev late : Option Refusal → Bool
late why = option_map_or (λ why. not (is_early why)) why true

abbrev pub answered : Option Refusal → Bool
answered why = option_map_or is_answer why true

either_late : (b : Bool) (one other : Option Refusal) → late one ≡ true → late other ≡ true → late (cond b one other) ≡ true
either_late true one other first second = first
either_late false one other first second = second

first_late : (one other : Option Refusal) → late one ≡ true → late other ≡ true → late (option_or one other) ≡ true
first_late (Some why) other first second = first
first_late None other first second = second

give_late : (holders : List (Option ℕ)) (task : ℕ) (call : Call) → late (give_refusal holders task call) ≡ true
give_late holders task (MutexGive mutex) = at (holder_at holders mutex)
  where
    at : (holder : Option ℕ) → late (option_map_or (λ holder. cond (eqb holder task) None (Some NotHolder)) holder None) ≡ true
    at None = refl
    at (Some holder) = either_late (eqb holder task) None (Some NotHolder) refl refl
give_late holders task call = refl

hold_late : (core task : ℕ) (call : Call) (table : Table) → late (hold_refusal stamp_queues core task call table) ≡ true
hold_late core task call table =
    either_late (is_held_by core table.hold) _ _
    (either_late (would_block stamp_queues task call table) _ _ refl (either_late (opens_hold call && eqb (depth_of table.hold) max_depth) _ _ refl refl))
    (either_late (closes_hold call) _ _ refl refl)

-- a call that begins comes too early just where its task has an unfinished one
entered_late : (unfinished : Option Unfinished) (call : Call) (rest : Option Refusal) → is_finish call ≡ false → late rest ≡ true
    → late (option_or (call_refusal unfinished call) rest) ≡ is_none unfinished
entered_late None Finish rest begins goes = absurd (cc (begins))
entered_late None call rest begins goes = goes
entered_late (Some unfinished) Finish rest begins goes = absurd (cc (begins))
entered_late (Some unfinished) call rest begins goes = refl

-- ---- calls that begin

-- the core may begin a call of the task
abbrev may_begin : Table → ℕ → ℕ → Bool
may_begin table core task =
    not (is_held_elsewhere core table.hold) && eqb (current table.control core) task
    && not (is_due table.control core && not (is_held_by core table.hold)) && is_none (call_at table.calls task)

three_conds : (elsewhere runs due free : Bool) (rest : Option Refusal) → late rest ≡ free
    → late (cond elsewhere (Some Held) (cond (not runs) (Some Displaced) (cond due (Some SwitchDue) rest))) ≡ (not elsewhere && runs && not due && free)
three_conds true runs due free rest same = refl
three_conds false false due free rest same = refl
three_conds false true true free rest same = refl
three_conds false true false free rest same = same

timely_where : (table : Table) (core task : ℕ) (call : Call) → is_finish call ≡ false → is_timely table (steps.Call core task call) ≡ may_begin table core task
unfolding is_timely refusal
timely_where table core task call begins =
    let rest =
    first_late (hold_refusal stamp_queues core task call table) (give_refusal table.holders task call) (hold_late core task call table)
    (give_late table.holders task call) in
    three_conds (is_held_elsewhere core table.hold) (eqb (current table.control core) task) (is_due table.control core && not (is_held_by core table.hold))
    (is_none (call_at table.calls task)) _ (entered_late (call_at table.calls task) call _ begins rest)

-- so one call that begins comes too early where another does
pub timely_same : (table : Table) (core task : ℕ) (call other : Call) → is_finish call ≡ false → is_finish other ≡ false
    → is_timely table (steps.Call core task call) ≡ is_timely table (steps.Call core task other)
timely_same table core task call other begins first = timely_where table core task call begins ∙ sym (timely_where table core task other first)

-- ---- calls of tasks that run elsewhere

timely_here : (elsewhere runs due free : Bool) → runs ≡ false → (not elsewhere && runs && not due && free) ≡ false
timely_here true runs due free away = refl
timely_here false true due free away = absurd (cc (away))
timely_here false false due free away = refl

pub untimely_elsewhere : (table : Table) (core task : ℕ) (call : Call) → is_finish call ≡ false → eqb (current table.control core) task ≡ false
    → is_timely table (steps.Call core task call) ≡ false
untimely_elsewhere table core task call begins away = timely_where table core task call begins ∙ timely_here (is_held_elsewhere core table.hold) _ _ _ away

pub timely_runs : (table : Table) (core task : ℕ) (call : Call) → is_finish call ≡ false → is_timely table (steps.Call core task call) ≡ true
    → eqb (current table.control core) task ≡ true
timely_runs table core task call begins timely = at (eqb (current table.control core) task) refl
  where
    at : (b : Bool) → eqb (current table.control core) task ≡ b → b ≡ true
    at true here = refl
    at false away = absurd (cc (timely, untimely_elsewhere table core task call begins away))

pub closed_elsewhere : (table : Table) (core task : ℕ) (call : Call) → eqb (current table.control core) task ≡ false
    → is_open table (steps.Call core task call) ≡ false
unfolding is_open refusal
closed_elsewhere table core task call away =
    at (is_held_elsewhere core table.hold) (eqb (current table.control core) task) away (is_due table.control core && not (is_held_by core table.hold)) _
  where
    at : (elsewhere runs : Bool) → runs ≡ false → (due : Bool) (rest : Option Refusal)
        → is_none (cond elsewhere (Some Held) (cond (not runs) (Some Displaced) (cond due (Some SwitchDue) rest))) ≡ false
    at true runs away due rest = refl
    at false true away due rest = absurd (cc (away))
    at false false away due rest = refl

-- ---- answers

abbrev alike : Option Refusal → Type 0
alike why = late why ≡ answered why

either_alike : (b : Bool) (one other : Option Refusal) → alike one → alike other → alike (cond b one other)
either_alike true one other first second = first
either_alike false one other first second = second

first_alike : (one other : Option Refusal) → alike one → alike other → alike (option_or one other)
first_alike (Some why) other first second = first
first_alike None other first second = second

entered_alike : (unfinished : Option Unfinished) (call : Call) → alike (call_refusal unfinished call)
entered_alike None Finish = refl
entered_alike None call = refl
entered_alike (Some unfinished) Finish = refl
entered_alike (Some unfinished) call = refl

give_alike : (holders : List (Option ℕ)) (task : ℕ) (call : Call) → alike (give_refusal holders task call)
give_alike holders task (MutexGive mutex) = at (holder_at holders mutex)
  where
    at : (holder : Option ℕ) → alike (option_map_or (λ holder. cond (eqb holder task) None (Some NotHolder)) holder None)
    at None = refl
    at (Some holder) = either_alike (eqb holder task) None (Some NotHolder) refl refl
give_alike holders task call = refl

hold_alike : (core task : ℕ) (call : Call) (table : Table) → alike (hold_refusal stamp_queues core task call table)
hold_alike core task call table =
    either_alike (is_held_by core table.hold) _ _
    (either_alike (would_block stamp_queues task call table) _ _ refl (either_alike (opens_hold call && eqb (depth_of table.hold) max_depth) _ _ refl refl))
    (either_alike (closes_hold call) _ _ refl refl)

call_alike : (table : Table) (core task : ℕ) (call : Call) → alike (refusal stamp_queues (steps.Call core task call) table)
unfolding refusal
call_alike table core task call =
    either_alike (is_held_elsewhere core table.hold) _ _ refl
    (either_alike (not (eqb (current table.control core) task)) _ _ refl
    (either_alike (is_due table.control core && not (is_held_by core table.hold)) _ _ refl
    (first_alike (call_refusal (call_at table.calls task) call) _ (entered_alike (call_at table.calls task) call)
    (first_alike (hold_refusal stamp_queues core task call table) _ (hold_alike core task call table) (give_alike table.holders task call)))))

-- a call that does not come too early is refused by an answer at most
pub timely_answered : (table : Table) (core task : ℕ) (call : Call) → is_timely table (steps.Call core task call) ≡ true
    → answered (refusal stamp_queues (steps.Call core task call) table) ≡ true
unfolding is_timely
timely_answered table core task call timely = sym (call_alike table core task call) ∙ timely

pub open_answered : (table : Table) (step : Step) → is_open table step ≡ true → answered (refusal stamp_queues step table) ≡ true
unfolding is_open
open_answered table step free = at (refusal stamp_queues step table) free
  where
    at : (why : Option Refusal) → is_none why ≡ true → answered why ≡ true
    at None none = refl
    at (Some why) none = absurd (cc (none))

-- a reply is a refusal where the step is refused so
pub known_answered : (table : Table) (step : Step) (why : Refusal) → answered (refusal stamp_queues step table) ≡ true → (step_of step table).0 ≡ Refused why
    → is_answer why ≡ true
unfolding after
known_answered table step why all known = at (refusal stamp_queues step table) all known
  where
    at : (o : Option Refusal) → answered o ≡ true
        → (option_map_or {U = Reply × Table} (λ why. (Refused why, table)) o (performed stamp_queues step table)).0 ≡ Refused why → is_answer why ≡ true
    at None all known = absurd (cc (sym (performed_made stamp_queues step table) ∙ ap is_refusal known))
    at (Some it) all known = cc (all, known)
