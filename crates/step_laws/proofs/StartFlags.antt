-- No flag is set at the start: each core gives up its idle task, for which no core is sought.
use Rattle.std.proofs.Common.{◌≡◌, ℕ, zero, suc, ◌+◌, ◌<◌, ◌≤◌, Bool, true, false, cond, not, eqb, ◌&&◌, ◌||◌, length, Option, Some, None, refl, ap, subst, sym}
use Rattle.std.proofs.Common.{◌∙◌, arith, inl, inr}
use Rattle.std.specs.Prelude.{unwrap_or}
use Rattle.std.specs.Option.{option_map_or}
use Rattle.std.specs.List.{fold, range_with_len}
use Rattle.std.proofs.lemmas.Bool.{cases_eq}
use Rattle.std.proofs.lemmas.Bool.Decides.{nat_tests}
use Rattle.bench_types.specs.declared.header.Header.{Header}
use Rattle.bench_types.specs.declared.kernel_data.CoreLook.{CoreLook}
use Rattle.bench_model.specs.Control.{Control, current, is_due, is_idle, ask, run_on}
use Rattle.bench_model.specs.State.{selected, after_select}
use Rattle.bench_model.specs.Table.{Table, stamp_queues, is_ready}
use Rattle.bench_model.specs.Seek.{core_to_yield, is_running, seek, may_move, after_eviction, after_switch}
use Rattle.order_laws.specs.AskedCores.{IsAnswer}
use Rattle.bench_model.specs.Start.{first_control, first_stamps, unstarted, started, start}
use Rattle.order_laws.proofs.SoundSteps.{look_same, look_other, cores_length}
use Rattle.order_laws.proofs.AskedCores.{best_core}
use Rattle.step_laws.proofs.Starts.{first_core, first_cores}

pub seek_idle : (control : Control) (acting task : ℕ) (among : ℕ → Bool) → is_idle control task ≡ true → seek acting task among control ≡ control
unfolding seek
seek_idle control acting task among idle = at (is_running control task) (core_to_yield control task among) refl
  where
    at : (b : Bool) (o : Option ℕ) → core_to_yield control task among ≡ o → cond b control (option_map_or (λ core. ask acting core control) o control) ≡ control
    at true o same = refl
    at false None same = refl
    at false (Some core) same = absurd (grind (arith, nat_tests, (subst (IsAnswer control task among) same (best_core control task among)).0.2, idle))

-- the task that a core selects
abbrev chosen : ℕ → Table → ℕ
chosen core table = unwrap_or (selected stamp_queues core table) (current table.control core)

-- a core that gives up its own idle task seeks none
idle_leaves : (core : ℕ) (table : Table) → core < length table.control.cores → current table.control core ≡ core →
    (after_switch stamp_queues core table).control ≡ run_on core (chosen core table) table.control
unfolding after_switch after_eviction after_select
idle_leaves core table below here = at (not (eqb (current later.control core) loser) && is_ready loser later.orders)
  where
    loser : ℕ
    loser = current table.control core

    later : Table
    later = after_select stamp_queues core table

    idle : is_idle later.control loser ≡ true
    idle = grind (arith, nat_tests, here, below, cores_length table.control core (record { current = chosen core table; pend = false; asked = false }))

    at : (b : Bool) → (cond b (record later { control = seek core loser (may_move later.control loser (current later.control core) core) later.control })
        later).control ≡ run_on core (chosen core table) table.control
    at true = seek_idle later.control core loser (may_move later.control loser (current later.control core) core) idle
    at false = refl

-- no core is due, and from this one on each core has its idle task
record IsFresh (from : ℕ) (control : Control) : Type 0 where
  pub quiet : (c : ℕ) → c < length control.cores → is_due control c ≡ false
  pub idle : (c : ℕ) → from ≤ c → c < length control.cores → current control c ≡ c

turn_fresh : (core task : ℕ) (control : Control) → core < length control.cores → IsFresh core control → IsFresh (core + 1) (run_on core task control)
turn_fresh core task control below fresh = record {
  quiet = λ c low. elim (cases_eq c core) [
    | inl here ↦ ap (is_due (run_on core task control)) here ∙ ap (λ (l : CoreLook). l.pend || l.asked) (look_same control core look below)
    | inr away ↦ ap (λ (l : CoreLook). l.pend || l.asked) (look_other control core look c away) ∙ fresh.quiet c (omega (arith, cores_length control core look))
  ];
  idle = λ c past low. ap (λ (l : CoreLook). l.current) (look_other control core look c (λ same. absurd (omega arith))) ∙ fresh.idle c (omega arith)
      (omega (arith, cores_length control core look));
}
  where
    look : CoreLook
    look = record { current = task; pend = false; asked = false }

turns_fresh : (n core : ℕ) (table : Table) → core + n ≤ length table.control.cores → IsFresh core table.control → (c : ℕ) → c < length table.control.cores →
    is_due (fold (λ table core. after_switch stamp_queues core table) table (range_with_len core n)).control c ≡ false
turns_fresh zero core table fits fresh c low = fresh.quiet c low
turns_fresh (suc n) core table fits fresh c low =
    let next = after_switch stamp_queues core table in
    let goes = idle_leaves core table (omega arith) (fresh.idle core (omega arith) (omega arith)) in
    let same = ap (λ (control : Control). length control.cores) goes ∙ cores_length table.control core
    (record { current = chosen core table; pend = false; asked = false }) in
    turns_fresh n (core + 1) next (omega (arith, same)) (subst (IsFresh (core + 1)) (sym goes)
    (turn_fresh core (chosen core table) table.control (omega arith) fresh)) c (omega (arith, same))

first_fresh : (header : Header) → IsFresh 0 (first_control header)
first_fresh header = record {
  quiet = λ c low. ap (λ (l : CoreLook). l.pend || l.asked) (first_core header c (omega (arith, first_cores header)));
  idle = λ c past low. ap (λ (l : CoreLook). l.current) (first_core header c (omega (arith, first_cores header)));
}

pub start_flags : (header : Header) (core : ℕ) → core < header.config.cores → is_due (start header).control core ≡ false
unfolding started unstarted
start_flags header core low = turns_fresh header.config.cores 0 (unstarted (first_stamps header) header) (omega (arith, first_cores header))
    (first_fresh header) core (omega (arith, first_cores header))
