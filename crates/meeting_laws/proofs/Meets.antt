-- Tables that meet before steps: the test tells so, and from both the steps run alike.
use Rattle.std.proofs.Common.{◌≡◌, ◌⊎◌, inl, inr, ⊎_elim, ℕ, zero, suc, ◌+◌, ◌%◌, ◌^◌, Bool, true, false, ◌||◌, ◌&&◌, not, List, [], ◌∷◌, take, refl, sym, ap}
use Rattle.std.proofs.Common.{ap₂, subst, ◌∙◌, arith}
use Rattle.std.specs.Prelude.{◌↔◌, All, Some, slice_get}
use Rattle.std.proofs.lemmas.Bool.{or_parts}
use Rattle.std.proofs.lemmas.List.Elements.{All-cons, All-nil}
use Rattle.std.proofs.lemmas.Option.{same_Some}
use Rattle.bench_types.specs.declared.reply.Reply.{Reply}
use Rattle.bench_types.specs.declared.step.Step.{Step}
use Rattle.bench_types.specs.Step.{IsCheckedStep}
use Rattle.bench_model.specs.Control.{running}
use Rattle.bench_model.specs.Equal.{Same}
use Rattle.bench_model.specs.Lists.{View, view_of}
use Rattle.bench_model.specs.Session.{step_of, state_after, run_results}
use Rattle.bench_model.specs.Shifted.{SameShifted, delays_until, is_met, shift_between, shifted, some_delays_until}
use Rattle.bench_model.specs.Sound.{IsSound}
use Rattle.bench_model.specs.Table.{Table}
use Rattle.shift_laws.specs.Shifts.{IsShifted, RunShifted}
use Rattle.shift_laws.proofs.Runs.{run_shifted}
use Rattle.shift_laws.proofs.ShiftTests.{met_decided}
use Rattle.shift_laws.proofs.Steps.{no_ticks_between, not_shifted, same_from_shifted, shifted_from_same, unshifted}
use Rattle.meeting_laws.specs.RunLaws.{MeetBy, ticks_between}
use Rattle.meeting_laws.proofs.Runs.{run_alike}

-- ---- runs

pub met_run_alike : (by : ℕ) (a b : Table) (steps : List Step) → IsSound a → IsSound b → MeetBy by a b steps → All (IsCheckedStep a.settings) steps → RunShifted
    by a b steps
met_run_alike by a b steps first second meet all = ⊎_elim
    (λ none.
    let run = run_alike a b steps first second (unshifted a b (subst (λ n. IsShifted n a b) none meet.later)) all in
    record {
      outcomes = run.outcomes;
      tallies = run.tallies;
      states = λ place.
          let a_there = state_after a (take place steps) in
          let b_there = state_after b (take place steps) in
          subst (λ n. IsShifted n a_there b_there) (sym none) (not_shifted a_there b_there (run.states place));
    })
    (λ unread. run_shifted by a b steps first second meet.later all unread)
    meet.unread

-- ---- one of the steps

unread_at : (steps : List Step) (k : ℕ) (step : Step) → slice_get steps k ≡ Some step → some_delays_until steps ≡ false → some_delays_until (step ∷ []) ≡ false
unread_at [] k step found unread = absurd (cc found)
unread_at (one ∷ steps) zero step found unread =
    let same : one ≡ step = same_Some one step found in
    subst (λ step. some_delays_until (step ∷ []) ≡ false) same (ap (λ b. b || false) (or_parts (delays_until one) (some_delays_until steps) unread).0)
unread_at (one ∷ steps) (suc k) step found unread = unread_at steps k step found (or_parts (delays_until one) (some_delays_until steps) unread).1

-- tables that met before the steps meet before one of them
pub met_step : (by : ℕ) (a b : Table) (steps : List Step) (k : ℕ) (step : Step) → slice_get steps k ≡ Some step → view_of b ≡ shifted by (view_of a) → (by ≡ 0)
    ⊎ (some_delays_until steps ≡ false) → MeetBy by a b (step ∷ [])
met_step by a b steps k step found later unread = record {
  later = later;
  unread = ⊎_elim (λ none. inl none) (λ unread. inr (unread_at steps k step found unread)) unread;
}

pub met_reply : (by : ℕ) (a b : Table) (step : Step) → IsSound a → IsSound b → MeetBy by a b (step ∷ []) → IsCheckedStep a.settings step → (step_of step a).0 ≡
    (step_of step b).0
met_reply by a b step first second meet checked =
    let run = met_run_alike by a b (step ∷ []) first second meet (All-cons (IsCheckedStep a.settings) step [] checked (All-nil (IsCheckedStep a.settings))) in
    ap (λ outcomes. reply_in outcomes) run.outcomes
  where
    reply_in : List (Reply × List ℕ) → Reply
    reply_in [] = (step_of step a).0
    reply_in (outcome ∷ outcomes) = outcome.0

-- ---- the test

equal_meet : (a b : Table) (steps : List Step) → Same a b → MeetBy (ticks_between a b) a b steps
equal_meet a b steps same =
    let none : ticks_between a b ≡ 0 = ap (λ (view : View). shift_between view.orders.tick (view_of b).orders.tick) same ∙ no_ticks_between
    (view_of b).orders.tick in
    record { later = subst (λ n. IsShifted n a b) (sym none) (not_shifted a b same); unread = inl none }

later_meet : (a b : Table) (steps : List Step) → SameShifted a b → some_delays_until steps ≡ false → MeetBy (ticks_between a b) a b steps
later_meet a b steps same unread = record { later = shifted_from_same a b same; unread = inr unread }

pub meetings_pass : (by : ℕ) (a b : Table) (steps : List Step) → MeetBy by a b steps → is_met a b steps ≡ true
meetings_pass by a b steps meet =
    (met_decided a b steps).1 (⊎_elim
    (λ none. inl (unshifted a b (subst (λ n. IsShifted n a b) none meet.later)))
    (λ unread. inr (same_from_shifted by a b meet.later, unread))
    meet.unread)

pub meetings_decided : (a b : Table) (steps : List Step) → (is_met a b steps ≡ true) ↔ MeetBy (ticks_between a b) a b steps
meetings_decided a b steps = (
  λ passes. ⊎_elim (equal_meet a b steps) (λ both. later_meet a b steps both.0 both.1) ((met_decided a b steps).0 passes),
  meetings_pass (ticks_between a b) a b steps,
)
