-- Lists of steps from tables that are shifted: equal replies, running tasks and tallies, and shifted states.
use Rattle.std.proofs.Common.{◌≡◌, ℕ, zero, suc, ◌≤◌, Bool, true, false, ◌||◌, List, [], ◌∷◌, length, take, refl, sym, ap, subst, ◌∙◌, true≢false, inl, inr}
use Rattle.std.proofs.Common.{arith}
use Rattle.std.specs.Prelude.{All, ◌⊎◌}
use Rattle.std.proofs.lemmas.List.Elements.{All-head, All-take}
use Rattle.bench_types.specs.declared.kernel_data.Settings.{Settings}
use Rattle.bench_types.specs.declared.reply.Reply.{Reply}
use Rattle.bench_types.specs.declared.step.Step.{Step}
use Rattle.bench_types.specs.Step.{IsCheckedStep}
use Rattle.bench_model.specs.Control.{Control, running}
use Rattle.bench_model.specs.Equal.{Same}
use Rattle.bench_model.specs.Lists.{View, list_queues, view_of}
use Rattle.bench_model.specs.Session.{step_of, state_after, run_results}
use Rattle.bench_model.specs.Shifted.{SameShifted, untimed, shift_between, delays_until, some_delays_until, is_met}
use Rattle.bench_model.specs.Sound.{IsSound}
use Rattle.bench_model.specs.Table.{Table, stamp_queues}
use Rattle.bench_model.specs.Tallied.{tally_after, tallied, moment_of, tallied_after, first_tallies, first_tally, part_tallies}
use Rattle.bench_model.specs.Tally.{TaskTally}
use Rattle.session_laws.proofs.Tallies.{tallied_seen, length_each, length_tallied}
use Rattle.step_laws.proofs.Along.{settings_after, checked_rest}
use Rattle.step_laws.proofs.Steps.{after_sound, equal_after}
use Rattle.shift_laws.specs.Shifts.{IsShifted, RunShifted}
use Rattle.shift_laws.proofs.ShiftTests.{met_decided}
use Rattle.shift_laws.proofs.Steps.{no_ticks_between, not_shifted, shifted_after, shifted_from_same, unshifted}

-- ---- one step

-- sound tables of which the second looks as the first does so many ticks later
record AreShifted (by : ℕ) (a b : Table) : Type 0 where
  first : IsSound a
  second : IsSound b
  same : IsShifted by a b

-- no step delays until a tick count, or the tick counts are equal
abbrev AreUntold : ℕ → List Step → Type 0
AreUntold by steps = (some_delays_until steps ≡ false) ⊎ (by ≡ 0)

-- checked steps that do not tell the tick counts apart
record RunOn (by : ℕ) (table : Table) (steps : List Step) : Type 0 where
  checked : All (IsCheckedStep table.settings) steps
  untold : AreUntold by steps

neither : (x y : Bool) → (x || y) ≡ false → (x ≡ false) × (y ≡ false)
neither true y none = absurd (true≢false none)
neither false y none = (refl, none)

shifted_settings : (by : ℕ) (a b : Table) → IsShifted by a b → a.settings ≡ b.settings
shifted_settings by a b same = sym (ap (λ (view : View). view.settings) same)

shifted_control : (by : ℕ) (a b : Table) → IsShifted by a b → a.control ≡ b.control
shifted_control by a b same = sym (ap (λ (view : View). view.control) same)

module _ (by : ℕ) (a b : Table) (step : Step) (steps : List Step) (both : AreShifted by a b) (on : RunOn by a (step ∷ steps)) where
  checked_first : IsCheckedStep a.settings step
  checked_first = All-head (IsCheckedStep a.settings) step steps on.checked

  first_outcomes : ((step_of step a).0 ≡ (step_of step b).0) × IsShifted by (step_of step a).1 (step_of step b).1
  first_outcomes = from on.untold
    where
      from : AreUntold by (step ∷ steps) → ((step_of step a).0 ≡ (step_of step b).0) × IsShifted by (step_of step a).1 (step_of step b).1
      from (inl never) =
          shifted_after by a b step both.first both.second both.same checked_first (neither (delays_until step) (some_delays_until steps) never).0
      from (inr none) =
          let same = unshifted a b (subst (λ by. IsShifted by a b) none both.same) in
          let outcomes = equal_after a b step both.first both.second same checked_first in
          let stay = not_shifted (step_of step a).1 (step_of step b).1 outcomes.1 in
          (outcomes.0, subst (λ by. IsShifted by (step_of step a).1 (step_of step b).1) (sym none) stay)

  shifted_next : AreShifted by (step_of step a).1 (step_of step b).1
  shifted_next = record {
    first = after_sound step a both.first checked_first;
    second = after_sound step b both.second (subst (λ settings. IsCheckedStep settings step) (shifted_settings by a b both.same) checked_first);
    same = first_outcomes.1;
  }

  run_rest : RunOn by (step_of step a).1 steps
  run_rest = record {
    checked = checked_rest a step steps both.first on.checked;
    untold = untold_rest on.untold;
  }
    where
      untold_rest : AreUntold by (step ∷ steps) → AreUntold by steps
      untold_rest (inl never) = inl (neither (delays_until step) (some_delays_until steps) never).1
      untold_rest (inr none) = inr none

  -- the step counts the same from either table
  counted_alike :
      (tallies : List TaskTally) → length tallies ≤ a.settings.tasks
      → tallied stamp_queues (moment_of a step) tallies ≡ tallied stamp_queues (moment_of b step) tallies
  unfolding tallied tally_after
  counted_alike tallies few =
      let tasks = ap (λ (settings : Settings). settings.tasks) (shifted_settings by a b both.same) in
      let counted = λ (before : View) (reply : Reply) (later : View).
      tallied list_queues (record { before = before; step = step; reply = reply; after = later }) tallies in
      tallied_seen (moment_of a step) tallies both.first.consistent few
      ∙ sym (λ i. counted (both.same i) (sym first_outcomes.0 i) (first_outcomes.1 i))
      ∙ sym (tallied_seen (moment_of b step) tallies both.second.consistent (omega (arith, few, tasks)))

-- ---- lists of steps

outcomes_alike : (by : ℕ) (steps : List Step) (a b : Table) → AreShifted by a b → RunOn by a steps → run_results a steps ≡ run_results b steps
outcomes_alike by [] a b both on = refl
outcomes_alike by (step ∷ steps) a b both on =
    let outcomes = first_outcomes by a b step steps both on in
    let control = shifted_control by (step_of step a).1 (step_of step b).1 outcomes.1 in
    let rest = outcomes_alike by steps (step_of step a).1 (step_of step b).1 (shifted_next by a b step steps both on) (run_rest by a b step steps both on) in
    λ i. (outcomes.0 i, running (control i)) ∷ rest i

states_shifted : (by : ℕ) (steps : List Step) (a b : Table) → AreShifted by a b → RunOn by a steps → IsShifted by (state_after a steps) (state_after b steps)
states_shifted by [] a b both on = both.same
states_shifted by (step ∷ steps) a b both on =
    states_shifted by steps (step_of step a).1 (step_of step b).1 (shifted_next by a b step steps both on) (run_rest by a b step steps both on)

tallies_alike :
    (by : ℕ) (steps : List Step) (a b : Table) (tallies : List TaskTally) → AreShifted by a b → RunOn by a steps → length tallies ≤ a.settings.tasks
    → tallied_after a steps tallies ≡ tallied_after b steps tallies
tallies_alike by [] a b tallies both on few = refl
tallies_alike by (step ∷ steps) a b tallies both on few =
    let tasks = ap (λ (settings : Settings). settings.tasks) (settings_after a step both.first) in
    tallies_alike by steps (step_of step a).1 (step_of step b).1 (tallied stamp_queues (moment_of a step) tallies)
    (shifted_next by a b step steps both on) (run_rest by a b step steps both on) (omega (arith, few, tasks, length_tallied (moment_of a step) tallies))
    ∙ ap (tallied_after (step_of step b).1 steps) (counted_alike by a b step steps both on tallies few)

parts_alike :
    (by : ℕ) (steps : List Step) (a b : Table) → AreShifted by a b → RunOn by a steps → part_tallies a.settings a steps ≡ part_tallies a.settings b steps
parts_alike by steps a b both on =
    tallies_alike by steps a b (first_tallies a.settings a.control) both on (omega (arith, length_each (first_tally a.settings a.control) a.settings.tasks))
    ∙ ap (λ (control : Control). tallied_after b steps (first_tallies a.settings control)) (shifted_control by a b both.same)

-- the first of such steps are such too
never-take : (place : ℕ) (steps : List Step) → some_delays_until steps ≡ false → some_delays_until (take place steps) ≡ false
never-take zero steps never = refl
never-take (suc place) [] never = refl
never-take (suc place) (step ∷ steps) never =
    let both = neither (delays_until step) (some_delays_until steps) never in
    ap (λ delays. delays || some_delays_until (take place steps)) both.0 ∙ never-take place steps both.1

untold-take : (by place : ℕ) (steps : List Step) → AreUntold by steps → AreUntold by (take place steps)
untold-take by place steps (inl never) = inl (never-take place steps never)
untold-take by place steps (inr none) = inr none

run_on : (by : ℕ) (a b : Table) (steps : List Step) → AreShifted by a b → RunOn by a steps → RunShifted by a b steps
run_on by a b steps both on = record {
  outcomes = outcomes_alike by steps a b both on;
  tallies = parts_alike by steps a b both on;
  states = λ place.
      states_shifted by (take place steps) a b both
      (record { checked = All-take (IsCheckedStep a.settings) place steps on.checked; untold = untold-take by place steps on.untold });
}

pub run_shifted :
    (by : ℕ) (a b : Table) (steps : List Step) → IsSound a → IsSound b → IsShifted by a b → All (IsCheckedStep a.settings) steps
    → some_delays_until steps ≡ false → RunShifted by a b steps
run_shifted by a b steps first second same checked never =
    run_on by a b steps (record { first = first; second = second; same = same }) (record { checked = checked; untold = inl never })

-- tables that have met run on so, whichever way they have met
pub met_run :
    (a b : Table) (steps : List Step) → IsSound a → IsSound b → All (IsCheckedStep a.settings) steps → is_met a b steps ≡ true
    → RunShifted (shift_between (view_of a).orders.tick (view_of b).orders.tick) a b steps
met_run a b steps first second checked met = from ((met_decided a b steps).0 met)
  where
    by : ℕ
    by = shift_between (view_of a).orders.tick (view_of b).orders.tick

    from : Same a b ⊎ (SameShifted a b × (some_delays_until steps ≡ false)) → RunShifted by a b steps
    from (inl same) =
        let tick = (view_of a).orders.tick in
        let none : by ≡ 0 = sym (ap (λ (view : View). shift_between tick view.orders.tick) same) ∙ no_ticks_between tick in
        run_on by a b steps
        (record { first = first; second = second; same = shifted_from_same a b (ap untimed same) })
        (record { checked = checked; untold = inr none })
    from (inr parts) = run_shifted by a b steps first second (shifted_from_same a b parts.0) checked parts.1
