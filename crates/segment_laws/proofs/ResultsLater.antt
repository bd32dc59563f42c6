-- What steps led to stays so many ticks later, where no step reads the tick count.
use Rattle.std.proofs.Common.{◌≡◌, ℕ, suc, false, List, [], ◌∷◌, length, map, take, refl, sym, ap, ap₂, subst, ◌∙◌}
use Rattle.std.specs.Prelude.{All}
use Rattle.std.proofs.lemmas.List.Elements.{All-head, All-tail}
use Rattle.bench_types.specs.declared.kernel_data.Settings.{Settings}
use Rattle.bench_types.specs.declared.reply.Reply.{Reply}
use Rattle.bench_types.specs.declared.step.Step.{Step}
use Rattle.bench_types.specs.Step.{core_of, IsCheckedStep}
use Rattle.bench_model.specs.Control.{current}
use Rattle.bench_model.specs.Equal.{StandsFor}
use Rattle.bench_model.specs.Lists.{View}
use Rattle.bench_model.specs.Session.{step_of, state_after, run_results}
use Rattle.bench_model.specs.Shifted.{shifted, some_delays_until}
use Rattle.bench_model.specs.Sound.{IsSound}
use Rattle.bench_model.specs.Table.{Table}
use Rattle.bench_model.specs.Tallied.{part_tallies}
use Rattle.bench_model.specs.Tally.{TaskTally}
use Rattle.shift_laws.proofs.Runs.{run_shifted}
use Rattle.shift_laws.specs.Shifts.{IsShifted, RunShifted}
use Rattle.segment_laws.specs.Segments.{currents_after, AreResults}

-- the current task of each step's core after it, by the control at each place
currents_alike : (steps : List Step) (a b : Table) → ((place : ℕ) → (state_after a (take place steps)).control ≡ (state_after b (take place steps)).control) →
    currents_after a steps ≡ currents_after b steps
currents_alike [] a b same = refl
currents_alike (step ∷ steps) a b same =
    ap₂ (λ task tasks. task ∷ tasks)
    (ap (λ control. current control (core_of step)) (same 1))
    (currents_alike steps (step_of step a).1 (step_of step b).1 (λ place. same (suc place)))

pub results_later : (by : ℕ) (kernel : View) (steps : List Step) (own : Table) (replies : List Reply) (currents : List ℕ) (tallies : List TaskTally) → StandsFor
    kernel own → All (IsCheckedStep kernel.settings) steps → some_delays_until steps ≡ false → AreResults kernel steps replies currents tallies → AreResults
    (shifted by kernel) steps replies currents tallies
results_later by kernel steps own replies currents tallies is all unread shown = record {
  sizes = shown.sizes;
  outcomes = λ table stands.
      let later : IsShifted by own table = stands.shows ∙ ap (shifted by) (sym is.shows) in
      let settings : own.settings ≡ kernel.settings = ap (λ (view : View). view.settings) is.shows in
      let checked = subst (λ settings. All (IsCheckedStep settings) steps) (sym settings) all in
      let run = run_shifted by own table steps is.sound stands.sound later checked unread in
      let led = shown.outcomes own is in
      record {
        replies_are = led.replies_are ∙ ap (map (λ outcome. outcome.0)) run.outcomes;
        currents_are = led.currents_are ∙ currents_alike steps own table (λ place. sym (ap (λ (view : View). view.control) (run.states place)));
        tallies_are = led.tallies_are ∙ subst (λ settings. part_tallies settings own steps ≡ part_tallies settings table steps) settings run.tallies;
      };
}
