-- Worked tallies.
use Rattle.std.specs.Prelude.{◌≡◌, ℕ, List, [], ◌∷◌}
use Rattle.bench_types.specs.declared.step.Step.{Step}
use Rattle.bench_types.specs.declared.step.Step.TheVariants.{Tick, Switch, Call}
use Rattle.bench_types.specs.declared.step.Call.TheVariants.{Delay}
use Rattle.worked_examples.specs.Examples.{three_tasks, timed, slept}
use Rattle.worked_examples.specs.MutexExamples.{low_and_high, given_up}
use Rattle.bench_model.specs.Tally.{TaskTally, tallies}

-- the run numbers of both cores, then the others in their order
abbrev pub tally : ℕ → ℕ → ℕ → ℕ → ℕ → ℕ → ℕ → ℕ → TaskTally
tally run_0 run_1 wait inverted switched displaced timeouts top = record {
  run = run_0 ∷ run_1 ∷ [];
  counts =
      record {
        wait = wait;
        inverted = inverted;
        switched = switched;
        displaced = displaced;
        timeouts = timeouts;
        top = top;
      };
}

-- task 2 is woken by the first tick, and core 0 switches to it after the second at the earliest
abbrev pub woken_late : List Step
woken_late = Call 0 2 (Delay 1) ∷ Switch 0 ∷ Tick ∷ Tick ∷ []

-- task 2 waits, and core 0 has switched away from it, when it would call again
abbrev pub called_off_its_core : List Step
called_off_its_core = Call 0 2 (Delay 2) ∷ Switch 0 ∷ Tick ∷ Switch 1 ∷ Call 0 2 (Delay 2) ∷ []

pub record WorkedTallies : Type 0 where
  pub sleeps : tallies (timed three_tasks) (slept (Switch 0) (Switch 1)) ≡
      tally 0 0 2 0 0 0 0 0 ∷ tally 0 0 2 0 0 0 0 0 ∷ tally 0 0 0 0 1 0 0 2 ∷ tally 0 2 0 0 0 0 0 1
      ∷ tally 2 0 0 0 2 0 0 1 ∷ []
  pub waits_for_a_switch : tallies three_tasks woken_late ≡
      tally 0 0 2 0 0 0 0 0 ∷ tally 0 0 2 0 0 0 0 0 ∷ tally 0 0 1 1 0 0 0 2 ∷ tally 0 2 0 0 0 0 0 1
      ∷ tally 2 0 0 0 1 0 0 1 ∷ []
  pub is_displaced : tallies (timed three_tasks) called_off_its_core ≡
      tally 0 0 1 0 0 0 0 0 ∷ tally 0 0 1 0 0 0 0 0 ∷ tally 0 0 0 0 0 1 0 2 ∷ tally 0 1 0 0 0 0 0 1
      ∷ tally 1 0 0 0 1 0 0 1 ∷ []
  pub gives_up : tallies low_and_high given_up ≡
      tally 0 0 1 0 0 0 0 0 ∷ tally 0 0 1 0 0 0 0 0 ∷ tally 0 1 0 0 0 0 0 3 ∷ tally 1 0 0 0 0 0 1 3
      ∷ []
