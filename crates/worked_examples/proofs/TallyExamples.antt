-- The worked tallies, computed step by step.
use Rattle.std.proofs.Common.{refl, ◌∙◌}
use Rattle.bench_types.specs.declared.step.Step.TheVariants.{Switch}
use Rattle.bench_model.specs.ControlFields.{in_use_set, in_use_and_value_set}
use Rattle.worked_examples.specs.Examples.{three_tasks, timed, slept}
use Rattle.worked_examples.specs.MutexExamples.{low_and_high, given_up}
use Rattle.bench_model.specs.Mutexes.{taken, inherited, waited_at, mutex_take, after_disinherit, timed_out, take_finished}
use Rattle.bench_model.specs.Control.{runs_on, ask_its_core}
use Rattle.bench_model.specs.Table.{first_waiter, deadline_left}
use Rattle.bench_model.specs.Tallied.{tally_after, tallied}
use Rattle.worked_examples.specs.TallyExamples.{WorkedTallies, woken_late, called_off_its_core}
use Rattle.worked_examples.proofs.Examples.{computed}
use Rattle.session_laws.proofs.Tallies.{stepwise}

pub worked : WorkedTallies
unfolding computed in_use_set in_use_and_value_set runs_on ask_its_core first_waiter deadline_left taken inherited waited_at mutex_take after_disinherit timed_out take_finished
    tally_after tallied
worked = record {
  sleeps = stepwise (timed three_tasks) (slept (Switch 0) (Switch 1)) ∙ refl;
  waits_for_a_switch = stepwise three_tasks woken_late ∙ refl;
  is_displaced = stepwise (timed three_tasks) called_off_its_core ∙ refl;
  gives_up = stepwise low_and_high given_up ∙ refl;
}
