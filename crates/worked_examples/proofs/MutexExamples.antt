-- The worked mutexes, computed on the definitions.
use Rattle.bench_model.specs.ControlFields.{in_use_set, in_use_and_value_set}
use Rattle.worked_examples.specs.MutexExamples.{WorkedMutexes}
use Rattle.bench_model.specs.Mutexes.{taken, inherited, waited_at, mutex_take, after_disinherit, timed_out, take_finished, disinherited, first_woken}
use Rattle.bench_model.specs.Mutexes.{mutex_give}
use Rattle.bench_model.specs.Control.{runs_on, ask_its_core}
use Rattle.bench_model.specs.Table.{first_waiter, deadline_left}
use Rattle.worked_examples.proofs.Examples.{computed}

pub mutexes : WorkedMutexes
unfolding computed in_use_set in_use_and_value_set runs_on ask_its_core first_waiter deadline_left taken inherited waited_at mutex_take after_disinherit timed_out take_finished
    disinherited first_woken mutex_give
mutexes = assumption
