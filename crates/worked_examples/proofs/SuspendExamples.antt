-- The worked suspensions, computed on the definitions.
use Rattle.bench_model.specs.ControlFields.{in_use_set, in_use_and_value_set}
use Rattle.bench_model.specs.Control.{runs_on, ask_its_core}
use Rattle.bench_model.specs.Holds.{hold_opened}
use Rattle.bench_model.specs.Mutexes.{taken, inherited, waited_at, mutex_take, after_disinherit, take_finished, disinherited, first_woken, mutex_give}
use Rattle.bench_model.specs.Notes.{notified, slot_in, unawaited, wait_entered, wait_ended}
use Rattle.bench_model.specs.Notifying.{awaited, notify}
use Rattle.bench_model.specs.Queues.{queue_called, queue_finished, queue_waited}
use Rattle.bench_model.specs.Refusals.{would_block}
use Rattle.bench_model.specs.Suspending.{is_suspended, resume_interrupted, resumed, suspended, without_waits}
use Rattle.bench_model.specs.Table.{first_waiter, deadline_left, suspend}
use Rattle.worked_examples.specs.SuspendExamples.{WorkedSuspensions}
use Rattle.worked_examples.proofs.Examples.{computed}

pub suspensions : WorkedSuspensions
unfolding computed in_use_set in_use_and_value_set runs_on ask_its_core hold_opened taken inherited waited_at mutex_take after_disinherit take_finished
    disinherited first_woken mutex_give notified slot_in unawaited wait_entered wait_ended awaited notify queue_called queue_finished queue_waited would_block
    is_suspended resume_interrupted resumed suspended without_waits first_waiter deadline_left suspend
suspensions = assumption
