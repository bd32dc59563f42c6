-- The worked queues, computed on the definitions.
use Rattle.bench_model.specs.Holds.{hold_opened, hold_closed}
use Rattle.bench_model.specs.Mutexes.{first_woken}
use Rattle.bench_model.specs.Queues.{passed, queue_called, queue_finished, queue_interrupted, queue_waited}
use Rattle.bench_model.specs.Refusals.{would_block}
use Rattle.bench_model.specs.Table.{first_waiter, deadline_left}
use Rattle.worked_examples.specs.QueueExamples.{WorkedQueues}
use Rattle.worked_examples.proofs.Examples.{computed}

pub queues : WorkedQueues
unfolding computed first_waiter deadline_left first_woken passed queue_called queue_finished queue_interrupted queue_waited would_block hold_opened hold_closed
queues = assumption
