use Rattle.worked_examples.proofs.QueueExamples.{queues}
use Rattle.worked_examples.proofs.examples_of_queues.Goals as goal

pub returns : goal.returns
returns c = queues
