use Rattle.worked_examples.proofs.MutexExamples.{mutexes}
use Rattle.worked_examples.proofs.examples_of_mutexes.Goals as goal

pub returns : goal.returns
returns c = mutexes
