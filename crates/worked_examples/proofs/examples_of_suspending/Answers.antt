use Rattle.worked_examples.proofs.SuspendExamples.{suspensions}
use Rattle.worked_examples.proofs.examples_of_suspending.Goals as goal

pub returns : goal.returns
returns c = suspensions
