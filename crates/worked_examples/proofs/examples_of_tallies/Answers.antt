use Rattle.worked_examples.proofs.TallyExamples.{worked}
use Rattle.worked_examples.proofs.examples_of_tallies.Goals as goal

pub returns : goal.returns
returns c = worked
