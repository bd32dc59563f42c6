use Rattle.worked_examples.proofs.SettledExamples.{quiet_work}
use Rattle.worked_examples.proofs.examples_of_quiet_work.Goals as goal

pub returns : goal.returns
returns c = quiet_work
