use Rattle.worked_examples.proofs.KeptExamples.{kept_runs}
use Rattle.worked_examples.proofs.examples_of_kept_runs.Goals as goal

pub returns : goal.returns
returns c = kept_runs
