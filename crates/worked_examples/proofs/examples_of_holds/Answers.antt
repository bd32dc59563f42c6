use Rattle.worked_examples.proofs.HoldExamples.{holds, untils}
use Rattle.worked_examples.proofs.examples_of_holds.Goals as goal

pub returns-clause-worked_holds : goal.returns-clause-worked_holds
returns-clause-worked_holds c = holds

pub returns-clause-worked_untils : goal.returns-clause-worked_untils
returns-clause-worked_untils c = untils
