use Rattle.worked_examples.proofs.SeekExamples.{asked, sought, choices}
use Rattle.worked_examples.proofs.examples_of_seeking.Goals as goal

pub returns-clause-worked_searches : goal.returns-clause-worked_searches
returns-clause-worked_searches c = asked

pub returns-clause-worked_seeks : goal.returns-clause-worked_seeks
returns-clause-worked_seeks c = sought

pub returns-clause-worked_choices : goal.returns-clause-worked_choices
returns-clause-worked_choices c = choices
