use Rattle.worked_examples.proofs.Examples.{tables, alike_tables}
use Rattle.worked_examples.proofs.examples_of_equality.Goals as goal

pub returns-clause-equal_tables : goal.returns-clause-equal_tables
returns-clause-equal_tables c = tables

pub returns-clause-alike_tables : goal.returns-clause-alike_tables
returns-clause-alike_tables c = alike_tables
