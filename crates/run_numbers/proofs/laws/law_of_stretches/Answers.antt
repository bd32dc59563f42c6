use Rattle.run_numbers.proofs.FirstStretches.{first_is_told}
use Rattle.run_numbers.proofs.Lawful.{none_is_longer, one_is_as_long}
use Rattle.run_numbers.proofs.Totals.{total_is_of_stretches}
use Rattle.run_numbers.proofs.laws.law_of_stretches.Goals as goal

pub returns-clause-none_is_longer : goal.returns-clause-none_is_longer
returns-clause-none_is_longer c = none_is_longer

pub returns-clause-one_is_as_long : goal.returns-clause-one_is_as_long
returns-clause-one_is_as_long c = one_is_as_long

pub returns-clause-first_is_told : goal.returns-clause-first_is_told
returns-clause-first_is_told c = first_is_told

pub returns-clause-total : goal.returns-clause-total
returns-clause-total c = total_is_of_stretches
