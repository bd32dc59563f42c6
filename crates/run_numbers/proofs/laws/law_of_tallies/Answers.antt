use Rattle.run_numbers.proofs.Lawful.{numbers_are_tallies}
use Rattle.run_numbers.proofs.laws.law_of_tallies.Goals as goal

pub returns : goal.returns
returns c = numbers_are_tallies
