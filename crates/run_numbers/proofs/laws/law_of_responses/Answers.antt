use Rattle.run_numbers.proofs.Answered.{counts_are_jobs}
use Rattle.run_numbers.proofs.laws.law_of_responses.Goals as goal

pub returns : goal.returns
returns c = counts_are_jobs
