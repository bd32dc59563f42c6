use Rattle.ranked_changes.proofs.OneRanking.{rankings_are_one}
use Rattle.ranked_changes.proofs.Orders.{entries_same, others_no_better}
use Rattle.ranked_changes.proofs.laws.laws_of_rankings.Goals as goal

pub returns-clause-entries_are_compared : goal.returns-clause-entries_are_compared
returns-clause-entries_are_compared c = entries_same

pub returns-clause-others_are_no_better : goal.returns-clause-others_are_no_better
returns-clause-others_are_no_better c = others_no_better

pub returns-clause-rankings_are_one : goal.returns-clause-rankings_are_one
returns-clause-rankings_are_one c = rankings_are_one
