use Rattle.ranked_changes.proofs.Orders.{best_first}
use Rattle.ranked_changes.proofs.rank.sorted.Goals as goal

pub returns-clause-ordered : goal.returns-clause-ordered
returns-clause-ordered c = best_first c.sort.new.self.items c.in_ok-sort.ensures.sorted
