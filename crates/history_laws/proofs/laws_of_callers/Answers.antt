use Rattle.history_laws.proofs.Recorded.{none_by_current, one_more_by_current}
use Rattle.history_laws.proofs.laws_of_callers.Goals as goal

pub returns : goal.returns
returns c = record { none_is_by_current = none_by_current; one_more_is_by_current = one_more_by_current }
