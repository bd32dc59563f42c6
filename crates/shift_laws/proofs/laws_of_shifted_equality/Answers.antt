use Rattle.shift_laws.proofs.PairsShifted.{pairs_from_shifted, shifted_from_pairs}
use Rattle.shift_laws.proofs.ShiftTests.{met_decided, same_at_one_tick, same_shifted_decided}
use Rattle.shift_laws.proofs.Steps.{not_shifted, same_from_shifted, shifted_from_same, unshifted}
use Rattle.shift_laws.proofs.laws_of_shifted_equality.Goals as goal

pub returns-clause-same_shifted_is_shifted : goal.returns-clause-same_shifted_is_shifted
returns-clause-same_shifted_is_shifted c = λ a b. (shifted_from_same a b, same_from_shifted _ a b)

pub returns-clause-shifted_is_same_shifted : goal.returns-clause-shifted_is_same_shifted
returns-clause-shifted_is_same_shifted c = same_from_shifted

pub returns-clause-same_shifted_is_tested : goal.returns-clause-same_shifted_is_tested
returns-clause-same_shifted_is_tested c = same_shifted_decided

pub returns-clause-met_is_tested : goal.returns-clause-met_is_tested
returns-clause-met_is_tested c = met_decided

pub returns-clause-same_is_same_tick : goal.returns-clause-same_is_same_tick
returns-clause-same_is_same_tick c = same_at_one_tick

pub returns-clause-same_shifted_is_alike : goal.returns-clause-same_shifted_is_alike
returns-clause-same_shifted_is_alike c = λ a b first second. (pairs_from_shifted a b first second, shifted_from_pairs a b first second)

pub returns-clause-same_is_unshifted : goal.returns-clause-same_is_unshifted
returns-clause-same_is_unshifted c = λ a b. (not_shifted a b, unshifted a b)
