use Rattle.session_laws.proofs.Alike.{same_from_alike, alike_from_same}
use Rattle.session_laws.proofs.SameTests.{same_decided}
use Rattle.session_laws.proofs.laws_of_equality.Goals as goal

pub returns-clause-same_is_alike : goal.returns-clause-same_is_alike
returns-clause-same_is_alike c = λ a b first second. (alike_from_same a b first second, same_from_alike a b first second)

pub returns-clause-same_is_tested : goal.returns-clause-same_is_tested
returns-clause-same_is_tested c = same_decided
