use Rattle.session_advice.proofs.OneAdvice.{advice_is_one}
use Rattle.session_advice.proofs.laws.law_of_advice.Goals as goal

pub returns : goal.returns
returns c = advice_is_one
