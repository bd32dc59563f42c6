use Rattle.run_pictures.proofs.Hindered.{hindrances_are_so}
use Rattle.run_pictures.proofs.laws.law_of_hindrances.Goals as goal

pub returns : goal.returns
returns c = hindrances_are_so
