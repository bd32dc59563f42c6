use Rattle.std.proofs.Common.{refl}
use Rattle.std.specs.Fmt.{digits}
use Rattle.shown_runs.proofs.pictures.law_of_texts.Goals as goal

pub returns : goal.returns
unfolding digits
returns c = refl
