use Rattle.run_pictures.proofs.Escaping.{words_escaped}
use Rattle.run_pictures.proofs.escape.law_of_escapes.Goals as goal

pub returns : goal.returns
returns c = words_escaped
