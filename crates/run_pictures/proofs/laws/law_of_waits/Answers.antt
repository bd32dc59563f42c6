use Rattle.run_pictures.proofs.Unfinished.{blocked_calls_stay, waits_are_unfinished}
use Rattle.run_pictures.proofs.laws.law_of_waits.Goals as goal

pub returns : goal.returns
returns c = record { told = waits_are_unfinished; stays = blocked_calls_stay }
