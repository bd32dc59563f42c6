use Rattle.core_scripts.proofs.Ends.{has_ended}
use Rattle.core_scripts.proofs.part.part_played.Goals as goal

pub returns-clause-ended : goal.returns-clause-ended
returns-clause-ended g c = has_ended _ _ _ c.act_all.ensures.played c.close_all.ensures.closed c.close_all.ensures.rests
