use Rattle.rig_tests.proofs.Seats.{all_its}
use Rattle.rig_tests.proofs.rigs.rig_over.Goals as goal

pub returns : goal.returns
returns c = all_its c.in_ok-new.field-0.0 _ _ c.in_ok-new.ensures.seats
