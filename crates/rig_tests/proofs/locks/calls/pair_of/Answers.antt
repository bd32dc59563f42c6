use Rattle.rig_tests.proofs.Usable.{all_usable}
use Rattle.rig_tests.proofs.locks.calls.pair_of.Goals as goal

pub returns : goal.returns
returns c = all_usable _ _ _ c.in_ok-new.ensures.seats
