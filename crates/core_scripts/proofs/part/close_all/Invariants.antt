use Rattle.core_rig.specs.Seats.{depth_at}
use Rattle.core_scripts.specs.Parts.{HasClosed}
use Rattle.core_scripts.proofs.part.close_all.Given as goal

-- the core made closes of its hold
abbrev pub invariant-loop-seat : goal.invariant-loop-seat
invariant-loop-seat g l = HasClosed l.fn.seat l.seat

abbrev pub decreases-loop-seat : goal.decreases-loop-seat
decreases-loop-seat g l = depth_at l.seat
