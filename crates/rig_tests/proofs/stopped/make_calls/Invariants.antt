use Rattle.core_rig.specs.Seats.{IsSeatOf}
use Rattle.rig_tests.proofs.stopped.make_calls.Given as goal

-- the seat is the rig's
abbrev pub invariant-loop-call : goal.invariant-loop-call
invariant-loop-call g l = IsSeatOf l.rig l.seat
