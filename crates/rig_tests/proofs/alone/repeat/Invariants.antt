use Rattle.core_rig.specs.Seats.{IsSeatOf}
use Rattle.rig_tests.proofs.alone.repeat.Given as goal

-- the seat is the rig's
abbrev pub invariant-loop : goal.invariant-loop
invariant-loop g l = IsSeatOf l.rig l.zero
