use Rattle.rig_tests.specs.Use.{IsUsable}
use Rattle.rig_tests.proofs.locks.turns.take_own_turns.Given as goal

-- the seat may be used
abbrev pub invariant-loop : goal.invariant-loop
invariant-loop g l = IsUsable l.pair l.seat
