use Rattle.std.proofs.Common.{◌≡◌}
use Rattle.port_locks.proofs.pair.LockPair.take_task.Given as goal

-- the seat is as it was: each try so far found the word owned
abbrev pub invariant-loop : goal.invariant-loop
invariant-loop g l =
    ((goal.iterator-loop g).can_next l.iterator' × (goal.iterator-loop g).is_finite l.iterator')
    × (l.seat ≡ l.initial.seat)
