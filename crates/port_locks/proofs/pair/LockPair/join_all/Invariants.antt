use Rattle.std.proofs.Common.{◌≡◌, [], false, List, ◌++◌}
use Rattle.std.specs.List.{All}
use Rattle.port_locks.specs.Seats.{SeatView}
use Rattle.port_locks.proofs.KnownSeats.{IsKnown}
use Rattle.port_locks.proofs.pair.LockPair.join_all.Given as goal

-- the seats that are not left are known to the one
abbrev pub invariant-loop-seat : goal.invariant-loop-seat
invariant-loop-seat g l =
    (l.all.table_id ≡ l.self.pair) × (l.all.me.1 ≡ []) × (l.all.me.0.spent ≡ false)
    × (l.all.me.0.owns_interrupt ≡ false) × (l.all.me.0.owns_task ≡ false)
    × (rest : List (SeatView g.row.V.Denot)) × (l.fn.seats.items ≡ l.seats.items ++ rest)
    × All (IsKnown l.all.me.0) rest

abbrev pub decreases-loop-seat : goal.decreases-loop-seat
decreases-loop-seat g l = goal.left-loop-seat g l
