use Rattle.std.proofs.Common.{◌≡◌, ◌≤◌, [], map, ◌+◌, length}
use Rattle.std.specs.List.{range_with_len}
use Rattle.port_locks.specs.Made.{new_seat}
use Rattle.port_locks.specs.Steps.{seated}
use Rattle.port_locks.proofs.pair.LockPair.seats.Given as goal

-- the first seat has given out all numbers below this one, and the seats of all but its own are made
abbrev pub invariant-loop-number : goal.invariant-loop-number
invariant-loop-number g l =
    (l.number ≤ l.self.cores) × (l.first.table_id ≡ l.self.pair)
    × (l.first.me ≡ (seated l.self.terms 0 l.number, []))
    × (l.number ≡ 1 + length l.seats.items)
    × (l.seats.items ≡ map (new_seat l.self) (range_with_len 1 (length l.seats.items)))
