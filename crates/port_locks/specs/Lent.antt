-- What a seat is after a loan of its value.
use Rattle.std.specs.Borrow.{Lends, MutBor, Fml, RattleType}
use Rattle.port_locks.specs.declared.kept.Kept.{Ghosts}
use Rattle.port_locks.specs.contracts.seat.Seat.{the_row}
use Rattle.port_locks.specs.Seats.{SeatView, with_value}

-- the seat ends with the last value behind the result
abbrev pub LendsValue : (V : RattleType) → Ghosts V.Denot → MutBor (SeatView V.Denot)
    → MutBor V.Denot → Fml
LendsValue V kept seat result = Lends (the_row V kept) V seat result (with_value seat.now)
