-- The seats of a new pair.
use Rattle.std.specs.Prelude.{ℕ, [], None}
use Rattle.port_locks.specs.Seats.{PairView, SeatView}

-- a seat that has seen nothing
abbrev pub new_seat : {V : Type 0} → PairView → ℕ → SeatView V
new_seat pair number = record {
  pair = pair.pair;
  terms = pair.terms;
  number = number;
  task_depth = 0;
  interrupt_depth = 0;
  seen = [];
  made = [];
  value = None;
}
