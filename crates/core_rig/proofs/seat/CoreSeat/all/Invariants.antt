use Rattle.std.proofs.Common.{◌≡◌, ◌++◌, map}
use Rattle.core_rig.specs.Resting.{core_view}
use Rattle.core_rig.proofs.seat.CoreSeat.all.Given as goal

-- the seats so far are made
abbrev pub invariant-loop-seat : goal.invariant-loop-seat
invariant-loop-seat l =
    (goal.iterator-loop-seat).can_next l.seat-iterator
    × (goal.iterator-loop-seat).is_finite l.seat-iterator
    × (l.fn.inner.items ≡ l.yielded ++ l.seat-iterator.rest.items)
    × (l.seats.items ≡ map core_view l.yielded)
