use Rattle.std.proofs.Common.{All, ◌≡◌, ◌++◌, map, ◌+◌, ◌≤◌, vec_len, vec_capacity}
use Rattle.core_rig.specs.Resting.{IsOwn, at_rest}
use Rattle.core_rig.proofs.rig.move_all.Given as goal

-- the seats so far are in the room, and there is room for the others
abbrev pub invariant-loop-seat : goal.invariant-loop-seat
invariant-loop-seat l =
    (goal.iterator-loop-seat).can_next l.seat-iterator
    × (goal.iterator-loop-seat).is_finite l.seat-iterator
    × (l.fn.seats.items ≡ l.yielded ++ l.seat-iterator.rest.items)
    × (l.room.items ≡ map at_rest l.yielded)
    × All IsOwn l.yielded
    × (vec_len l.room + l.seat-iterator.rest.len ≤ vec_capacity l.room)
