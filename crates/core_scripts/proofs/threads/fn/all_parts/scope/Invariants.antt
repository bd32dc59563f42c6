use Rattle.std.proofs.Common.{◌≡◌, ◌++◌, ◌<◌, ℕ, [], get_or, length, map, vec_items, vec_len}
use Rattle.list_orders.specs.Search.{numbers}
use Rattle.core_rig.specs.Seats.{new_seat}
use Rattle.core_scripts.proofs.threads.fn.all_parts.scope.Given as goal

-- each thread so far is to do the part of its core
abbrev pub invariant-loop-seat : goal.invariant-loop-seat
invariant-loop-seat g l =
    (goal.iterator-loop-seat g).can_next l.seat-iterator
    × (goal.iterator-loop-seat g).is_finite l.seat-iterator
    × (map (new_seat l.rig) (numbers l.rig.cores) ≡ l.yielded ++ l.seat-iterator.rest.items)
    × (vec_len l.threads ≡ length l.yielded)
    × ((k : ℕ) (d : _) → k < length l.yielded → let part = (get_or (vec_items l.threads) k d).promise in
    (part.rig.now ≡ l.rig) × (part.script.now ≡ get_or l.scripts k []) × (part.core ≡ k))
