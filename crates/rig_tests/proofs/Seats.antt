-- Seats of one rig.
use Rattle.std.proofs.Common.{◌≡◌, ℕ, List, All, map, refl, sym, subst}
use Rattle.std.proofs.lemmas.List.Elements.{All-map}
use Rattle.list_orders.specs.Search.{numbers}
use Rattle.port_locks.specs.Seats.{PairView}
use Rattle.core_rig.specs.Seats.{CoreView, IsSeatOf, new_seat}

pub all_its : (rig : PairView) (cores : ℕ) (seats : List CoreView) → seats ≡ map (new_seat rig) (numbers cores) → All (IsSeatOf rig) seats
all_its rig cores seats are =
    subst (All (IsSeatOf rig)) (sym are)
    (All-map (IsSeatOf rig) (new_seat rig) (numbers cores) (λ k d l. (refl, refl)))
