-- What the threads of all cores hand back.
use Rattle.std.specs.Prelude.{◌≡◌, ℕ, ◌<◌, List, [], length, get_or}
use Rattle.bench_types.specs.declared.core_action.CoreAction.{CoreAction}
use Rattle.port_locks.specs.Seats.{PairView}
use Rattle.core_rig.specs.Seats.{CoreView, IsSeatOf}
use Rattle.core_scripts.specs.Parts.{HasEnded}

-- the seat is the core's at the rig, and the core has done its part
pub record HasDonePart (rig : PairView) (core : ℕ) (script : List CoreAction) (seat : CoreView)
    : Type 0 where
  pub own : IsSeatOf rig seat
  pub core_is : seat.core ≡ core
  pub ended : HasEnded script seat

-- there is the seat of each core, in their order, each of which has done its part
pub record AreEnded (rig : PairView) (scripts : List (List CoreAction)) (seats : List CoreView)
    : Type 0 where
  pub count : length seats ≡ length scripts
  pub done :
      (core : ℕ) (d : CoreView) → core < length seats
      → HasDonePart rig core (get_or scripts core []) (get_or seats core d)
