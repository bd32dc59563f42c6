use Rattle.std.proofs.Common.{rules, ◌≡◌, ◌++◌, ◌∷◌}
use Rattle.core_rig.specs.Resting.{IsNew}
use Rattle.core_rig.proofs.Seats.{at_seam, new_rests}
use Rattle.core_rig.proofs.seat.CoreSeat.all.Goals as goal

pub invariant_of-push : goal.invariant_of-push
invariant_of-push c =
    let split : c.args.inner.items ≡ c.loop-seat.yielded ++ c.in-Some.seat ∷ c.next.new.self.rest.items = search rules in
    new_rests c.in-Some.seat (at_seam IsNew _ _ _ _ split c.requires)
