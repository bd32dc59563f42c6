use Rattle.std.proofs.Common.{rules, refl, ◌≡◌, Ok, subst}
use Rattle.bench_types.specs.CoreAction.{core_action_check}
use Rattle.bench_types.specs.Step.{settings_of}
use Rattle.port_locks.specs.Seats.{HasTaken}
use Rattle.core_rig.specs.Stretches.{terms_of, entries_of}
use Rattle.core_rig.proofs.CoreActions.{came, came_beside, is_answered, one_take, rests_with}
use Rattle.core_rig.proofs.seat.CoreSeat.act_by_task.Goals as goal

pub invariant_of-self : goal.invariant_of-self
invariant_of-self g c =
    let its = c.act_and_leave-stretch.ensures in
    let checked : core_action_check (settings_of c.self.inside.seat.terms.header) c.self.inside.seat.number c.args.core_action ≡ Ok tt = search rules in
    let took = subst (λ seat. HasTaken terms_of entries_of seat c.enter.new.seat) c.enter_task.ensures c.enter.ensures in
    let came =
    came c.self.inside.seat c.args.core_action checked _ _ _ _ took its.seat its.answer its.legal its.sound in
    rests_with _ _ _ _ _ _ _ _ _ _ c.self.invariant came its.legal its.depth its.none its.count (search rules) (search rules) c.leave_task.ensures
    (one_take _ _ refl)

pub returns-clause-answered : goal.returns-clause-answered
returns-clause-answered g c =
    let its = c.act_and_leave-stretch.ensures in
    let checked : core_action_check (settings_of c.self.inside.seat.terms.header) c.self.inside.seat.number c.args.core_action ≡ Ok tt = search rules in
    let took = subst (λ seat. HasTaken terms_of entries_of seat c.enter.new.seat) c.enter_task.ensures c.enter.ensures in
    let came =
    came c.self.inside.seat c.args.core_action checked _ _ _ _ took its.seat its.answer its.legal its.sound in
    let later = came_beside _ _ _ _ _ _ c.leave_task.ensures came in
    is_answered _ _ _ _ c.self.view_is _ checked later
