use Rattle.std.proofs.Common.{rules, ◌≡◌, Ok}
use Rattle.bench_types.specs.CoreAction.{core_action_check}
use Rattle.bench_types.specs.Step.{settings_of}
use Rattle.core_rig.proofs.CoreActions.{came, depth_stays, is_answered, no_call, rests_again, task_stays}
use Rattle.core_rig.proofs.seat.CoreSeat.act_by_interrupt.Goals as goal

pub invariant_of-self : goal.invariant_of-self
invariant_of-self g c =
    let its = c.act_and_leave-stretch.ensures in
    let checked : core_action_check (settings_of c.self.inside.seat.terms.header) c.self.inside.seat.number c.args.core_action ≡ Ok tt = search rules in
    let came =
    came c.self.inside.seat c.args.core_action checked _ _ _ _ c.enter.ensures its.seat its.answer its.legal its.sound in
    let stays = depth_stays _ _ _ _ _ _ _ c.self.invariant c.enter.ensures its.seat (its.stays (no_call c.args.core_action c.requires.kind)) its.depth in
    rests_again _ _ _ _ _ _ _ _ c.self.invariant came its.legal its.depth its.none its.count (search rules) (search rules)
    (task_stays _ _ _ _ _ _ _ c.self.invariant c.enter.ensures its.seat stays)

pub returns-clause-answered : goal.returns-clause-answered
returns-clause-answered g c =
    let its = c.act_and_leave-stretch.ensures in
    let checked : core_action_check (settings_of c.self.inside.seat.terms.header) c.self.inside.seat.number c.args.core_action ≡ Ok tt = search rules in
    let came =
    came c.self.inside.seat c.args.core_action checked _ _ _ _ c.enter.ensures its.seat its.answer its.legal its.sound in
    is_answered _ _ _ _ c.self.view_is _ checked came
