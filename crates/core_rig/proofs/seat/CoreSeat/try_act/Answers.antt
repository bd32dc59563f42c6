use Rattle.std.proofs.Common.{rules, inr, ◌≡◌, Ok}
use Rattle.bench_types.specs.CoreAction.{core_action_check}
use Rattle.bench_types.specs.Step.{settings_of}
use Rattle.core_rig.proofs.CoreActions.{came, depth_stays, is_answered_at_once, no_call, rests_again, task_stays}
use Rattle.core_rig.proofs.seat.CoreSeat.try_act.Goals as goal

pub invariant_of-self-2 : goal.invariant_of-self-2
invariant_of-self-2 c =
    let its = c.act_and_leave-stretch.ensures in
    let core_action = c.args.core_action in
    let checked : core_action_check (settings_of c.self.inside.seat.terms.header) c.self.inside.seat.number core_action ≡ Ok tt = search rules in
    let took = c.in-Ok.ensures.outermost c.self.invariant.interrupt in
    let came = came c.self.inside.seat core_action checked _ _ _ _ took its.seat its.answer its.legal its.sound in
    let stays = depth_stays _ _ _ core_action _ _ _ c.self.invariant took its.seat (its.stays (no_call c.args.core_action c.requires.kind)) its.depth in
    rests_again core_action _ _ _ _ _ _ _ c.self.invariant came its.legal its.depth its.none its.count (search rules) (search rules)
    (task_stays _ _ _ core_action _ _ _ c.self.invariant took its.seat stays)

pub returns-clause-answered : goal.returns-clause-answered
returns-clause-answered c =
    let its = c.act_and_leave-stretch.ensures in
    let core_action = c.args.core_action in
    let checked : core_action_check (settings_of c.self.inside.seat.terms.header) c.self.inside.seat.number core_action ≡ Ok tt = search rules in
    let took = c.in-Ok.ensures.outermost c.self.invariant.interrupt in
    let came = came c.self.inside.seat core_action checked _ _ _ _ took its.seat its.answer its.legal its.sound in
    is_answered_at_once core_action c.self.inside.seat c.act_and_leave-stretch.new.seat _ c.self.view_is _ checked (inr came.acted)
