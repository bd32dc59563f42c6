use Rattle.std.proofs.Common.{rules, ◌≡◌, ◌<◌, ◌^◌, ◌∙◌, ap, arith, cond, length}
use Rattle.std.specs.Prelude.{is_ok}
use Rattle.bench_model.specs.History.{end_of}
use Rattle.recordings.specs.RecordingView.{answer_to_core_action}
use Rattle.core_rig.specs.Seats.{recording_of}
use Rattle.core_rig.specs.Stretches.{after_stretch}
use Rattle.core_rig.proofs.CoreActions.{count_after, count_fits}
use Rattle.core_rig.proofs.Stretches.{put_back}
use Rattle.core_rig.proofs.stretch.act_and_leave.Goals as goal

pub free_interrupt-requires-clause-returns : goal.free_interrupt-requires-clause-returns
free_interrupt-requires-clause-returns c once =
    let back =
    put_back c.args.seat.now c.args.core_action _ _ _ c.requires.hand c.value-recording.ensures.value
    c.number-core.ensures c.perform-answer.ensures.history c.perform-answer.ensures.growth
    c.depth_by-depth.ensures.sound c.requires.may in
    (back.0, back.1)

pub returns-clause-stays : goal.returns-clause-stays
returns-clause-stays c none =
    let back =
    put_back c.args.seat.now c.args.core_action _ _ _ c.requires.hand c.value-recording.ensures.value
    c.number-core.ensures c.perform-answer.ensures.history c.perform-answer.ensures.growth
    c.depth_by-depth.ensures.sound c.requires.may in
    let freed = c.free_interrupt.ensures.outermost c.requires.hand.once in
    ap (λ seat. (end_of seat.terms.header seat.seen).hold) freed ∙ back.2 none

pub overflow_add-result : goal.overflow_add-result
overflow_add-result c =
    let seat = c.args.seat.now in
    let is : c.free_interrupt.new.seat ≡ after_stretch c.args.core_action seat = search rules in
    let heard : c.is_ok.result ≡ is_ok (answer_to_core_action seat.number c.args.core_action (recording_of seat.terms seat.seen)) = search rules in
    let one : c.from.result ≡ cond c.is_ok.result 1 0 = search rules in
    let few : length c.free_interrupt.new.seat.seen < 2 ^ 64 = omega (arith, c.seen-seen.ensures, c.seen-seen.type_inv) in
    let sum = count_fits seat c.args.core_action c.requires.hand c.requires.core_action.passes _ c.is_ok.result _ _ is heard c.requires.count one few in
    omega (arith, sum)

pub returns-clause-count : goal.returns-clause-count
returns-clause-count c =
    let seat = c.args.seat.now in
    let is : c.free_interrupt.new.seat ≡ after_stretch c.args.core_action seat = search rules in
    let heard : c.is_ok.result ≡ is_ok (answer_to_core_action seat.number c.args.core_action (recording_of seat.terms seat.seen)) = search rules in
    let one : c.from.result ≡ cond c.is_ok.result 1 0 = search rules in
    count_after seat c.args.core_action c.requires.hand c.requires.core_action.passes _ c.is_ok.result _ _ is heard c.requires.count one
