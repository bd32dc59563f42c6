use Rattle.std.proofs.Common.{map, string_bytes, arith}
use Rattle.run_views.proofs.PlaceTexts.{end_printed, none_printed, step_printed}
use Rattle.run_views.proofs.place_texts.push_texts.Goals as goal

pub loop-place-init : goal.loop-place-init
loop-place-init c = none_printed c.args.places c.args.header.now c.args.kernel.now c.args.steps.now (map string_bytes c.args.texts.now.items) c.requires.started

pub loop-place-preserved : goal.loop-place-preserved
loop-place-preserved c =
    let pushed = c.in_ok-push_step_text.ensures in
    step_printed c.push_step_text.new.kernel (map string_bytes c.push_step_text.new.texts.items) _ c.loop-place.invariant c.loop-place-test.true pushed.texts
    pushed.state pushed.settings

pub returns : goal.returns
returns c = end_printed (map string_bytes c.push_end_text.new.texts.items) c.loop-place.invariant
    (omega (arith, c.loop-place-test.false, c.loop-place.auto.place-end)) c.in_ok-push_end_text.ensures
