use Rattle.std.proofs.Common.{arith}
use Rattle.run_pictures.proofs.Filming.{all_seen, none_seen, step_seen}
use Rattle.run_pictures.proofs.run_looks.push_run.Goals as goal

pub loop-place-init : goal.loop-place-init
loop-place-init c = none_seen c.args.places c.args.header.now c.args.kernel.now c.args.steps.now c.args.looks.now.items c.args.made.now.items c.requires.started

pub loop-place-preserved : goal.loop-place-preserved
loop-place-preserved c =
    step_seen c.step-reply.new.self c.push_look.new.looks.items c.push_made.new.made.items _ c.step-reply.result c.loop-place.invariant c.loop-place-test.true
    c.in_ok-push_look.ensures c.step-reply.ensures.reply c.in_ok-push_made.ensures c.step-reply.ensures.state c.step-reply.ensures.shape

pub returns : goal.returns
returns c = all_seen c.push_look-2.new.looks.items c.loop-place.invariant (omega (arith, c.loop-place-test.false, c.loop-place.auto.place-end))
    c.in_ok-push_look-2.ensures
