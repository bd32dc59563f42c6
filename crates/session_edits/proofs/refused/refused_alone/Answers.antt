use Rattle.session_edits.proofs.Listed.{alone_on, none_alone}
use Rattle.session_edits.proofs.refused.refused_alone.Goals as goal

pub loop-index-preserved : goal.loop-index-preserved
loop-index-preserved c session counted =
    alone_on session c.args.edits.now c.loop-index.index c.args.steps c.loop-index.refused.items c.push_if_refused.new.refused.items _ _ counted
    c.loop-index-test.true
    c.in_ok-push_if_refused.ensures.refused (c.loop-index.invariant session counted)

pub returns : goal.returns
returns c session counted = none_alone session c.args.edits.now c.loop-index.index c.loop-index.refused.items _ c.loop-index-test.false
    (c.loop-index.invariant session counted)
