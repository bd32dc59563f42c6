use Rattle.session_edits.proofs.Listed.{all_listed, initial, way_on}
use Rattle.session_edits.proofs.refused.refused_in_turn.Goals as goal

pub loop-index-init : goal.loop-index-init
loop-index-init c session counted = initial session c.args.edits.now c.args.steps c.new-refused.result.items c.new-refused.ensures.items counted

pub loop-index-preserved : goal.loop-index-preserved
loop-index-preserved c session counted =
    way_on c.in_ok-count.count c.push_if_refused.new.refused.items _ (c.loop-index.invariant session counted) c.loop-index-test.true
    c.in_ok-count.ensures.steps c.in_ok-count.ensures.refused

pub returns : goal.returns
returns c session counted = all_listed (c.loop-index.invariant session counted) c.loop-index-test.false
