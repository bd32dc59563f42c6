use Rattle.kept_notes.proofs.OnTheWay.{all_listed, initial, next_checked, way_on}
use Rattle.kept_notes.proofs.refused.refused_kept.Goals as goal

pub loop-index-init : goal.loop-index-init
loop-index-init c = initial c.args.session.now c.args.edits.now _ _ c.in_ok-now.ensures c.new-refused.ensures.items c.requires

pub make_edit-requires : goal.make_edit-requires
make_edit-requires c = next_checked _ c.loop-index.invariant c.loop-index-test.true

pub loop-index-preserved : goal.loop-index-preserved
loop-index-preserved c =
    way_on c.in_ok-now-2.now c.make_edit.new.refused.items _ c.loop-index.invariant c.loop-index-test.true c.in_ok-now-2.ensures.after
    c.in_ok-now-2.ensures.refused

pub returns : goal.returns
returns c = all_listed c.loop-index.invariant c.loop-index-test.false
