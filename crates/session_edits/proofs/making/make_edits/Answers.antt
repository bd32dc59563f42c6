use Rattle.session_edits.proofs.Moving.{way_on}
use Rattle.session_edits.proofs.making.make_edits.Goals as goal

pub loop-edit-preserved : goal.loop-edit-preserved
loop-edit-preserved c =
    way_on c.in_ok-made.made.session c.in_ok-made.made.origins.items _ c.loop-edit.invariant c.loop-edit-test.true c.in_ok-made.ensures.session
    c.in_ok-made.ensures.origins c.in_ok-made.ensures.many
