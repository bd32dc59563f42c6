use Rattle.session_store.proofs.LaterSums.{all_lent, before_near, far_added, far_fits, far_shapes}
use Rattle.session_store.proofs.tallying.add_rest.Goals as goal

pub add_segments-requires : goal.add_segments-requires
add_segments-requires c = before_near c.args.segments.now c.args.from c.in-Some.next c.args.total.now c.in-Some.sum.now c.in-Some.ensures c.requires.counted

pub add-requires-clause-shapes : goal.add-requires-clause-shapes
add-requires-clause-shapes c =
    far_shapes c.args.segments.now c.args.from c.in-Some.next c.args.total.now c.in-Some.sum.now c.in-Some.ensures c.requires.counted c.add_segments.new.total
    c.add_segments.ensures

pub add-requires-clause-sums : goal.add-requires-clause-sums
add-requires-clause-sums c =
    far_fits c.args.segments.now c.args.from c.in-Some.next c.args.total.now c.in-Some.sum.now c.in-Some.ensures c.requires.counted c.add_segments.new.total
    c.add_segments.ensures

pub returns-in-Some : goal.returns-in-Some
returns-in-Some c = λ known.
    far_added c.args.segments.now c.args.from c.in-Some.next c.args.total.now c.in-Some.sum.now c.in-Some.ensures known c.add_segments.new.total
    c.add_segments.ensures c.add.new.self c.add.ensures.added c.add.ensures.kept

pub returns-in-None : goal.returns-in-None
returns-in-None c = all_lent c.args.segments.now c.args.from c.args.total.now c.add_segments-in-None.new.total c.add_segments-in-None.ensures
