use Rattle.std.proofs.Common.{◌++◌, List, length, take, refl, subst, ap, sym, ◌∙◌, arith}
use Rattle.std.proofs.lemmas.List.{length-map}
use Rattle.std.proofs.lemmas.Option.{slice_get_read}
use Rattle.segment_laws.specs.Segments.{SegmentView, all_steps, later_segments}
use Rattle.session_store.specs.Trials.{AreTallied}
use Rattle.session_store.proofs.LaterTallies.{ends_later, later_fits, later_goes, later_shapes}
use Rattle.session_store.proofs.StoreTallies.{begins_tallied}
use Rattle.session_store.proofs.tallying.add_segments.Goals as goal

pub loop-segment-init : goal.loop-segment-init
loop-segment-init c = λ known. begins_tallied known.before.header known.before.earlier (later_segments known.by c.args.segments.now) c.args.total.now
    known.before.tallied

pub add-requires-clause-shapes : goal.add-requires-clause-shapes
add-requires-clause-shapes c =
    let known = c.requires in
    let segments = c.args.segments.now in
    let index = c.loop-segment.segment-index in
    let segment = c.segment-item.result in
    let found = slice_get_read segments (length segments) index segment refl c.loop-segment-test.true c.segment-item.is in
    later_shapes c.args.total.now segments known index segment found c.tallies.result.now c.tallies.ensures.stands c.tallies.ensures.tallies
    c.tallies.ensures.sizes c.loop-segment.total (c.loop-segment.invariant known)

pub add-requires-clause-sums : goal.add-requires-clause-sums
add-requires-clause-sums c =
    let known = c.requires in
    let segments = c.args.segments.now in
    let index = c.loop-segment.segment-index in
    let segment = c.segment-item.result in
    let found = slice_get_read segments (length segments) index segment refl c.loop-segment-test.true c.segment-item.is in
    later_fits c.args.total.now segments known index segment found c.tallies.result.now c.tallies.ensures.stands c.tallies.ensures.tallies
    c.tallies.ensures.sizes c.loop-segment.total (c.loop-segment.invariant known)

pub loop-segment-preserved : goal.loop-segment-preserved
loop-segment-preserved c =
    let segments = c.args.segments.now in
    let index = c.loop-segment.segment-index in
    let segment = c.segment-item.result in
    let found = slice_get_read segments (length segments) index segment refl c.loop-segment-test.true c.segment-item.is in
    λ known. later_goes c.args.total.now segments known index segment found c.tallies.result.now c.tallies.ensures.stands c.tallies.ensures.tallies
    c.tallies.ensures.sizes c.loop-segment.total (c.loop-segment.invariant known) c.add.new.self c.add.ensures.added c.add.ensures.kept

pub returns : goal.returns
returns c = λ known. ends_later c.args.total.now c.args.segments.now known c.loop-segment.segment-index c.loop-segment.total c.loop-segment-test.false
    (c.loop-segment.invariant known)
