use Rattle.std.proofs.Common.{◌≡◌, ◌<◌, ◌≤◌, ◌-◌, ⊎_elim, length, drop, slice_index_or, sym, ap, subst, ◌∙◌, arith}
use Rattle.std.specs.Prelude.{slice_get, slice_set, Some}
use Rattle.std.proofs.lemmas.Option.{slice_get-get_or}
use Rattle.segment_laws.specs.Segments.{SegmentView, later_segment}
use Rattle.session_segments.proofs.Shifting.{shift_ends, shift_found, shift_goes, shift_none, shift_starts}
use Rattle.session_segments.proofs.Unread.{unread_one}
use Rattle.session_segments.proofs.segments.shift_from.Goals as goal

pub loop-index-init : goal.loop-index-init
loop-index-init g c = shift_starts c.args.by c.args.segments.now c.args.from

pub shift-requires : goal.shift-requires
shift-requires g c =
    let old = c.args.segments.now in
    let segments = c.loop-index.segments in
    let index = c.loop-index.index in
    let early : index < length old = c.loop-index-test.true in
    let segment = slice_index_or segments index c.index-segments-index.result in
    let found = slice_get-get_or segments index c.index-segments-index.result (omega (arith, early, c.loop-index.auto.segments)) in
    let there = sym (ap (λ xs. slice_get xs index) c.loop-index.invariant ∙ shift_found c.args.by old c.args.from index c.loop-index.auto.index early) ∙ found
    in
    ⊎_elim (λ none. absurd (c.if-by-eq0.false none)) (λ unread. unread_one (drop c.args.from old) (index - c.args.from) segment there unread) c.requires.unread

pub loop-index-preserved : goal.loop-index-preserved
loop-index-preserved g c =
    let old = c.args.segments.now in
    let segments = c.loop-index.segments in
    let index = c.loop-index.index in
    let early : index < length old = c.loop-index-test.true in
    let segment = slice_index_or segments index c.index-segments-index.result in
    let found = slice_get-get_or segments index c.index-segments-index.result (omega (arith, early, c.loop-index.auto.segments)) in
    let there = sym (ap (λ xs. slice_get xs index) c.loop-index.invariant ∙ shift_found c.args.by old c.args.from index c.loop-index.auto.index early) ∙ found
    in
    ap (slice_set segments index) c.shift.ensures
    ∙ ap (λ xs. slice_set xs index (later_segment c.args.by segment)) c.loop-index.invariant
    ∙ shift_goes c.args.by old c.args.from index c.loop-index.auto.index early segment there

pub returns : goal.returns
returns g c =
    let all : length c.args.segments.now ≤ c.loop-index.index = omega (arith, c.loop-index-test.false) in
    c.loop-index.invariant ∙ shift_ends c.args.by c.args.segments.now c.args.from c.loop-index.index c.if-by-eq0.false c.requires.within all
