use Rattle.std.proofs.Common.{refl, sym, ap, ◌∙◌}
use Rattle.bench_model.specs.Meeting.{CheckpointedSession}
use Rattle.bench_model.specs.Tally.{tallies}
use Rattle.session_store.proofs.StoreReads.{lent_at}
use Rattle.session_store.proofs.StoreTallies.{before_lent, counted_all, none_tallied, replay_of}
use Rattle.session_store.proofs.store.Store.tallies.Goals as goal

pub add_segments-requires : goal.add_segments-requires
add_segments-requires c =
    let inside = c.self.inside in
    let found = lent_at inside.segments c.as_slice-segments.result.now 0 c.index-segments-0.result c.as_slice-segments.ensures.segments
    c.as_slice-segments.ensures.some c.index-segments-0.is in
    let replay = replay_of inside.header inside.span inside.segments c.self.invariant in
    before_lent inside.header inside.segments replay c.as_slice-segments.result.now c.in_ok-total.total c.as_slice-segments.ensures.segments
    (none_tallied inside.header inside.segments replay c.index-segments-0.result c.index-segments-0.result.kernel c.in_ok-total.total (sym found) refl
    c.in_ok-total.ensures.tallies c.in_ok-total.ensures.shape)

pub returns : goal.returns
returns c =
    let inside = c.self.inside in
    let found = lent_at inside.segments c.as_slice-segments.result.now 0 c.index-segments-0.result c.as_slice-segments.ensures.segments
    c.as_slice-segments.ensures.some c.index-segments-0.is in
    let replay = replay_of inside.header inside.span inside.segments c.self.invariant in
    counted_all inside.header inside.segments replay c.as_slice-segments.result.now c.in_ok-total.total c.add_segments.new.total
    c.as_slice-segments.ensures.segments
    (none_tallied inside.header inside.segments replay c.index-segments-0.result c.index-segments-0.result.kernel c.in_ok-total.total (sym found) refl
    c.in_ok-total.ensures.tallies c.in_ok-total.ensures.shape) c.add_segments.ensures
    ∙ ap (λ (kept : CheckpointedSession). tallies kept.session.header kept.session.steps) c.self.view_is
