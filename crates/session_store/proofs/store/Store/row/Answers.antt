use Rattle.std.proofs.Common.{◌≤◌, Some, length, ap, sym, ◌∙◌, arith}
use Rattle.bench_model.specs.Meeting.{CheckpointedSession}
use Rattle.bench_model.specs.Session.{running_at}
use Rattle.segment_laws.specs.Segments.{all_steps}
use Rattle.session_store.proofs.StoreReads.{lent_at, no_row, row_read}
use Rattle.session_store.proofs.StoreStates.{within_read}
use Rattle.session_store.proofs.store.Store.row.Goals as goal

pub returns-then-place-len-clause-row : goal.returns-then-place-len-clause-row
returns-then-place-len-clause-row c =
    let session = c.args.self.now.session in
    sym (no_row session.header session.steps c.args.place (omega (arith, c.if-place-len.true, c.len.ensures.steps)))

pub row-requires : goal.row-requires
row-requires c =
    let inside = c.self.inside in
    let found = lent_at inside.segments c.as_slice.result.now c.locate-index.result.0 c.index-as_slice-index.result c.as_slice.ensures.segments
    c.locate-index.ensures.within c.index-as_slice-index.is in
    let within : c.args.place ≤ length (all_steps inside.segments) = omega
    (arith, c.if-place-len.false, c.len.ensures.steps, ap (λ (kept : CheckpointedSession). length kept.session.steps) c.self.view_is) in
    within_read inside.header inside.span inside.segments c.self.invariant c.args.place c.locate-index.result.0 c.locate-index.result.1
    c.index-as_slice-index.result c.locate-index.ensures.index found within

pub returns-clause-row : goal.returns-clause-row
returns-clause-row c =
    let inside = c.self.inside in
    let found = lent_at inside.segments c.as_slice.result.now c.locate-index.result.0 c.index-as_slice-index.result c.as_slice.ensures.segments
    c.locate-index.ensures.within c.index-as_slice-index.is in
    row_read inside.header inside.span inside.segments c.self.invariant c.args.place c.locate-index.result.0 c.locate-index.result.1
    c.index-as_slice-index.result c.locate-index.ensures.index found (Some c.in_ok-row.row.items)
    (λ table stands. sym (c.in_ok-row.ensures table stands))
    ∙ ap (λ (kept : CheckpointedSession). running_at kept.session.header kept.session.steps c.args.place) c.self.view_is

pub returns-clause-past : goal.returns-clause-past
returns-clause-past c = λ past. absurd (omega (arith, past, c.if-place-len.false, c.len.ensures.steps))
