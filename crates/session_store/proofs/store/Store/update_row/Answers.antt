use Rattle.std.proofs.Common.{◌≡◌, ◌<◌, Some, suc, length, ap, subst, sym, arith}
use Rattle.bench_model.specs.Meeting.{CheckpointedSession}
use Rattle.bench_model.specs.Session.{running_at, state_at}
use Rattle.segment_laws.specs.Segments.{all_steps}
use Rattle.session_store.proofs.StepRows.{early_own, row_cores, row_here, row_own}
use Rattle.session_store.proofs.StoreReads.{lent_at, read_at}
use Rattle.session_store.proofs.store.Store.update_row.Goals as goal

pub update_row-requires-clause-within : goal.update_row-requires-clause-within
update_row-requires-clause-within c =
    let inside = c.self.inside in
    let index = c.locate-index.result.0 in
    let segment = c.index-as_slice-index.result in
    let found = lent_at inside.segments c.as_slice.result.now index segment c.as_slice.ensures.segments c.locate-index.ensures.within c.index-as_slice-index.is
    in
    let early : c.args.i < length (all_steps inside.segments) = omega (
      arith,
      c.requires.within,
      ap (λ (kept : CheckpointedSession). length kept.session.steps)
          c.self.view_is,
    ) in
    early_own inside.header inside.span inside.segments c.self.invariant c.args.i index c.locate-index.result.1 segment c.locate-index.ensures.index found early

pub update_row-requires-clause-cores : goal.update_row-requires-clause-cores
update_row-requires-clause-cores c =
    let inside = c.self.inside in
    let index = c.locate-index.result.0 in
    let segment = c.index-as_slice-index.result in
    let found = lent_at inside.segments c.as_slice.result.now index segment c.as_slice.ensures.segments c.locate-index.ensures.within c.index-as_slice-index.is
    in
    let runs = subst (λ (kept : CheckpointedSession). running_at kept.session.header kept.session.steps c.args.i ≡ Some c.args.row.now) (sym c.self.view_is)
    c.requires.row in
    row_cores inside.header inside.span inside.segments c.self.invariant c.args.i index c.locate-index.result.1 segment c.locate-index.ensures.index found
    c.args.row.now runs

pub returns-clause-row : goal.returns-clause-row
returns-clause-row c =
    let inside = c.self.inside in
    let index = c.locate-index.result.0 in
    let from = c.locate-index.result.1 in
    let segment = c.index-as_slice-index.result in
    let found = lent_at inside.segments c.as_slice.result.now index segment c.as_slice.ensures.segments c.locate-index.ensures.within c.index-as_slice-index.is
    in
    let early : c.args.i < length (all_steps inside.segments) = omega (
      arith,
      c.requires.within,
      ap (λ (kept : CheckpointedSession). length kept.session.steps)
          c.self.view_is,
    ) in
    let runs = subst (λ (kept : CheckpointedSession). running_at kept.session.header kept.session.steps c.args.i ≡ Some c.args.row.now) (sym c.self.view_is)
    c.requires.row in
    let reads = read_at inside.header inside.span inside.segments c.self.invariant c.args.i index from segment c.locate-index.ensures.index found in
    let here = row_here inside.header inside.span inside.segments c.self.invariant c.args.i index from segment c.locate-index.ensures.index found c.args.row.now
    runs in
    let next = c.update_row.ensures.row (state_at inside.header (all_steps inside.segments) from) reads.stands here in
    subst (λ (kept : CheckpointedSession). running_at kept.session.header kept.session.steps (suc c.args.i) ≡ Some c.update_row.new.row) c.self.view_is
    (row_own inside.header inside.span inside.segments c.self.invariant c.args.i index from segment c.locate-index.ensures.index found c.update_row.new.row
    early next)
