use Rattle.std.proofs.Common.{ℕ, List, ap, ◌∙◌}
use Rattle.std.specs.Prelude.{option_and_then, slice_get}
use Rattle.bench_model.specs.Meeting.{CheckpointedSession}
use Rattle.bench_model.specs.Session.{running_at}
use Rattle.session_store.proofs.StoreReads.{lent_at, running_read}
use Rattle.session_store.proofs.store.Store.running.Goals as goal

pub returns : goal.returns
returns c =
    let inside = c.self.inside in
    let index = c.locate-index.result.0 in
    let segment = c.index-as_slice-index.result in
    let found = lent_at inside.segments c.as_slice.result.now index segment c.as_slice.ensures.segments c.locate-index.ensures.within c.index-as_slice-index.is
    in
    running_read inside.header inside.span inside.segments c.self.invariant c.args.place index c.locate-index.result.1 segment c.locate-index.ensures.index
    found c.running.result c.args.core c.running.ensures
    ∙ ap (λ (kept : CheckpointedSession). option_and_then (λ (row : List ℕ). slice_get row c.args.core)
    (running_at kept.session.header kept.session.steps c.args.place)) c.self.view_is
