use Rattle.std.proofs.Common.{ap, ◌∙◌}
use Rattle.bench_model.specs.Meeting.{CheckpointedSession}
use Rattle.bench_model.specs.Session.{reply_at}
use Rattle.session_store.proofs.StoreReads.{lent_at, reply_read}
use Rattle.session_store.proofs.store.Store.reply.Goals as goal

pub returns : goal.returns
returns c =
    let inside = c.self.inside in
    let index = c.locate-index.result.0 in
    let segment = c.index-as_slice-index.result in
    let found = lent_at inside.segments c.as_slice.result.now index segment c.as_slice.ensures.segments c.locate-index.ensures.within c.index-as_slice-index.is
    in
    reply_read inside.header inside.span inside.segments c.self.invariant c.args.i index c.locate-index.result.1 segment c.locate-index.ensures.index found
    c.reply.result c.reply.ensures
    ∙ ap (λ (kept : CheckpointedSession). reply_at kept.session.header kept.session.steps c.args.i) c.self.view_is
