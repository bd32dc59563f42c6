use Rattle.std.proofs.Common.{List, sym, subst}
use Rattle.bench_model.specs.Meeting.{CheckpointedSession}
use Rattle.segment_laws.specs.Segments.{SegmentView}
use Rattle.session_store.specs.Sums.{AreSums, AreSumsOf}
use Rattle.session_store.specs.Trials.{IsReplay}
use Rattle.session_store.proofs.StoreSums.{sums_shown}
use Rattle.session_store.proofs.StoreTallies.{replay_of}
use Rattle.session_store.proofs.store.Store.sums.Goals as goal

pub returns : goal.returns
returns c =
    let inside = c.self.inside in
    let sums = c.in_ok-sums.sums in
    let there = c.as_slice.ensures.segments in
    let replay = replay_of inside.header inside.span inside.segments c.self.invariant in
    let are = c.in_ok-sums.ensures inside.header (subst (IsReplay inside.header) (sym there) replay) in
    subst (λ (kept : CheckpointedSession). AreSumsOf kept sums) c.self.view_is
    (sums_shown inside.header inside.span inside.segments sums (subst (λ (segments : List SegmentView). AreSums inside.header segments sums) there are))
