use Rattle.std.proofs.Common.{sym, subst}
use Rattle.bench_model.specs.Meeting.{CheckpointedSession}
use Rattle.session_store.specs.Sums.{AreSumsOf}
use Rattle.session_store.proofs.StoreSums.{has_sums, some_then}
use Rattle.session_store.proofs.StoreTallies.{replay_of}
use Rattle.session_store.proofs.store.Store.try_accepted.Goals as goal

pub run_trial-requires-clause-sums : goal.run_trial-requires-clause-sums
run_trial-requires-clause-sums c =
    let inside = c.self.inside in
    some_then _ _ c.args.sums
    (λ sums are. has_sums inside.header inside.span inside.segments sums.now (replay_of inside.header inside.span inside.segments c.self.invariant)
    (subst (λ (kept : CheckpointedSession). AreSumsOf kept sums.now) (sym c.self.view_is) are))
    c.requires.sums
