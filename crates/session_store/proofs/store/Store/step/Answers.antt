use Rattle.std.proofs.Common.{◌-◌, List, ap, ◌∙◌}
use Rattle.std.specs.Prelude.{slice_get}
use Rattle.bench_types.specs.declared.step.Step.{Step}
use Rattle.bench_model.specs.Meeting.{CheckpointedSession}
use Rattle.session_store.proofs.StoreReads.{lent_at, step_read}
use Rattle.session_store.proofs.store.Store.step.Goals as goal

pub returns : goal.returns
returns g c =
    let inside = c.self.inside in
    let index = c.locate-index.result.0 in
    let from = c.locate-index.result.1 in
    let segment = c.index-as_slice-index.result in
    let found = lent_at inside.segments c.as_slice.result.now index segment c.as_slice.ensures.segments c.locate-index.ensures.within c.index-as_slice-index.is
    in
    step_read inside.header inside.span inside.segments c.self.invariant c.args.i index from segment c.locate-index.ensures.index found c.step_at.result
    (c.step_at.ensures ∙ ap (λ (steps : List Step). slice_get steps (c.args.i - from)) c.steps.ensures.steps)
    ∙ ap (λ (kept : CheckpointedSession). slice_get kept.session.steps c.args.i) c.self.view_is
