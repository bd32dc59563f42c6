use Rattle.std.proofs.Common.{◌≡◌, ◌+◌, List, length, ap, sym, ◌∙◌, arith}
use Rattle.bench_types.specs.declared.step.Step.{Step}
use Rattle.bench_types.specs.Limits.{max_steps}
use Rattle.bench_model.specs.Meeting.{CheckpointedSession}
use Rattle.segment_laws.specs.Segments.{all_steps}
use Rattle.session_store.proofs.StoreReads.{lent_at, steps_end}
use Rattle.session_store.proofs.store.Store.len.Given as given
use Rattle.session_store.proofs.store.Store.len.Goals as goal

counted : (g : given.Over) (c : goal.After-steps g) → c.locate-index.result.1 + length c.steps.result.now ≡ length (all_steps c.self.inside.segments)
counted g c =
    let inside = c.self.inside in
    let index = c.locate-index.result.0 in
    let from = c.locate-index.result.1 in
    let segment = c.index-as_slice-index.result in
    let found = lent_at inside.segments c.as_slice.result.now index segment c.as_slice.ensures.segments c.locate-index.ensures.within c.index-as_slice-index.is
    in
    ap (λ (steps : List Step). from + length steps) c.steps.ensures.steps
    ∙ sym (steps_end inside.header inside.span inside.segments c.self.invariant max_steps index from segment c.locate-index.ensures.index found (omega arith))

pub returns-clause-steps : goal.returns-clause-steps
returns-clause-steps g c = counted g c ∙ ap (λ (kept : CheckpointedSession). length kept.session.steps) c.self.view_is

pub returns-clause-few : goal.returns-clause-few
returns-clause-few g c =
    let same = counted g c in
    omega (arith, same, c.self.invariant.few_steps)
