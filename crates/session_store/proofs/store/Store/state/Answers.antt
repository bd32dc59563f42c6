use Rattle.std.proofs.Common.{◌≤◌, length, ap, subst, sym, ◌∙◌, arith}
use Rattle.bench_types.specs.Step.{settings_of}
use Rattle.bench_model.specs.Equal.{StandsFor}
use Rattle.bench_model.specs.Meeting.{CheckpointedSession}
use Rattle.bench_model.specs.Session.{state_at}
use Rattle.session_segments.specs.Counting.{meter_after}
use Rattle.segment_laws.specs.Segments.{all_steps}
use Rattle.session_store.specs.Outcomes.{distance}
use Rattle.session_store.proofs.StoreReads.{lent_at}
use Rattle.session_store.proofs.StoreStates.{state_read, settings_read, within_read, distance_read}
use Rattle.session_store.proofs.store.Store.state.Goals as goal

pub kernel_after-requires : goal.kernel_after-requires
kernel_after-requires g c =
    let inside = c.self.inside in
    let found = lent_at inside.segments c.as_slice.result.now c.locate-index.result.0 c.index-as_slice-index.result c.as_slice.ensures.segments
    c.locate-index.ensures.within c.index-as_slice-index.is in
    let within : c.args.place ≤ length (all_steps inside.segments) = omega
    (arith, c.if-place-len.false, c.len.ensures.steps, ap (λ (kept : CheckpointedSession). length kept.session.steps) c.self.view_is) in
    within_read inside.header inside.span inside.segments c.self.invariant c.args.place c.locate-index.result.0 c.locate-index.result.1
    c.index-as_slice-index.result c.locate-index.ensures.index found within

pub returns-clause-stands : goal.returns-clause-stands
returns-clause-stands g c =
    let inside = c.self.inside in
    let found = lent_at inside.segments c.as_slice.result.now c.locate-index.result.0 c.index-as_slice-index.result c.as_slice.ensures.segments
    c.locate-index.ensures.within c.index-as_slice-index.is in
    subst (λ (kept : CheckpointedSession). StandsFor c.in_ok-kernel.kernel (state_at kept.session.header kept.session.steps c.args.place)) c.self.view_is
    (state_read inside.header inside.span inside.segments c.self.invariant c.args.place c.locate-index.result.0 c.locate-index.result.1
    c.index-as_slice-index.result c.locate-index.ensures.index found c.in_ok-kernel.kernel c.in_ok-kernel.ensures.stands)

pub returns-clause-settings : goal.returns-clause-settings
returns-clause-settings g c =
    let inside = c.self.inside in
    let found = lent_at inside.segments c.as_slice.result.now c.locate-index.result.0 c.index-as_slice-index.result c.as_slice.ensures.segments
    c.locate-index.ensures.within c.index-as_slice-index.is in
    c.in_ok-kernel.ensures.settings
    ∙ settings_read inside.header inside.span inside.segments c.self.invariant c.args.place c.locate-index.result.0 c.locate-index.result.1
    c.index-as_slice-index.result c.locate-index.ensures.index found
    ∙ ap (λ (kept : CheckpointedSession). settings_of kept.session.header) c.self.view_is

pub returns-clause-meter : goal.returns-clause-meter
returns-clause-meter g c =
    let inside = c.self.inside in
    let found = lent_at inside.segments c.as_slice.result.now c.locate-index.result.0 c.index-as_slice-index.result c.as_slice.ensures.segments
    c.locate-index.ensures.within c.index-as_slice-index.is in
    let within : c.args.place ≤ length (all_steps inside.segments) = omega
    (arith, c.if-place-len.false, c.len.ensures.steps, ap (λ (kept : CheckpointedSession). length kept.session.steps) c.self.view_is) in
    let far = distance_read inside.header inside.span inside.segments c.self.invariant c.args.place c.locate-index.result.0 c.locate-index.result.1
    c.index-as_slice-index.result c.locate-index.ensures.index found within in
    c.in_ok-kernel.ensures.meter ∙ ap (λ steps. meter_after steps c.args.meter.now)
    (sym far ∙ ap (λ (kept : CheckpointedSession). distance kept c.args.place) c.self.view_is)
