use Rattle.std.proofs.Common.{◌≡◌, Ok, ap, subst, sym, ◌∙◌, rules}
use Rattle.bench_types.specs.Session.{IsSession}
use Rattle.bench_model.specs.Meeting.{first_kept}
use Rattle.segment_laws.specs.Segments.{AreSegments}
use Rattle.session_store.specs.Opening.{open_check}
use Rattle.session_store.proofs.Openings.{opens, opened_kept}
use Rattle.session_store.proofs.store.Store.open.Goals as goal

pub invariant_of-result : goal.invariant_of-result
invariant_of-result g c =
    let header = c.args.header in
    let span = c.args.span in
    let passes : open_check header c.as_slice.result.now span ≡ Ok tt = sym c.check_opening.ensures.value ∙ c.in_default.is in
    let session : IsSession (record { header = header; steps = c.as_slice.result.now }) = search rules in
    opened_kept header c.args.steps.items span c.in-Ok.segments (subst (λ steps. IsSession (record { header = header; steps = steps })) c.as_slice.ensures.value
    session)
    (opens header c.args.steps.items span (ap (λ steps. open_check header steps span) (sym c.as_slice.ensures.value) ∙ passes))
    (subst (λ steps. AreSegments (first_kept span (record { header = header; steps = steps })) c.in-Ok.segments) c.as_slice-2.ensures.value
    c.in-Ok.ensures.segments)
