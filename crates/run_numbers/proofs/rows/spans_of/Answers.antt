use Rattle.std.proofs.Common.{◌≡◌, ◌+◌, ◌<◌, ap, subst, sym, ◌∙◌, length, arith}
use Rattle.std.specs.Prelude.{slice_set}
use Rattle.std.proofs.lemmas.List.{get_or_default}
use Rattle.run_numbers.specs.declared.rows.Span.{Span}
use Rattle.run_numbers.specs.declared.subject.Subject.TheVariants.{NotMade}
use Rattle.run_numbers.specs.Progress.{subject_in}
use Rattle.run_numbers.specs.Rows.{row_of, span_in, widened, AreSpansTo}
use Rattle.run_numbers.proofs.Spans.{spans_more, spans_none}
use Rattle.run_numbers.proofs.rows.spans_of.Goals as goal

pub loop-place-init : goal.loop-place-init
loop-place-init c = spans_none c.args.tasks c.args.subjects.now c.in_ok-spans.spans.items (c.in_ok-spans.ensures.items_if_clones_equal (λ y e. e))

pub loop-place-preserved : goal.loop-place-preserved
loop-place-preserved c =
    let tasks = c.args.tasks in
    let subjects = c.args.subjects.now in
    let place = c.loop-place.place in
    let spans = c.loop-place.spans.items in
    let are = c.loop-place.invariant in
    let own = c.index.result.now in
    let row_is : c.row_of-row.result ≡ row_of tasks (subject_in subjects place) =
    c.row_of-row.ensures.value ∙ ap (row_of tasks) (get_or_default subjects place _ (NotMade 0) c.loop-place-test.true) in
    let within : c.row_of-row.result < length spans = omega (arith, c.row_of-row.ensures.low, are.size) in
    let read : own ≡ span_in spans (row_of tasks (subject_in subjects place)) =
    c.index.ensures ∙ get_or_default spans c.row_of-row.result _ (record { first = 0; end = 0 }) within ∙ ap (span_in spans) row_is in
    subst (λ (span : Span). AreSpansTo tasks subjects (place + 1) (slice_set spans c.row_of-row.result span)) (sym c.widened.ensures)
    (subst (λ row. AreSpansTo tasks subjects (place + 1) (slice_set spans row (widened place own))) (sym row_is)
    (spans_more tasks subjects place spans are own read))
