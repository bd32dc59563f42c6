use Rattle.std.proofs.Common.{◌≡◌, ◌+◌, ◌-◌, ◌*◌, ap, arith, drop, length, subst, sym, take, ◌∙◌}
use Rattle.bench_model.specs.Equal.{StandsFor}
use Rattle.bench_model.specs.Session.{state_after}
use Rattle.session_segments.specs.Counting.{meter_after}
use Rattle.session_segments.proofs.Counts.{counted_twice, counts_on}
use Rattle.session_store.proofs.Spans.{part_from, part_length, span_more, span_within, spans_more, state_more}
use Rattle.session_store.proofs.opening.push_spans.Goals as goal

pub returns-in_err-push_segment-clause-some : goal.returns-in_err-push_segment-clause-some
returns-in_err-push_segment-clause-some g c =
    let segment = c.loop-segment.segment in
    let span = c.args.span in
    let steps = c.args.steps.now in
    let part = take (segment * span + span - segment * span) (drop (segment * span) steps) in
    let within = span_within segment c.args.full span (length steps) (omega arith) c.requires.within in
    let so : length part ≡ span = ap length (part_from (segment * span) span steps) ∙ part_length segment span steps within in
    let few = span_within segment c.args.full span (c.args.full * span) (omega arith) (omega arith) in
    counts_on c.from_residual.result (segment * span) (length part) (c.args.full * span) c.args.meter.now c.loop-segment.meter c.push_segment.new.meter
    (omega (arith, so, few, span_more segment span)) c.loop-segment.invariant.meter c.in_err-push_segment.ensures.some

pub loop-segment-preserved : goal.loop-segment-preserved
loop-segment-preserved g c =
    let segment = c.loop-segment.segment in
    let span = c.args.span in
    let steps = c.args.steps.now in
    let part = take (segment * span + span - segment * span) (drop (segment * span) steps) in
    let is = part_from (segment * span) span steps in
    let within = span_within segment c.args.full span (length steps) (omega arith) c.requires.within in
    let so : length part ≡ span = ap length is ∙ part_length segment span steps within in
    record {
      spans = λ table stands. spans_more table span segment steps c.loop-segment.kernel part c.loop-segment.segments.items c.push_segment.new.segments.items is
          within (c.loop-segment.invariant.state table stands) c.in_ok-push_segment.ensures.segment (c.loop-segment.invariant.spans table stands);
      state = λ table stands. state_more table span segment steps c.push_segment.new.kernel part is
          (c.in_ok-push_segment.ensures.state (state_after table (take (segment * span) steps)) (c.loop-segment.invariant.state table stands));
      settings = c.in_ok-push_segment.ensures.settings ∙ c.loop-segment.invariant.settings;
      meter = c.in_ok-push_segment.ensures.meter ∙ ap (meter_after (length part)) c.loop-segment.invariant.meter ∙ counted_twice (segment * span) (length part)
          c.args.meter.now ∙ ap (λ n. meter_after n c.args.meter.now) (ap (λ n. segment * span + n) so ∙ sym (span_more segment span));
    }

pub returns-clause-state : goal.returns-clause-state
returns-clause-state g c = λ table stands.
    let last : c.loop-segment.segment ≡ c.args.full = omega arith in
    subst (λ n. StandsFor c.loop-segment.kernel (state_after table (take (n * c.args.span) c.args.steps.now))) last
    (c.loop-segment.invariant.state table stands)
