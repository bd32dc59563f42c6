use Rattle.std.proofs.Common.{◌+◌, length, ap, ◌∙◌}
use Rattle.segment_laws.specs.Segments.{all_steps}
use Rattle.session_segments.specs.Counting.{meter_after}
use Rattle.session_segments.proofs.Counts.{counted_twice, counts_on, counts_some}
use Rattle.session_segments.proofs.Traces.{traced_more, traced_within}
use Rattle.session_segments.proofs.segments.all_traced.Goals as goal

pub returns-in_err-one-clause-some : goal.returns-in_err-one-clause-some
returns-in_err-one-clause-some c =
    let so_far = c.loop-segment.invariant.2 in
    let segments = c.args.segments.items in
    let yielded = c.loop-segment.yielded in
    let segment = c.in-Some.segment in
    let within = traced_within segments yielded c.loop-segment.segment-iterator.rest.items c.next.new.self.rest.items c.loop-segment.made.items segment
    c.args.meter.now c.loop-segment.meter c.in-Some.ensures.steps.0 so_far in
    counts_on c.from_residual-in_err-one.result (length (all_steps yielded)) (length segment.steps) (length (all_steps segments)) c.args.meter.now
    c.loop-segment.meter c.with_results.new.meter within so_far.counted c.in_err-one.ensures.some

pub loop-segment-preserved : goal.loop-segment-preserved
loop-segment-preserved c = (
  tt,
  tt,
  traced_more c.args.segments.items c.loop-segment.yielded c.loop-segment.segment-iterator.rest.items c.next.new.self.rest.items c.loop-segment.made.items
      c.push.new.self.items c.in-Some.segment c.in_ok-one.one c.args.meter.now c.loop-segment.meter c.with_results.new.meter
      c.in-Some.ensures.steps.0 c.in_ok-one.ensures.segment c.in_ok-push.ensures.items c.in_ok-one.ensures.meter c.loop-segment.invariant.2,
)

pub returns-in_err-push-clause-some : goal.returns-in_err-push-clause-some
returns-in_err-push-clause-some c =
    let so_far = c.loop-segment.invariant.2 in
    let segments = c.args.segments.items in
    let yielded = c.loop-segment.yielded in
    let segment = c.in-Some.segment in
    let within = traced_within segments yielded c.loop-segment.segment-iterator.rest.items c.next.new.self.rest.items c.loop-segment.made.items segment
    c.args.meter.now c.loop-segment.meter c.in-Some.ensures.steps.0 so_far in
    counts_some c.from_residual-in_err-push.result (length (all_steps yielded) + length segment.steps) (length (all_steps segments)) c.args.meter.now
    c.with_results.new.meter within
    (c.in_ok-one.ensures.meter ∙ ap (meter_after (length segment.steps)) so_far.counted ∙ counted_twice (length (all_steps yielded)) (length segment.steps)
    c.args.meter.now)
