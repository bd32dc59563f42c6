use Rattle.std.proofs.Common.{◌≡◌, ◌≤◌, ◌-◌, ◌*◌, ◌/◌, ap, arith, drop, length, take}
use Rattle.bench_types.specs.declared.kernel_data.Settings.{Settings}
use Rattle.bench_types.specs.Limits.{max_cores}
use Rattle.bench_types.proofs.Passes.{checked_header}
use Rattle.bench_model.specs.Session.{state_after}
use Rattle.bench_model.specs.Start.{start}
use Rattle.bench_model.specs.Meeting.{first_kept}
use Rattle.session_segments.proofs.Counts.{counts_on, counts_some}
use Rattle.session_store.proofs.Opened.{part_after, some_span, opened_count, opened_meter, opened_steps, opened_segments, on_ok, if_segments}
use Rattle.session_store.proofs.opening.opened_from.Goals as goal

pub push_spans-requires-clause-few : goal.push_spans-requires-clause-few
push_spans-requires-clause-few g c =
    let few : c.args.header.now.config.cores ≤ max_cores = (checked_header c.args.header.now c.requires.session.header.passes).few_cores in
    omega (arith, few, ap (λ (settings : Settings). settings.cores) c.requires.settings)

pub push_segment-requires-clause-few : goal.push_segment-requires-clause-few
push_segment-requires-clause-few g c =
    let few : c.args.header.now.config.cores ≤ max_cores = (checked_header c.args.header.now c.requires.session.header.passes).few_cores in
    omega (
      arith,
      few,
      ap (λ (settings : Settings). settings.cores) c.requires.settings,
      ap (λ (settings : Settings). settings.cores)
          c.in_ok-push_spans.ensures.settings,
    )

pub push_segment-requires-clause-stands : goal.push_segment-requires-clause-stands
push_segment-requires-clause-stands g c =
    let start_table = start c.args.header.now in (
      state_after start_table (take (c.saturating_sub.result / c.args.span * c.args.span) c.args.steps.now),
      c.in_ok-push_spans.ensures.state start_table
          c.requires.stands,
    )

pub returns-in_err-push_segment-clause-some : goal.returns-in_err-push_segment-clause-some
returns-in_err-push_segment-clause-some g c =
    let steps = c.args.steps.now in
    let span = c.args.span in
    let full = c.saturating_sub.result / span in
    let part = take (length steps - full * span) (drop (full * span) steps) in
    let cut : full ≡ (length steps - 1) / span = ap (λ n. n / span) (omega (arith, c.saturating_sub.ensures)) in
    let whole = opened_count steps span full part (some_span span c.requires.span) cut (part_after (full * span) steps) in
    counts_on c.from_residual-in_err-push_segment.result (full * span) (length part) (length steps) c.args.meter.now c.push_spans.new.meter
    c.push_segment.new.meter (omega (arith, whole)) c.in_ok-push_spans.ensures.meter c.in_err-push_segment.ensures.some

pub new-requires-clause-few : goal.new-requires-clause-few
new-requires-clause-few g c =
    let steps = c.args.steps.now in
    let span = c.args.span in
    let full = c.saturating_sub.result / span in
    let part = take (length steps - full * span) (drop (full * span) steps) in
    let cut : full ≡ (length steps - 1) / span = ap (λ n. n / span) (omega (arith, c.saturating_sub.ensures)) in
    let from = start c.args.header.now in
    let stands = c.requires.stands in
    let all = opened_steps c.args.header.now steps span full c.push_spans.new.kernel part c.push_spans.new.segments.items c.push_segment.new.segments.items
    (some_span span c.requires.span) cut (part_after (full * span) steps) (c.in_ok-push_spans.ensures.state from stands)
    c.in_ok-push_segment.ensures.segment (c.in_ok-push_spans.ensures.spans from stands) in
    omega (arith, ap length all, c.requires.few_steps)

pub returns-clause-segments : goal.returns-clause-segments
returns-clause-segments g c =
    let steps = c.args.steps.now in
    let span = c.args.span in
    let full = c.saturating_sub.result / span in
    let part = take (length steps - full * span) (drop (full * span) steps) in
    let cut : full ≡ (length steps - 1) / span = ap (λ n. n / span) (omega (arith, c.saturating_sub.ensures)) in
    let from = start c.args.header.now in
    let stands = c.requires.stands in
    let are = opened_segments c.args.header.now steps span full c.push_spans.new.kernel part c.push_spans.new.segments.items c.push_segment.new.segments.items
    (some_span span c.requires.span) cut (part_after (full * span) steps) (c.in_ok-push_spans.ensures.state from stands)
    c.in_ok-push_segment.ensures.segment (c.in_ok-push_spans.ensures.spans from stands) in
    if_segments c.new.result (first_kept span (record { header = c.args.header.now; steps = steps })) c.push_segment.new.segments.items are c.new.ensures

pub returns-clause-meter : goal.returns-clause-meter
returns-clause-meter g c =
    let steps = c.args.steps.now in
    let span = c.args.span in
    let full = c.saturating_sub.result / span in
    let part = take (length steps - full * span) (drop (full * span) steps) in
    let cut : full ≡ (length steps - 1) / span = ap (λ n. n / span) (omega (arith, c.saturating_sub.ensures)) in
    on_ok c.new.result (opened_meter steps span full part (some_span span c.requires.span) cut (part_after (full * span) steps) c.args.meter.now
    c.push_spans.new.meter c.push_segment.new.meter c.in_ok-push_spans.ensures.meter c.in_ok-push_segment.ensures.meter)

pub returns-clause-some : goal.returns-clause-some
returns-clause-some g c =
    let steps = c.args.steps.now in
    let span = c.args.span in
    let full = c.saturating_sub.result / span in
    let part = take (length steps - full * span) (drop (full * span) steps) in
    let cut : full ≡ (length steps - 1) / span = ap (λ n. n / span) (omega (arith, c.saturating_sub.ensures)) in
    counts_some c.new.result (length steps) (length steps) c.args.meter.now c.push_segment.new.meter (omega arith)
    (opened_meter steps span full part (some_span span c.requires.span) cut (part_after (full * span) steps) c.args.meter.now c.push_spans.new.meter
    c.push_segment.new.meter c.in_ok-push_spans.ensures.meter c.in_ok-push_segment.ensures.meter)
