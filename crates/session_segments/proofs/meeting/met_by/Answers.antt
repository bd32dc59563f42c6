use Rattle.std.proofs.Common.{◌≡◌, ◌<◌, ◌^◌, inl, inr, false, true, Bool, not, drop, refl, sym, subst, ◌∙◌}
use Rattle.std.specs.Prelude.{MatchOption}
use Rattle.bench_model.specs.Equal.{StandsFor}
use Rattle.bench_model.specs.Shifted.{is_met, some_delays_until}
use Rattle.segment_laws.specs.Segments.{SegmentView, all_steps}
use Rattle.meeting_laws.specs.RunLaws.{MeetBy}
use Rattle.session_segments.proofs.Unmet.{read_there, unmet_apart, unmet_read}
use Rattle.session_segments.proofs.meeting.met_by.Goals as goal

-- what a test says of its value, said the other way round
negated : (x : Bool) → true ≡ not x → x ≡ false
negated false is = refl
negated true is = absurd (cc is)

kept : (x : Bool) → false ≡ not x → x ≡ true
kept true is = refl
kept false is = absurd (cc is)

pub returns-in_err-by-clause-met : goal.returns-in_err-by-clause-met
returns-in_err-by-clause-met g c = λ segment a b found one other.
    let steps = all_steps (drop c.args.index c.args.segments.now) in
    let same = read_there c.args.segments.now c.args.index segment c.index-segments-index.result found c.index-segments-index.is in
    let apart = c.in_err-by.ensures.ticks a b (subst (λ (s : SegmentView). StandsFor s.kernel a) same one) other in
    subst (λ found. MatchOption found (is_met a b steps ≡ false) (λ by. MeetBy by a b steps)) (sym c.from_residual.ensures) (unmet_apart a b steps apart)

pub returns-then-by-eq0-clause-met : goal.returns-then-by-eq0-clause-met
returns-then-by-eq0-clause-met g c = λ segment a b found one other.
    let same = read_there c.args.segments.now c.args.index segment c.index-segments-index.result found c.index-segments-index.is in
    record {
      later = c.in_ok-by.ensures.ticks a b (subst (λ (s : SegmentView). StandsFor s.kernel a) same one) other;
      unread = inl c.if-by-eq0.true;
    }

pub returns-then-is_unread-clause-met : goal.returns-then-is_unread-clause-met
returns-then-is_unread-clause-met g c = λ segment a b found one other.
    let same = read_there c.args.segments.now c.args.index segment c.index-segments-index.result found c.index-segments-index.is in
    record {
      later = c.in_ok-by.ensures.ticks a b (subst (λ (s : SegmentView). StandsFor s.kernel a) same one) other;
      unread = inr (negated (some_delays_until (all_steps (drop c.args.index c.args.segments.now))) c.if-is_unread.ensures.unread);
    }

pub returns-else-is_unread-clause-met : goal.returns-else-is_unread-clause-met
returns-else-is_unread-clause-met g c = λ segment a b found one other.
    let steps = all_steps (drop c.args.index c.args.segments.now) in
    let same = read_there c.args.segments.now c.args.index segment c.index-segments-index.result found c.index-segments-index.is in
    unmet_read c.in_ok-by.by a b steps c.in_ok-by.ensures.word c.if-by-eq0.false
    (c.in_ok-by.ensures.ticks a b (subst (λ (s : SegmentView). StandsFor s.kernel a) same one) other)
    (kept (some_delays_until steps) c.if-is_unread.ensures.unread)
