use Rattle.std.proofs.Common.{◌≡◌, ◌-◌, ◌+◌, ◌<◌, ◌≤◌, suc, false, true, ℕ, length, drop, slice_index_or, refl, sym, ap, subst, ◌∙◌, arith}
use Rattle.std.specs.Prelude.{Some, slice_get}
use Rattle.std.proofs.lemmas.List.{drop_all}
use Rattle.std.proofs.lemmas.Option.{slice_get-get_or}
use Rattle.bench_model.specs.Shifted.{some_delays_until}
use Rattle.segment_laws.specs.Segments.{SegmentView, all_steps}
use Rattle.session_segments.proofs.Unread.{unread_from, unread_more}
use Rattle.session_segments.proofs.meeting.unread_from.Goals as goal

pub loop-from-init : goal.loop-from-init
loop-from-init g c = record {
  within = omega arith;
  unread = ap (λ segments. some_delays_until (all_steps segments)) (drop_all (length c.args.segments.now) c.args.segments.now (omega arith));
}

pub offset_bounds-segments-from : goal.offset_bounds-segments-from
offset_bounds-segments-from g c = omega (arith, c.loop-from.invariant.within)

pub bounds-segments-from : goal.bounds-segments-from
bounds-segments-from g c = omega (arith, c.loop-from.invariant.within, c.loop-from-test.true)

pub loop-from-preserved : goal.loop-from-preserved
loop-from-preserved g c =
    let segments = c.args.segments.now in
    let k : ℕ = c.loop-from.from - 1 in
    let next : c.loop-from.from ≡ suc k = omega (arith, c.loop-from-test.true) in
    let found = slice_get-get_or segments k c.index-segments-from.result (omega (arith, c.loop-from.invariant.within, c.loop-from-test.true)) in
    let segment = slice_index_or segments k c.index-segments-from.result in
    let own : some_delays_until segment.steps ≡ false = ap (λ (s : SegmentView). some_delays_until s.steps) (sym c.index-segments-from.is) ∙ sym
    c.delays_until.ensures ∙ c.if-not-delays_until.true in
    record {
      within = omega (arith, c.loop-from.invariant.within);
      unread = unread_more segments k segment found own (subst (λ n. some_delays_until (all_steps (drop n segments)) ≡ false) next
          c.loop-from.invariant.unread);
    }

pub returns-else-not-delays_until : goal.returns-else-not-delays_until
returns-else-not-delays_until g c =
    let segments = c.args.segments.now in
    let k : ℕ = c.loop-from.from - 1 in
    let next : c.loop-from.from ≡ suc k = omega (arith, c.loop-from-test.true) in
    let found = slice_get-get_or segments k c.index-segments-from.result (omega (arith, c.loop-from.invariant.within, c.loop-from-test.true)) in
    let segment = slice_index_or segments k c.index-segments-from.result in
    let own : some_delays_until segment.steps ≡ true = ap (λ (s : SegmentView). some_delays_until s.steps) (sym c.index-segments-from.is) ∙ sym
    c.delays_until.ensures ∙ c.if-not-delays_until.false in
    unread_from segments c.loop-from.from c.loop-from.invariant.unread
    (λ j is.
    let same : k ≡ j = omega (arith, is, next) in
    (segment, subst (λ n. slice_get segments n ≡ Some segment) same found, own))

pub returns-after-loop-from : goal.returns-after-loop-from
returns-after-loop-from g c =
    unread_from c.args.segments.now c.loop-from.from c.loop-from.invariant.unread
    (λ k is. absurd (omega (arith, is, c.loop-from-test.false)))
