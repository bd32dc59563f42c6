use Rattle.std.proofs.Common.{◌≡◌, List, length, map, sym, ap, subst, ◌∙◌, arith}
use Rattle.std.proofs.lemmas.List.{length-map, take-append-le, take_all}
use Rattle.segment_laws.specs.Segments.{SegmentView, steps_of, lengths, starts}
use Rattle.segment_laws.proofs.Starts.{all_length, total}
use Rattle.session_segments.specs.Kept.{ArePlaced}
use Rattle.session_segments.proofs.Replaying.{same_lengths, same_parts}
use Rattle.session_segments.specs.Meetings.{count_delaying}
use Rattle.session_segments.proofs.Delaying.{count_alike}
use Rattle.session_segments.proofs.segments.Segments.replay_from.Goals as goal

pub invariant_of-self : goal.invariant_of-self
invariant_of-self g c =
    let own = c.self.inside.segments.items in
    let n = c.self.inside.segments.len in
    let new = c.replay_each.new.segments in
    let old = c.deref_mut.result.now in
    let stands = c.requires.stands in
    let count = λ (segment : SegmentView). length segment.steps in
    let same : lengths new ≡ lengths old = same_lengths stands.0 c.args.first old new c.replay_each.result (c.replay_each.ensures.replayed stands.0 stands.1) in
    let size : length new ≡ length old = sym (length-map new count) ∙ ap length same ∙ length-map old count in
    let are : lengths new ≡ lengths own = same ∙ ap lengths c.deref_mut.ensures.value in
    let steps = all_length new ∙ ap total are ∙ sym (all_length own) in
    let counted = count_alike new own (same_parts stands.0 c.args.first old new c.replay_each.result (c.replay_each.ensures.replayed stands.0 stands.1) ∙ ap
    (map steps_of) c.deref_mut.ensures.value) in
    let all = take-append-le n new _ (omega (arith, size, c.deref_mut.ensures.len)) ∙ take_all n new (omega (arith, size, c.deref_mut.ensures.len)) in
    subst (λ (ss : List SegmentView). ArePlaced c.self.inside.places.items ss × (c.self.inside.delaying ≡ count_delaying ss)) (sym all) (
      record {
        begin = c.self.invariant.0.begin ∙ ap (starts 0) (sym are);
        some = omega (arith, size, c.self.invariant.0.some, ap length c.deref_mut.ensures.value);
        few_steps = omega (arith, steps, c.self.invariant.0.few_steps);
      },
      c.self.invariant.1 ∙ sym counted,
    )
