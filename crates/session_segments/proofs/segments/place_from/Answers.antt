use Rattle.std.proofs.Common.{◌+◌, ◌-◌, ◌<◌, ◌^◌, ℕ, length, take, drop, sym, ap, ◌∙◌, arith}
use Rattle.std.proofs.lemmas.List.{append-nil}
use Rattle.segment_laws.specs.Segments.{all_steps, lengths, starts}
use Rattle.session_segments.proofs.Places.{all_placed, front_count, front_end, place_fits, place_more}
use Rattle.session_segments.proofs.segments.place_from.Goals as goal

pub end_of-next-requires-clause-places : goal.end_of-next-requires-clause-places
end_of-next-requires-clause-places g c =
    let front = take c.args.from c.args.places.now.items in
    let kept = c.as_slice.ensures.value ∙ c.truncate.ensures.items in
    let size = front_count c.args.from front c.as_slice.result.now c.args.segments.now c.requires.within c.requires.placed kept in
    kept ∙ c.requires.placed ∙ ap (λ (n : ℕ). starts 0 (lengths (take n c.args.segments.now))) (sym size)

pub loop-segment-init : goal.loop-segment-init
loop-segment-init g c =
    let front = take c.args.from c.args.places.now.items in
    let kept = c.as_slice.ensures.value ∙ c.truncate.ensures.items in
    let size = front_count c.args.from front c.as_slice.result.now c.args.segments.now c.requires.within c.requires.placed kept in
    let end = c.end_of-next.ensures ∙ ap (λ (n : ℕ). length (all_steps (take n c.args.segments.now))) size in
    record {
      placed = record {
        places = c.truncate.ensures.items ∙ sym (append-nil front);
        next_is = omega (arith, end);
      };
      len = omega (arith, c.as_slice.ensures.len, size);
      room = c.truncate.ensures.capacity;
    }

pub overflow_add-next : goal.overflow_add-next
overflow_add-next g c =
    let segments = c.args.segments.now in
    let base = length (all_steps (take c.args.from segments)) in
    let rest = take (length segments - c.args.from) (drop c.args.from segments) in
    let few : base + length (all_steps rest) < 2 ^ 32 = omega (arith, front_end c.args.from segments, c.requires.few) in
    let fits = place_fits base c.loop-segment.next (take c.args.from c.args.places.now.items) c.loop-segment.places.items rest c.loop-segment.segment-index
    c.segment-item.result c.steps.result.now c.loop-segment-test.true c.segment-item.is c.steps.ensures.steps few c.loop-segment.invariant.placed in
    omega (arith, fits)

pub loop-segment-preserved : goal.loop-segment-preserved
loop-segment-preserved g c =
    let segments = c.args.segments.now in
    let base = length (all_steps (take c.args.from segments)) in
    let rest = take (length segments - c.args.from) (drop c.args.from segments) in
    record {
      placed = place_more base (take c.args.from c.args.places.now.items) c.loop-segment.places.items c.loop-segment.next rest c.loop-segment.segment-index
          c.segment-item.result c.steps.result.now c.push_reserved.new.self.items c.loop-segment-test.true c.segment-item.is c.steps.ensures.steps
          c.push_reserved.ensures.items c.loop-segment.invariant.placed;
      len = omega (arith, c.push_reserved.ensures.len, c.loop-segment.invariant.len);
      room = c.push_reserved.ensures.capacity ∙ c.loop-segment.invariant.room;
    }

pub returns : goal.returns
returns g c =
    all_placed c.args.from c.loop-segment.segment-index (take c.args.from c.args.places.now.items) c.loop-segment.places.items c.loop-segment.next
    c.args.segments.now c.requires.placed (omega (arith, c.loop-segment-test.false)) c.loop-segment.invariant.placed
