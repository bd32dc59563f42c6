use Rattle.session_segments.proofs.Traces.{AreTraced}
use Rattle.session_segments.proofs.segments.all_traced.Given as goal

abbrev pub invariant-loop-segment : goal.invariant-loop-segment
invariant-loop-segment l =
    (goal.iterator-loop-segment).can_next l.segment-iterator
    × (goal.iterator-loop-segment).is_finite l.segment-iterator
    × AreTraced l.fn.segments.items l.yielded l.segment-iterator.rest.items l.made.items l.fn.meter l.meter
