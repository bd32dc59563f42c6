use Rattle.std.proofs.Common.{◌≡◌, ◌++◌, ◌-◌, map, take, drop}
use Rattle.segment_laws.specs.Segments.{later_segment}
use Rattle.session_segments.proofs.segments.shift_from.Given as goal

abbrev pub invariant-loop-index : goal.invariant-loop-index
invariant-loop-index g l =
    l.segments ≡ take l.from l.fn.segments ++ map (later_segment l.by) (take (l.index - l.from) (drop l.from l.fn.segments)) ++ drop (l.index - l.from)
    (drop l.from l.fn.segments)
