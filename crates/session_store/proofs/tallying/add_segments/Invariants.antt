use Rattle.std.proofs.Common.{◌++◌, take}
use Rattle.segment_laws.specs.Segments.{later_segments}
use Rattle.session_store.specs.Trials.{AreTallied, AreTalliedLater}
use Rattle.session_store.proofs.tallying.add_segments.Given as goal

abbrev pub invariant-loop-segment : goal.invariant-loop-segment
invariant-loop-segment l =
    (known : AreTalliedLater l.fn.total l.segments)
    → AreTallied known.before.header (known.before.earlier ++ take l.segment-index (later_segments known.by l.segments)) l.total
