use Rattle.std.proofs.Common.{◌≡◌, length, take}
use Rattle.segment_laws.specs.Segments.{all_steps}
use Rattle.session_store.proofs.edit.count_steps.Given as goal

abbrev pub invariant-loop-segment : goal.invariant-loop-segment
invariant-loop-segment g l = l.count ≡ length (all_steps (take l.segment-index l.segments))
