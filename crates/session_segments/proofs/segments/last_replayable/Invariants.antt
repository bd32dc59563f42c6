use Rattle.std.proofs.Common.{◌≡◌, ℕ, ◌-◌, ◌<◌, ◌≤◌, length, get_or}
use Rattle.std.specs.Prelude.{Some, slice_get}
use Rattle.session_segments.proofs.segments.last_replayable.Given as goal

abbrev pub decreases-loop-end : goal.decreases-loop-end
decreases-loop-end l = l.end - l.found

abbrev pub invariant-loop-end : goal.invariant-loop-end
invariant-loop-end l = record {
  replayable : l.found < length l.places;
  early : get_or l.places l.found 0 ≤ l.place;
  within : l.end ≤ length l.places;
  order : l.found < l.end;
  late : (next : ℕ) → slice_get l.places l.end ≡ Some next → l.place < next;
}
