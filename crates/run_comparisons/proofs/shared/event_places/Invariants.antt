use Rattle.std.proofs.Common.{◌≡◌, ◌++◌, drop}
use Rattle.run_comparisons.specs.Shared.{event_places, is_event}
use Rattle.run_comparisons.proofs.shared.event_places.Given as goal

abbrev pub invariant-loop-place : goal.invariant-loop-place
invariant-loop-place l = l.places.items ++ event_places (is_event l.kind) l.place (drop l.place l.run) ≡ event_places (is_event l.kind) 0 l.run
