use Rattle.std.proofs.Common.{◌≡◌, ◌+◌, ◌<◌, ◌≤◌, ℕ, length}
use Rattle.std.specs.Prelude.{slice_index_or}
use Rattle.kept_works.specs.Places.{place_from}
use Rattle.kept_works.proofs.places.places_from.Given as goal

abbrev pub invariant-loop-index : goal.invariant-loop-index
invariant-loop-index l = record {
  many : length l.places.items ≡ length l.own + 1;
  low : l.index ≤ length l.own;
  each : (k : ℕ) → l.index ≤ k → k < length l.places.items → slice_index_or l.places.items k l.end ≡ place_from l.own l.end k;
}

abbrev pub decreases-loop-index : goal.decreases-loop-index
decreases-loop-index l = l.index
