use Rattle.std.proofs.Common.{◌≡◌, ◌+◌, ◌-◌, length, take, drop}
use Rattle.std.specs.Vec.{vec_capacity, vec_len}
use Rattle.segment_laws.specs.Segments.{all_steps}
use Rattle.session_segments.proofs.Places.{HasPlaces}
use Rattle.session_segments.proofs.segments.place_from.Given as goal

abbrev pub invariant-loop-segment : goal.invariant-loop-segment
invariant-loop-segment g l = record {
  placed : HasPlaces (length (all_steps (take l.from l.segments))) (take l.from l.fn.places.items) l.places.items l.next
      (take (length l.segments - l.from) (drop l.from l.segments)) l.segment-index;
  len : vec_len l.places ≡ l.from + l.segment-index;
  room : vec_capacity l.places ≡ vec_capacity l.fn.places;
}
