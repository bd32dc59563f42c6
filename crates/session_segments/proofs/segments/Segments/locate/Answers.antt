use Rattle.std.proofs.Common.{List, ℕ, length, ap, ◌∙◌, arith}
use Rattle.std.specs.Prelude.{slice_get}
use Rattle.segment_laws.specs.Segments.{SegmentView}
use Rattle.session_segments.proofs.Places.{first_place, places_count}
use Rattle.session_segments.proofs.segments.Segments.locate.Goals as goal

pub last_replayable-index-requires : goal.last_replayable-index-requires
last_replayable-index-requires g c = ap (λ (places : List ℕ). slice_get places 0) (c.as_slice.ensures.value ∙ c.self.invariant.0.begin) ∙ first_place 0
    c.self.inside.segments.items c.self.invariant.0.some

pub returns-clause-within : goal.returns-clause-within
returns-clause-within g c =
    omega (
      arith,
      c.last_replayable-index.ensures.within,
      ap (λ (places : List ℕ). length places) (c.as_slice.ensures.value ∙ c.self.invariant.0.begin),
      places_count 0 c.self.inside.segments.items,
      ap (λ (segments : List SegmentView). length segments) c.self.view_is,
    )
