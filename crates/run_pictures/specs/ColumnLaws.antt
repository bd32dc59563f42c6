-- At which column a picture of two runs begins.
use Rattle.std.specs.Prelude.{◌≡◌, ℕ, min, Some, None, slice_get}
use Rattle.run_views.specs.declared.places.Places.{Places}
use Rattle.run_pictures.specs.Drawn.{Drawn}
use Rattle.run_pictures.specs.Picture.{left_of}

pub record BeginsAtLesser (places : Places) (before after : Drawn) : Type 0 where
  -- where columns are given for the first place in both runs, at the lesser one
  pub both : (upper lower : ℕ)
      → slice_get before.columns places.from ≡ Some upper
      → slice_get after.columns places.from ≡ Some lower
      → left_of places before after ≡ min upper lower
  -- a run for which none is given, as one that lacks the place, counts by the place's own number
  pub before_lacks : (lower : ℕ)
      → slice_get before.columns places.from ≡ None
      → slice_get after.columns places.from ≡ Some lower
      → left_of places before after ≡ min places.from lower
  pub after_lacks : (upper : ℕ)
      → slice_get before.columns places.from ≡ Some upper
      → slice_get after.columns places.from ≡ None
      → left_of places before after ≡ min upper places.from
  pub both_lack :
      slice_get before.columns places.from ≡ None → slice_get after.columns places.from ≡ None
      → left_of places before after ≡ places.from

abbrev pub PicturesBeginAtLesser : Type 0
PicturesBeginAtLesser =
    (places : Places) (before after : Drawn) → BeginsAtLesser places before after
