-- The time so far.
use Rattle.std.specs.Prelude.{ℕ, ◌+◌, ◌==◌, List, ◌∷◌, [], ◌++◌, if◌then◌else◌}
use Rattle.bench_types.specs.declared.step.Step.{Step}
use Rattle.bench_model.specs.Tally.{is_tick}

pub record Past : Type 0 where
  -- the units of time so far
  pub elapsed : ℕ
  -- the places of the steps that took some
  pub places : List ℕ

abbrev pub past : ℕ → List ℕ → Past
past elapsed places = record { elapsed = elapsed; places = places }

-- the place is one more of the places, where time passes there
abbrev pub places_after : ℕ → ℕ → List ℕ → List ℕ
places_after time place places = if time == 0 then places else places ++ place ∷ []

-- after a step that takes this time, at the place
abbrev pub past_after : ℕ → ℕ → Past → Past
past_after time place before =
    past (before.elapsed + time) (places_after time place before.places)

-- the time after the step is one more of the times after ticks, where it is one
abbrev pub ticks_after : Step → ℕ → List ℕ → List ℕ
ticks_after step time ticks = if is_tick step then ticks ++ time ∷ [] else ticks
