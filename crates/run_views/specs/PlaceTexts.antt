-- What a trace tells of each place that is shown.
use Rattle.std.specs.Prelude.{ℕ, suc, List, [], ◌∷◌, ◌++◌, filter, length, map, Option, Some, None, slice_get, if◌then◌else◌}
use Rattle.bench_types.specs.declared.header.Header.{Header}
use Rattle.bench_types.specs.declared.step.Step.{Step}
use Rattle.list_orders.specs.Search.{numbers}
use Rattle.bench_model.specs.Session.{state_at, step_of}
use Rattle.bench_model.specs.Table.{Table}
use Rattle.run_views.specs.declared.interest.Interest.{Interest}
use Rattle.run_views.specs.declared.places.Places.{Places}
use Rattle.run_views.specs.Changes.{changes}
use Rattle.run_views.specs.Looks.{look_of}
use Rattle.run_views.specs.Trace.{place_line, shows, step_part}

-- names nobody: each step is told
abbrev pub everything : Interest
everything = record { tasks = []; cores = [] }

-- what is told of a place in a state at which the step is made: its line, and the lines of the
-- step, where the next place is shown too
abbrev pub text_at : Places → Header → ℕ → Table → Step → List ℕ
text_at places header place state step =
    let outcome = step_of step state in
    place_line header place (look_of state)
    ++ step_part places header place step outcome.0 (changes (look_of state) (look_of outcome.1))

-- the lines of the step that is made there, where the next place is shown too; none at the end
abbrev pub lines_of_step : Places → Header → ℕ → Table → Option Step → List ℕ
lines_of_step places header place state None = []
lines_of_step places header place state (Some step) =
    let outcome = step_of step state in
    step_part places header place step outcome.0 (changes (look_of state) (look_of outcome.1))

-- what is told of a place: its line, and the lines of the step that is made there
unfoldable pub place_text : Places → Header → List Step → ℕ → List ℕ
place_text places header steps place =
    let state = state_at header steps place in
    place_line header place (look_of state)
    ++ lines_of_step places header place state (slice_get steps place)

-- the places that are shown of a session of so many steps
abbrev pub places_shown : Places → ℕ → List ℕ
places_shown places steps = filter (shows places) (numbers (suc steps))

-- what is told of each place that is shown
unfoldable pub place_texts : Places → Header → List Step → List (List ℕ)
place_texts places header steps =
    map (place_text places header steps) (places_shown places (length steps))

-- a text, where its place is shown
abbrev pub shown_text : Places → ℕ → List ℕ → List (List ℕ)
shown_text places place text = if shows places place then text ∷ [] else []
