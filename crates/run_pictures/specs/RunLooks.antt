-- What is kept of a run for a picture of it.
use Rattle.std.specs.Prelude.{◌≡◌, ℕ, suc, List, [], ◌∷◌, ◌++◌, filter, length, map, if◌then◌else◌}
use Rattle.bench_types.specs.declared.header.Header.{Header}
use Rattle.bench_types.specs.declared.step.Step.{Step}
use Rattle.list_orders.specs.Search.{numbers}
use Rattle.bench_model.specs.Session.{state_at, step_of}
use Rattle.bench_model.specs.Start.{start}
use Rattle.bench_model.specs.Table.{Table}
use Rattle.run_views.specs.declared.look.Look.{Look}
use Rattle.run_views.specs.declared.places.Places.{Places}
use Rattle.run_views.specs.Looks.{look_of}
use Rattle.run_views.specs.Trace.{shows}
use Rattle.run_pictures.specs.declared.run_looks.RunLooks.{RunLooks}
use Rattle.run_pictures.specs.declared.run_looks.Made.{Made}

-- the places of the session that are shown
abbrev pub shown_places : Places → List Step → List ℕ
shown_places places steps = filter (shows places) (numbers (suc (length steps)))

-- what can be seen at each of them
unfoldable pub looks_of : Places → Header → List Step → List Look
looks_of places header steps =
    map (λ place. look_of (state_at header steps place)) (shown_places places steps)

-- what the place has, where it is shown
abbrev pub where_shown : {X : Type 0} → Places → ℕ → X → List X
where_shown places place one = if shows places place then one ∷ [] else []

-- of the steps from a table on those that are made at places that are shown, each with its reply;
-- the first step is made at the place
abbrev pub made_from : Places → ℕ → Table → List Step → List Made
made_from places place table [] = []
made_from places place table (step ∷ steps) =
    let outcome = step_of step table in
    where_shown places place (record { step = step; reply = outcome.0 })
    ++ made_from places (suc place) outcome.1 steps

unfoldable pub run_looks : Places → Header → List Step → RunLooks
run_looks places header steps = record {
  looks = looks_of places header steps;
  made = made_from places 0 (start header) steps;
}

-- the run was filmed
pub record IsSeenRun (places : Places) (header : Header) (steps : List Step)
    (looks_old looks_new : List Look) (made_old made_new : List Made) : Type 0 where
  pub looks : looks_new ≡ looks_old ++ looks_of places header steps
  pub made : made_new ≡ made_old ++ made_from places 0 (start header) steps
