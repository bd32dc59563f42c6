-- What stays along a list of checked steps: a sound table, and the settings.
use Rattle.std.proofs.Common.{◌≡◌, ℕ, List, [], ◌∷◌, refl, sym, subst, ◌∙◌, arith}
use Rattle.std.specs.Prelude.{All, fold}
use Rattle.std.proofs.lemmas.List.Elements.{All-head, All-tail}
use Rattle.bench_types.specs.declared.header.Header.{Header}
use Rattle.bench_types.specs.declared.step.Step.{Step}
use Rattle.bench_types.specs.Step.{settings_of, IsCheckedStep}
use Rattle.list_orders.specs.Search.{numbers}
use Rattle.bench_model.specs.Seek.{after_switch}
use Rattle.bench_model.specs.Session.{step_of, state_after}
use Rattle.bench_model.specs.Sound.{IsSound}
use Rattle.bench_model.specs.Start.{start, started, unstarted, first_stamps}
use Rattle.bench_model.specs.Table.{Table, stamp_queues}
use Rattle.step_laws.proofs.Nears.{after_near, turned_settings}
use Rattle.step_laws.proofs.Steps.{after_sound}

-- a step leaves the settings
pub settings_after : (table : Table) (step : Step) → IsSound table → (step_of step table).1.settings ≡ table.settings
settings_after table step sound =
    let sized = sound.consistent.sized in
    (after_near step table (omega (arith, sized.rows, sized.some_core, sized.idle_tasks))).2

-- the steps after the first are checked under the settings after it
pub checked_rest : (table : Table) (step : Step) (steps : List Step) → IsSound table → All (IsCheckedStep table.settings) (step ∷ steps) → All
    (IsCheckedStep (step_of step table).1.settings) steps
checked_rest table step steps sound all =
    subst (λ settings. All (IsCheckedStep settings) steps) (sym (settings_after table step sound)) (All-tail (IsCheckedStep table.settings) step steps all)

pub sound_along : (steps : List Step) (table : Table) → IsSound table → All (IsCheckedStep table.settings) steps → IsSound (state_after table steps)
sound_along [] table sound all = sound
sound_along (step ∷ steps) table sound all =
    sound_along steps (step_of step table).1 (after_sound step table sound (All-head (IsCheckedStep table.settings) step steps all))
    (checked_rest table step steps sound all)

pub settings_along : (steps : List Step) (table : Table) → IsSound table → All (IsCheckedStep table.settings) steps → (state_after table steps).settings ≡
    table.settings
settings_along [] table sound all = refl
settings_along (step ∷ steps) table sound all =
    settings_along steps (step_of step table).1 (after_sound step table sound (All-head (IsCheckedStep table.settings) step steps all))
    (checked_rest table step steps sound all)
    ∙ settings_after table step sound

switched_settings : (cores : List ℕ) (table : Table) → (fold (λ kernel core. after_switch stamp_queues core kernel) table cores).settings ≡ table.settings
switched_settings [] table = refl
switched_settings (core ∷ cores) table = switched_settings cores (after_switch stamp_queues core table) ∙ turned_settings core table

-- the start has the settings of its header
pub start_settings : (header : Header) → (start header).settings ≡ settings_of header
unfolding started unstarted
start_settings header = switched_settings (numbers header.config.cores) (unstarted (first_stamps header) header)
