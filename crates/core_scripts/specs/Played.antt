-- What a history has of the scripts that were played.
use Rattle.std.specs.Prelude.{◌≡◌, ◌⊎◌, ◌<◌, ℕ, suc, List, ◌++◌, [], length, All, EachIndex, get_or}
use Rattle.bench_types.specs.declared.core_action.CoreAction.{CoreAction}
use Rattle.bench_types.specs.declared.entry.Entry.{Entry}
use Rattle.bench_types.specs.declared.header.Header.{Header}
use Rattle.bench_model.specs.History.{made_by}
use Rattle.core_scripts.specs.Parts.{HasIdleOn}
use Rattle.core_scripts.specs.Scripts.{IsClose, IsPartOf, SwitchesAndHolds, core_actions_of, interrupts_of}

-- The entries of a core are those kept of its script, each an action of it, in its order, and then
-- closes of its holds.
-- With room left, each tick and interrupt is kept. With more than one place left, all is, unless an
-- idle task was on the core or the script both switches and holds.
pub record IsPlayed (header : Header) (limit : ℕ) (entries : List Entry) (core : ℕ)
    (script : List CoreAction) : Type 0 where
  pub kept : List Entry
  pub closes : List Entry
  pub made : made_by core entries ≡ kept ++ closes
  pub actions : length (core_actions_of kept) ≡ length kept
  pub part : IsPartOf script (core_actions_of kept)
  pub are_closes : All IsClose closes
  pub interrupts :
      length entries < limit → interrupts_of (core_actions_of kept) ≡ interrupts_of script
  pub all :
      suc (length entries) < limit →
      (core_actions_of kept ≡ script) ⊎ HasIdleOn header core entries ⊎ SwitchesAndHolds script

-- so it is of the script of each core
abbrev pub ArePlayed : Header → ℕ → List Entry → List (List CoreAction) → Type 0
ArePlayed header limit entries scripts =
    EachIndex scripts
    (λ core. IsPlayed header limit entries core (get_or scripts core []))
