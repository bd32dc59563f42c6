-- The edited list, as an edit more is made.
use Rattle.std.specs.Prelude.{ℕ, ◌≤◌, ⊤, List, All, length}
use Rattle.bench_types.specs.declared.header.Header.{Header}
use Rattle.bench_types.specs.declared.kernel_data.Settings.{Settings}
use Rattle.bench_types.specs.Edit.{IsCheckedEdit}
use Rattle.bench_types.specs.Limits.{max_steps}
use Rattle.bench_types.specs.Session.{Session}
use Rattle.bench_types.specs.Step.{IsCheckedStep}
use Rattle.kept_edits.specs.declared.edit.KeptEdit.{KeptEdit}
use Rattle.kept_edits.specs.declared.edit.KeptEdit.TheVariants.{Plain, Work}
use Rattle.kept_runs.specs.Items.{Item, items_after, items_worked}

-- after an edit of the session
abbrev pub items_after_kept : ℕ → Session → KeptEdit → List Item → List Item
items_after_kept count session (Plain edit) items = items_after count session edit items
items_after_kept count session (Work at change) items = items_worked at change items

-- what a step of a list of a document of so many steps may be, behind so many edits
pub record IsItem (settings : Settings) (count edits : ℕ) (item : Item) : Type 0 where
  pub checked : IsCheckedStep settings item.step
  pub anchor : item.anchor ≤ count
  pub few : length item.changes ≤ edits

-- a list of steps that a session may have
pub record AreItems (settings : Settings) (count edits : ℕ) (items : List Item) : Type 0 where
  pub each : All (IsItem settings count edits) items
  pub room : length items ≤ max_steps
