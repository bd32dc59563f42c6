-- The edits of a session that are refused.
use Rattle.std.specs.Prelude.{◌≡◌, ◌≢◌, ℕ, suc, List, [], ◌∷◌, ◌++◌, All, Contains, length, map, take, Some, slice_get, Result, Ok, Err, ⊤}
use Rattle.bench_types.specs.declared.edit.Edit.{Edit}
use Rattle.bench_types.specs.declared.edit.EditFault.{EditFault}
use Rattle.bench_types.specs.Edit.{IsCheckedEdit}
use Rattle.bench_types.specs.Session.{Session}
use Rattle.bench_model.specs.Edits.{accepted, after_edit, after_edits, edited}
use Rattle.session_edits.specs.declared.refused.RefusedEdit.{RefusedEdit}

-- none where nothing speaks against the edit
abbrev pub refused_by : ℕ → ℕ → Result ⊤ EditFault → List RefusedEdit
refused_by index steps (Ok done) = []
refused_by index steps (Err why) = record { index = index; steps = steps; why = why } ∷ []

-- the edit of the session, where it is refused
abbrev pub refused_at : ℕ → Session → Edit → List RefusedEdit
refused_at index session edit = refused_by index (length session.steps) (accepted session edit)

-- those of edits that are made one after another, the first of which has the index
abbrev pub refused_from : ℕ → Session → List Edit → List RefusedEdit
refused_from index session [] = []
refused_from index session (edit ∷ edits) =
    refused_at index session edit ++ refused_from (suc index) (after_edit session edit) edits

-- those of edits that are made one after another
abbrev pub refused_edits : Session → List Edit → List RefusedEdit
refused_edits session edits = refused_from 0 session edits

-- their places among the edits
abbrev pub places_of : List RefusedEdit → List ℕ
places_of refused = map (λ (one : RefusedEdit). one.index) refused

abbrev pub refused_places : Session → List Edit → List ℕ
refused_places session edits = places_of (refused_edits session edits)

-- those of edits that are each tried alone, the first of which has the index
abbrev pub untried_from : ℕ → Session → List Edit → List RefusedEdit
untried_from index session [] = []
untried_from index session (edit ∷ edits) =
    refused_at index session edit ++ untried_from (suc index) session edits

-- some edit is refused
abbrev pub HasRefusedEdit : Session → List Edit → Type 0
HasRefusedEdit session edits = refused_edits session edits ≢ []

-- the session has so many steps, and each edit was checked under its header
pub record IsCounted (steps : ℕ) (edits : List Edit) (session : Session) : Type 0 where
  pub many : length session.steps ≡ steps
  pub checked : All (IsCheckedEdit session.header) edits

-- what the edit of the session leads to: so many steps, or a refusal
abbrev pub IsAnswer : Session → Edit → Result ℕ EditFault → Type 0
IsAnswer session edit (Ok steps) =
    (accepted session edit ≡ Ok tt) × (length (edited edit session).steps ≡ steps)
IsAnswer session edit (Err why) = accepted session edit ≡ Err why

-- of the edits the one at that place is refused, in the session after those before it
pub record IsRefusedAmong (session : Session) (edits : List Edit) (refused : RefusedEdit) :
    Type 0 where
  pub edit : Edit
  pub stands : slice_get edits refused.index ≡ Some edit
  pub steps : length (after_edits session (take refused.index edits)).steps ≡ refused.steps
  pub refuses : accepted (after_edits session (take refused.index edits)) edit ≡ Err refused.why

-- those that are refused, and no others
abbrev pub RefusedAreThese : Type 0
RefusedAreThese =
    (session : Session) (edits : List Edit) (refused : RefusedEdit)
    → (Contains (refused_edits session edits) refused → IsRefusedAmong session edits refused)
    × (IsRefusedAmong session edits refused → Contains (refused_edits session edits) refused)
