-- The laws of edits that are refused. Each is a clause of a public function.
use Rattle.std.specs.Prelude.{◌≡◌, ◌↔◌, ℕ, List, [], Contains, false, fold, map, take, Some, slice_get}
use Rattle.bench_types.specs.declared.edit.Edit.{Edit}
use Rattle.bench_types.specs.Session.{Session}
use Rattle.kept_edits.specs.declared.edit.KeptEdit.{KeptEdit}
use Rattle.kept_edits.specs.declared.edit.KeptEdit.TheVariants.{Plain}
use Rattle.kept_edits.specs.declared.edit.WorkChange.{WorkChange}
use Rattle.kept_runs.specs.Items.{edited_session, is_call, items_worked, passes_at, Item}
use Rattle.session_edits.specs.Notes.{edit_notes}
use Rattle.kept_notes.specs.declared.refused.RefusedKept.{RefusedKept}
use Rattle.kept_notes.specs.Notes.{kept_notes}
use Rattle.kept_notes.specs.Refused.{after_kept, refused_kept, refused_kept_at}

-- of the edits one is refused, in the session after those before it
abbrev pub IsRefusedAmong : Session → List KeptEdit → RefusedKept → Type 0
IsRefusedAmong session edits refused =
    (index : ℕ) × (edit : KeptEdit) × (slice_get edits index ≡ Some edit)
    × Contains (refused_kept_at index (edited_session session (take index edits)) edit) refused

-- those that are refused, and no others
abbrev pub RefusedKeptAreThese : Type 0
RefusedKeptAreThese =
    (session : Session) (edits : List KeptEdit) (refused : RefusedKept)
    → Contains (refused_kept session edits) refused ↔ IsRefusedAmong session edits refused

-- one after another the edits lead to the edited session
abbrev pub KeptAreMade : Type 0
KeptAreMade =
    (session : Session) (edits : List KeptEdit)
    → fold after_kept session edits ≡ edited_session session edits

-- where no call begins a change of work leaves the items
abbrev pub RefusedChangesNothing : Type 0
RefusedChangesNothing =
    (items : List Item) (at : ℕ) (change : WorkChange)
    → passes_at is_call (map (λ (item : Item). item.step) items) at ≡ false
    → items_worked at change items ≡ items

-- of edits of the session alone the same is told as of edits of a session
abbrev pub PlainAreNoted : Type 0
PlainAreNoted =
    (session : Session) (edits : List Edit)
    → kept_notes session (map Plain edits) ≡ edit_notes session edits

-- nothing is told exactly where none is refused
abbrev pub NoneRefusedNothingTold : Type 0
NoneRefusedNothingTold =
    (session : Session) (edits : List KeptEdit)
    → (kept_notes session edits ≡ []) ↔ (refused_kept session edits ≡ [])
