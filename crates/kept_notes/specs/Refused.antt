-- The edits that are refused, where the run of the edited session keeps work.
use Rattle.std.specs.Prelude.{ℕ, suc, List, [], ◌∷◌, ◌++◌, map, ⊤, if◌then◌else◌}
use Rattle.bench_types.specs.declared.header.Header.{Header}
use Rattle.bench_types.specs.Edit.{IsCheckedEdit}
use Rattle.bench_types.specs.Session.{Session}
use Rattle.bench_model.specs.Edits.{after_edit}
use Rattle.kept_edits.specs.declared.edit.KeptEdit.{KeptEdit}
use Rattle.kept_edits.specs.declared.edit.KeptEdit.TheVariants.{Plain, Work}
use Rattle.kept_runs.specs.Items.{is_call, passes_at}
use Rattle.session_edits.specs.declared.refused.RefusedEdit.{RefusedEdit}
use Rattle.session_edits.specs.Refused.{refused_at}
use Rattle.kept_notes.specs.declared.refused.RefusedKept.{RefusedKept}
use Rattle.kept_notes.specs.declared.refused.RefusedKept.TheVariants as refusals

-- an edit of the session was checked under the header
abbrev pub IsCheckedKept : Header → KeptEdit → Type 0
IsCheckedKept header (Plain edit) = IsCheckedEdit header edit
IsCheckedKept header (Work at change) = ⊤

-- an edit of the session that is refused
abbrev pub plain_one : RefusedEdit → RefusedKept
plain_one refused = refusals.Plain refused

-- The edit of the session, where it is refused. A change of work is refused at a place at which no
-- call begins.
abbrev pub refused_kept_at : ℕ → Session → KeptEdit → List RefusedKept
refused_kept_at index session (Plain edit) = map plain_one (refused_at index session edit)
refused_kept_at index session (Work at change) =
    if passes_at is_call session.steps at then [] else refusals.Work index at ∷ []

-- the session after the edit; changes of work leave it
abbrev pub after_kept : Session → KeptEdit → Session
after_kept session (Plain edit) = after_edit session edit
after_kept session (Work at change) = session

-- those of edits that are made one after another, the first of which has the index
abbrev pub refused_kept_from : ℕ → Session → List KeptEdit → List RefusedKept
refused_kept_from index session [] = []
refused_kept_from index session (edit ∷ edits) =
    refused_kept_at index session edit
    ++ refused_kept_from (suc index) (after_kept session edit) edits

-- those of edits that are made one after another
abbrev pub refused_kept : Session → List KeptEdit → List RefusedKept
refused_kept session edits = refused_kept_from 0 session edits

-- its place among the edits
abbrev pub index_of : RefusedKept → ℕ
index_of (refusals.Plain refused) = refused.index
index_of (refusals.Work index at) = index

-- their places
abbrev pub places_of : List RefusedKept → List ℕ
places_of refused = map index_of refused
