-- Sessions with edits of them, of works too.
use Rattle.std.specs.Prelude.{◌≡◌, List, [], All}
use Rattle.bench_types.specs.Session.{Session}
use Rattle.kept_edits.specs.declared.edit.KeptEdit.{KeptEdit}
use Rattle.kept_edits.specs.Edits.{plain_edits}
use Rattle.kept_edits.specs.Edits.{IsKeptEdit}
use Rattle.session_edits.specs.Edited.{EditedView}

-- a session, and edits of it that are made one after another
pub record KeptView : Type 0 where
  pub session : Session
  pub edits : List KeptEdit

-- the same session, and no edit of it
abbrev pub without_edits : KeptView → KeptView
without_edits made = record { session = made.session; edits = [] }

-- the edits of the session are those of these, and each was checked
pub record AreKeptEdits (edited : EditedView) (edits : List KeptEdit) : Type 0 where
  pub plain : edited.edits ≡ plain_edits edits
  pub checked : All (IsKeptEdit edited.session.header) edits
