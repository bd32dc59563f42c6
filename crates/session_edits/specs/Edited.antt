-- A session and edits of it.
use Rattle.std.specs.Prelude.{◌≡◌, List, length, Option, Some, None}
use Rattle.bench_types.specs.declared.edit.Edit.{Edit}
use Rattle.bench_types.specs.Session.{Session}
use Rattle.bench_model.specs.Edits.{after_edits}
use Rattle.session_edits.specs.declared.refused.RefusedEdit.{RefusedEdit}
use Rattle.session_edits.specs.Origins.{all_kept, origins_of, Origin}
use Rattle.session_edits.specs.Refused.{refused_edits}

-- a session, and edits of it that are made one after another
pub record EditedView : Type 0 where
  pub session : Session
  pub edits : List Edit

-- the session after the edits: where no other is kept, the session itself
abbrev pub after_of : Session → Option Session → Session
after_of before None = before
after_of before (Some after) = after

-- what is kept is what the edits make of the session
pub record AreMade (before : Session) (edits : List Edit) (after : Option Session)
    (origins : List Origin) (refused : List RefusedEdit) : Type 0 where
  pub is_after : after_of before after ≡ after_edits before edits
  pub are_origins : origins ≡ origins_of before edits (all_kept (length before.steps))
  pub are_refused : refused ≡ refused_edits before edits
