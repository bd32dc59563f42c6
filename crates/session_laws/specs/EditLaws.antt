-- The laws of edits. Each is a clause of a public function.
use Rattle.std.specs.Prelude.{◌≡◌, ◌≤◌, Ok, length}
use Rattle.bench_types.specs.declared.edit.Edit.{Edit}
use Rattle.bench_types.specs.Edit.{IsEditOfWords}
use Rattle.bench_types.specs.Limits.{max_steps}
use Rattle.bench_types.specs.Session.{Session, IsSession}
use Rattle.bench_model.specs.Edits.{accepted, edited}

-- an accepted edit of a session leaves a session
abbrev pub EditKeepsSession : Type 0
EditKeepsSession =
    (session : Session) (edit : Edit) → IsSession session → IsEditOfWords edit
    → accepted session edit ≡ Ok tt → IsSession (edited edit session)

-- an accepted edit leaves no more steps than a session may have
abbrev pub EditKeepsRoom : Type 0
EditKeepsRoom =
    (session : Session) (edit : Edit) → length session.steps ≤ max_steps
    → accepted session edit ≡ Ok tt → length (edited edit session).steps ≤ max_steps
