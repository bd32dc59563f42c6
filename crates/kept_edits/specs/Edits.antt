-- Edits of a session whose run keeps work.
use Rattle.std.specs.Prelude.{List, Option, Some, None, filter_map, ⊤}
use Rattle.bench_types.specs.declared.edit.Edit.{Edit}
use Rattle.bench_types.specs.declared.header.Header.{Header}
use Rattle.bench_types.specs.Edit.{IsCheckedEdit}
use Rattle.kept_edits.specs.declared.edit.KeptEdit.{KeptEdit}
use Rattle.kept_edits.specs.declared.edit.KeptEdit.TheVariants.{Plain, Work}

-- the edit of the session, where it is one
abbrev pub plain_edit : KeptEdit → Option Edit
plain_edit (Plain edit) = Some edit
plain_edit (Work at change) = None

-- the edits of the session, in their order
abbrev pub plain_edits : List KeptEdit → List Edit
plain_edits edits = filter_map plain_edit edits

-- an edit that was checked against the header; a change of work fits each
abbrev pub IsKeptEdit : Header → KeptEdit → Type 0
IsKeptEdit header (Plain edit) = IsCheckedEdit header edit
IsKeptEdit header (Work at change) = ⊤
