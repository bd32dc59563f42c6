-- What people are told of edits that are refused.
use Rattle.std.specs.Prelude.{ℕ, List, ◌++◌, flat_map, codes, decimal}
use Rattle.bench_types.specs.Session.{Session}
use Rattle.kept_edits.specs.declared.edit.KeptEdit.{KeptEdit}
use Rattle.session_edits.specs.Notes.{refused_line}
use Rattle.kept_notes.specs.declared.refused.RefusedKept.{RefusedKept}
use Rattle.kept_notes.specs.declared.refused.RefusedKept.TheVariants as refusals
use Rattle.kept_notes.specs.Refused.{refused_kept}

-- the line of a change of work where no call begins, which counts as J1
unfoldable pub no_call_line : ℕ → ℕ → List ℕ
no_call_line index at =
    codes "edit " ++ decimal index ++ codes " refused J1: no call begins at step " ++ decimal at
    ++ codes "\n"

-- the line of an edit that is refused
abbrev pub kept_line : RefusedKept → List ℕ
kept_line (refusals.Plain refused) = refused_line refused
kept_line (refusals.Work index at) = no_call_line index at

-- of edits that are made one after another, a line for each that is refused
abbrev pub kept_notes : Session → List KeptEdit → List ℕ
kept_notes session edits = flat_map kept_line (refused_kept session edits)
