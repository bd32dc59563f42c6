-- What people are told of edits that are refused.
use Rattle.std.specs.Prelude.{◌≡◌, ◌↔◌, ℕ, List, [], ◌∷◌, ◌++◌, flat_map, codes, decimal, ◌==◌, if◌then◌else◌}
use Rattle.bench_types.specs.Codes.{edit_fault_code}
use Rattle.bench_types.specs.declared.edit.Edit.{Edit}
use Rattle.bench_types.specs.declared.edit.EditFault.{EditFault}
use Rattle.bench_types.specs.declared.edit.EditFault.TheVariants.{Bench, NoPlace, TooLong}
use Rattle.bench_types.specs.Session.{Session}
use Rattle.session_edits.specs.declared.refused.RefusedEdit.{RefusedEdit}
use Rattle.session_edits.specs.Refused.{refused_edits, untried_from}

-- what follows a word of which there are so many
abbrev pub plural : ℕ → List ℕ
plural count = if count == 1 then [] else codes "s"

-- how many steps the session has
unfoldable pub count_text : ℕ → List ℕ
count_text steps = codes ": the session has " ++ decimal steps ++ codes " step" ++ plural steps

-- what of a session of so many steps speaks against the edit; a fault of its header needs no word
abbrev pub reason_text : ℕ → EditFault → List ℕ
reason_text steps (Bench fault) = []
reason_text steps NoPlace = count_text steps
reason_text steps TooLong = count_text steps ++ codes ", the most that it may have"

-- the line of an edit that is refused
unfoldable pub refused_line : RefusedEdit → List ℕ
refused_line refused =
    codes "edit " ++ decimal refused.index ++ codes " refused " ++ edit_fault_code refused.why
    ++ reason_text refused.steps refused.why ++ codes "\n"

-- of edits that are made one after another, a line for each that is refused
unfoldable pub edit_notes : Session → List Edit → List ℕ
edit_notes session edits = flat_map refused_line (refused_edits session edits)

-- of edits that are each tried alone the same, and a line where there are none
unfoldable pub trial_notes : Session → List Edit → List ℕ
trial_notes session [] = codes "no edits: nothing was tried\n"
trial_notes session (edit ∷ edits) = flat_map refused_line (untried_from 0 session (edit ∷ edits))

-- something is told of edits that are made one after another where one is refused, and else nothing
abbrev pub RefusedArePrinted : Type 0
RefusedArePrinted =
    (session : Session) (edits : List Edit)
    → (edit_notes session edits ≡ []) ↔ (refused_edits session edits ≡ [])
