use Rattle.std.proofs.Common.{◌≡◌, flat_map, string_bytes, take}
use Rattle.session_edits.specs.Notes.{refused_line}
use Rattle.session_edits.proofs.notes.lines_of.Given as goal

abbrev pub invariant-loop-one : goal.invariant-loop-one
invariant-loop-one l = string_bytes l.text ≡ flat_map refused_line (take l.one-index l.refused)
