use Rattle.std.proofs.Common.{◌≡◌, flat_map, string_bytes, take}
use Rattle.kept_notes.specs.Notes.{kept_line}
use Rattle.kept_notes.proofs.notes.kept_notes.Given as goal

abbrev pub invariant-loop-one : goal.invariant-loop-one
invariant-loop-one l = string_bytes l.text ≡ flat_map kept_line (take l.one-index l.refused)
