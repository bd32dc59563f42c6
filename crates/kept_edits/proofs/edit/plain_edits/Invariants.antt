use Rattle.std.proofs.Common.{◌≡◌, ◌++◌, drop}
use Rattle.kept_edits.specs.Edits.{plain_edits}
use Rattle.kept_edits.proofs.edit.plain_edits.Given as goal

-- the edits that were found, and those from here on that are left to look at
abbrev pub invariant-loop-edit : goal.invariant-loop-edit
invariant-loop-edit l = l.plain.items ++ plain_edits (drop l.edit-index l.edits) ≡ plain_edits l.edits
