use Rattle.std.proofs.Common.{◌≡◌, map, take}
use Rattle.kept_notes.specs.Refused.{index_of}
use Rattle.kept_notes.proofs.refused.refused_places.Given as goal

abbrev pub invariant-loop-one : goal.invariant-loop-one
invariant-loop-one l = l.places.items ≡ map index_of (take l.one-index l.refused)
